use Rattle.std.proofs.Common.{ℕ, ◌+◌, ◌<◌}
use Rattle.unit_core.specs.Systems.{lent, of_system}
use Rattle.once_check.specs.steps.OneSystem.{IsUnbrokenIn}
use Rattle.once_check.proofs.first.find_breach.Given as goal

-- the systems so far have no breach
abbrev pub invariant-loop-at : goal.invariant-loop-at
invariant-loop-at l = (system : ℕ) → system < l.at + 1 → IsUnbrokenIn (of_system (lent l.committed)) (of_system (lent l.logs)) system
