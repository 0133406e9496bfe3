-- Rounds of all systems.
use Rattle.std.specs.Prelude.{◌≤◌, ◌+◌, ℕ, Option, Some, None}
use Rattle.trfc_protocol.specs.declared.world.World.{World}
use Rattle.document_state.specs.declared.model_rules.ModelRules.{ModelRules}
use Rattle.unit_works.specs.Worked.{NothingIn, NothingOut}

-- nothing is offered at a system
abbrev pub NothingAt : World ModelRules → ℕ → Type 0
NothingAt world system = NothingOut world system × NothingIn world system

-- nothing is offered at the first systems
abbrev pub NothingTo : World ModelRules → ℕ → Type 0
NothingTo world number = (system : ℕ) → 1 ≤ system → system ≤ number → NothingAt world system

-- what was found here and there
abbrev pub joined : Option ℕ → Option ℕ → Option ℕ
joined None there = there
joined (Some n) None = Some n
joined (Some n) (Some m) = Some (n + m)
