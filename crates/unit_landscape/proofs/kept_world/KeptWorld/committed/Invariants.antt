use Rattle.std.proofs.Common.{◌≡◌, length}
use Rattle.trfc_protocol.specs.Worlds.{committed_by}
use Rattle.unit_landscape.specs.Counted.{sum_to}
use Rattle.unit_landscape.proofs.kept_world.KeptWorld.committed.Given as goal

abbrev pub invariant-loop-its : goal.invariant-loop-its
invariant-loop-its g l = l.all ≡ sum_to (λ system. length (committed_by (g.R.Rules.meaning l.self.world.rules) l.self.world system)) l.its-index
