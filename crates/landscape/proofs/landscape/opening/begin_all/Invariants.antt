use Rattle.std.proofs.Common.{◌≡◌, ℕ, Option}
use Rattle.unit_landscape.specs.Beginning.{HaveBegun}
use Rattle.landscape.specs.steps.Opening.{AreBegunSoFar, rules_of}
use Rattle.landscape.proofs.landscape.opening.begin_all.Given as goal

abbrev pub invariant-loop-number : goal.invariant-loop-number
invariant-loop-number g l = record {
  all : l.kept.world.rules.systems ≡ l.systems;
  begun : HaveBegun rules_of l.number l.kept.world;
  so_far : (set : Option ℕ) (before : g.row.V.Denot) → AreBegunSoFar g.V.Volumes.disk l.systems l.text set before 0 l.fn.kept
      → AreBegunSoFar g.V.Volumes.disk l.systems l.text set before l.number l.kept;
}
