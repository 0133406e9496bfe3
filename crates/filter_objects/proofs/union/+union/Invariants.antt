use Rattle.std.proofs.Common.{◌≡◌, drop}
use Rattle.idoc_tree.specs.Parts.{union}
use Rattle.filter_objects.specs.steps.Members.{set_of, followed}
use Rattle.filter_objects.proofs.union.+union.Given as goal

abbrev pub invariant-union_of-loop-at : goal.invariant-union_of-loop-at
invariant-union_of-loop-at l = followed (set_of l.all.items) (union (set_of (drop l.at l.one)) (set_of (drop l.at l.other)))
    ≡ union (set_of l.one) (set_of l.other)
