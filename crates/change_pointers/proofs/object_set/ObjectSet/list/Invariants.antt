use Rattle.std.specs.Map.Iter.{deref}
use Rattle.std.proofs.Common.{◌≡◌, map}
use Rattle.change_pointers.proofs.ObjectLemmas.{named}
use Rattle.change_pointers.proofs.object_set.ObjectSet.list.Given as goal

abbrev pub invariant-loop-kind : goal.invariant-loop-kind
invariant-loop-kind l = l.list ≡ map (named (λ name. name.items)) (map deref l.yielded)
