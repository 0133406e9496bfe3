use Rattle.std.specs.List.{AllByRecursion, flat_map}
use Rattle.std.specs.Map.Iter.{deref_pair}
use Rattle.std.proofs.Common.{◌≡◌, map}
use Rattle.object_store.specs.Objects.{IsAscendingKind, listed_object}
use Rattle.object_store.proofs.objects.Objects.list.Given as goal

-- the kinds so far are listed, and each of them ascends
abbrev pub invariant-loop-kind : goal.invariant-loop-kind
invariant-loop-kind l = record {
  listed : l.list ≡ flat_map (λ entry. map (listed_object entry.0.items) entry.1) (map deref_pair l.yielded);
  ascending : AllByRecursion (λ entry. IsAscendingKind entry.1) (map deref_pair l.yielded);
}
