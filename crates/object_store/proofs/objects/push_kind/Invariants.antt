use Rattle.std.specs.List.{AllByRecursion}
use Rattle.std.specs.Map.Iter.{deref_pair}
use Rattle.std.proofs.Common.{◌≡◌, ◌++◌, map}
use Rattle.object_store.specs.Texts.{IsAscending}
use Rattle.object_store.specs.Objects.{listed_object}
use Rattle.object_store.proofs.objects.push_kind.Given as goal

-- the objects so far are listed, and the fields of each ascend
abbrev pub invariant-loop-key : goal.invariant-loop-key
invariant-loop-key l = record {
  listed : l.list ≡ l.initial.list ++ map (λ entry. listed_object l.kind (entry.0.items, entry.1)) (map deref_pair l.yielded);
  ascending : AllByRecursion (λ entry. IsAscending entry.1) (map deref_pair l.yielded);
}
