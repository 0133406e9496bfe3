use Rattle.std.specs.Map.Iter.{deref_pair}
use Rattle.std.proofs.Common.{◌≡◌, map}
use Rattle.object_store.specs.Objects.{listed_field}
use Rattle.object_store.proofs.objects.listed_fields.Given as goal

abbrev pub invariant-loop-field : goal.invariant-loop-field
invariant-loop-field l = l.list ≡ map (λ entry. listed_field (entry.0.items, entry.1)) (map deref_pair l.yielded)
