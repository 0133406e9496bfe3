use Rattle.std.proofs.Common.{◌≡◌, take}
use Rattle.object_store.specs.Posting.{with_fields}
use Rattle.object_store.proofs.putting.set_fields.Given as goal

abbrev pub invariant-loop-value : goal.invariant-loop-value
invariant-loop-value l = l.fields ≡ with_fields (take l.value-index l.values) l.initial.fields
