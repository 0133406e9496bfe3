-- The order of a listing of objects. This project's own.
use Rattle.std.specs.Prelude.{List}
use Rattle.std.specs.List.{AllByRecursion}
use Rattle.std.specs.List.Sorted.{IsStrictlySortedBy}
use Rattle.std.specs.declared.cmp.Ordering.{Ordering}
use Rattle.std.specs.Cmp.Lexicographic.{slice_cmp}
use Rattle.std.specs.Ordering.{nat_cmp, ordering_then}
use Rattle.ale_base.specs.declared.change.FieldValue.{FieldValue}
use Rattle.object_store.specs.declared.object.Object.{Object}

-- by kind in byte order, and by key where the kinds are the same
abbrev pub by_kind_and_key : Object → Object → Ordering
by_kind_and_key a b = ordering_then (slice_cmp nat_cmp a.kind b.kind) (slice_cmp nat_cmp a.key b.key)

-- by name in byte order
abbrev pub by_name : FieldValue → FieldValue → Ordering
by_name a b = slice_cmp nat_cmp a.field b.field

-- a listing ascends by kind and key, and the fields of each object by name, so that no object and no field of one is there twice
pub record IsInOrder (listing : List Object) : Type 0 where
  pub objects : IsStrictlySortedBy by_kind_and_key listing
  pub fields : AllByRecursion (λ object. IsStrictlySortedBy by_name object.fields) listing
