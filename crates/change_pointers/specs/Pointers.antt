-- Change pointers: which fields of which objects changed, for which message types. SAP Library, ALE, change pointers; that they
-- are gathered by object is this project's own.
use Rattle.std.specs.Prelude.{ℕ, ◌==◌, Bool, not, List, [], ◌∷◌, map, filter, fold}
use Rattle.std.specs.declared.cmp.Ordering.{Ordering}
use Rattle.std.specs.Ordering.{nat_cmp, match_ordering, ordering_then}
use Rattle.std.specs.Cmp.Lexicographic.{slice_cmp}
use Rattle.change_pointers.specs.declared.pointer.Pointer.{Pointer}
use Rattle.change_pointers.specs.declared.pointer.ObjectKey.{ObjectKey}

-- the object of a pointer
abbrev pub object_of : Pointer → ObjectKey
object_of pointer = record { kind = pointer.kind; key = pointer.key }

-- whether a pointer is of a message type
abbrev pub is_of : ℕ → Pointer → Bool
is_of message pointer = pointer.message == message

-- byte order of the kinds, and of the keys where the kinds are the same
abbrev pub object_cmp : ObjectKey → ObjectKey → Ordering
object_cmp a b = ordering_then (slice_cmp nat_cmp a.kind b.kind) (slice_cmp nat_cmp a.key b.key)

-- an object among others in byte order; one that is among them is there once
abbrev pub with_object : List ObjectKey → ObjectKey → List ObjectKey
with_object [] object = object ∷ []
with_object (other ∷ objects) object =
    match_ordering (object_cmp object other) (object ∷ other ∷ objects) (other ∷ objects) (other ∷ with_object objects object)

-- the objects of which there are pointers of a message type, in byte order, each once
abbrev pub pending_of : ℕ → List Pointer → List ObjectKey
pending_of message pointers = fold with_object [] (map object_of (filter (is_of message) pointers))

-- the pointers without those of a message type
abbrev pub cleared : ℕ → List Pointer → List Pointer
cleared message pointers = filter (λ pointer. not (is_of message pointer)) pointers
