-- Business objects, as all of them together are seen. They are this project's own.
use Rattle.std.specs.Prelude.{ℕ, List, [], map, Option}
use Rattle.std.specs.List.{AllByRecursion, flat_map}
use Rattle.std.specs.Option.{option_and_then, option_map, unwrap_or}
use Rattle.ale_base.specs.declared.change.FieldValue.{FieldValue}
use Rattle.object_store.specs.declared.object.Object.{Object}
use Rattle.object_store.specs.Texts.{IsAscending, entry_at, with_entry}

-- the fields of an object that are not blank, by their names, each with its bytes
abbrev pub Fields : Type 0
Fields = List (List ℕ × List ℕ)

-- the objects of a kind, by their keys
abbrev pub OfKind : Type 0
OfKind = List (List ℕ × Fields)

-- all objects: those of each kind that has some, by the names of the kinds. What they are is all that there is to a store, so
-- two stores with the same objects are equal
abbrev pub ObjectsOf : Type 0
ObjectsOf = List (List ℕ × OfKind)

-- no objects
abbrev pub no_objects : ObjectsOf
no_objects = []

-- the objects of a kind; none where it has none
abbrev pub of_kind : List ℕ → ObjectsOf → OfKind
of_kind kind objects = unwrap_or (entry_at kind objects) []

-- the object of a kind and a key, as its fields; none where it is not there
abbrev pub object_at : List ℕ → List ℕ → ObjectsOf → Option Fields
object_at kind key objects = option_and_then (entry_at key) (entry_at kind objects)

-- the bytes of a field; none where it is blank
abbrev pub value_in : List ℕ → Fields → List ℕ
value_in field fields = unwrap_or (entry_at field fields) []

-- the bytes of a field of an object, if the object is there
abbrev pub value_of : List ℕ → List ℕ → List ℕ → ObjectsOf → Option (List ℕ)
value_of kind key field objects = option_map (value_in field) (object_at kind key objects)

-- these are the fields of an object from now on, whether or not it was there; all others stay
abbrev pub with_object : List ℕ → List ℕ → Fields → ObjectsOf → ObjectsOf
with_object kind key fields objects = with_entry kind (with_entry key fields (of_kind kind objects)) objects

-- a field as it is listed
abbrev pub listed_field : List ℕ × List ℕ → FieldValue
listed_field entry = record { field = entry.0; value = entry.1 }

-- an object as it is listed
abbrev pub listed_object : List ℕ → List ℕ × Fields → Object
listed_object kind entry = record { kind = kind; key = entry.0; fields = map listed_field entry.1 }

-- the keys of a kind ascend, and so do the names of the fields of each of its objects
pub record IsAscendingKind (objects : OfKind) : Type 0 where
  pub keys : IsAscending objects
  pub names : AllByRecursion (λ entry. IsAscending entry.1) objects

-- all objects, by kind and key, each with its fields that are not blank, by name
abbrev pub listed : ObjectsOf → List Object
listed objects = flat_map (λ entry. map (listed_object entry.0) entry.1) objects
