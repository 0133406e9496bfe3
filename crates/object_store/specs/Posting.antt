-- What postings and puts make of objects. This project's own.
use Rattle.std.specs.Prelude.{ℕ, ◌==◌, Bool, ◌&&◌, List, [], length, fold, is_some, if◌then◌else◌}
use Rattle.std.specs.List.{list_any}
use Rattle.std.specs.Option.{unwrap_or}
use Rattle.ale_base.specs.Blanks.{trimmed}
use Rattle.ale_base.specs.declared.change.FieldValue.{FieldValue}
use Rattle.object_store.specs.declared.posting.Posting.{Posting}
use Rattle.object_store.specs.declared.posting.Outcome.{Outcome}
use Rattle.object_store.specs.declared.posting.Outcome.TheVariants.{Posted, Refused}
use Rattle.object_store.specs.Texts.{with_entry, without_entry}
use Rattle.object_store.specs.Objects.{Fields, ObjectsOf, object_at, value_in, with_object}

-- whether a text has no bytes
abbrev pub is_bare : List ℕ → Bool
is_bare text = length text == 0

-- a field has these bytes from now on; it is blank where there are none
abbrev pub with_bytes : List ℕ → List ℕ → Fields → Fields
with_bytes field bytes fields = if is_bare bytes then without_entry field fields else with_entry field bytes fields

-- a field gets a value: the blanks at its end are no part of it
abbrev pub with_field : Fields → FieldValue → Fields
with_field fields field = with_bytes field.field (trimmed field.value) fields

-- fields get values, one behind the other; all others stay
abbrev pub with_fields : List FieldValue → Fields → Fields
with_fields values fields = fold with_field fields values

-- the fields of an object; one that is not there has all blank
abbrev pub fields_of : List ℕ → List ℕ → ObjectsOf → Fields
fields_of kind key objects = unwrap_or (object_at kind key objects) []

-- what an object is once these fields get values
abbrev pub changed_fields : List ℕ → List ℕ → List FieldValue → ObjectsOf → Fields
changed_fields kind key values objects = with_fields values (fields_of kind key objects)

-- an object gets values in these fields; where it is not there, it is made
abbrev pub put_in : List ℕ → List ℕ → List FieldValue → ObjectsOf → ObjectsOf
put_in kind key values objects = with_object kind key (changed_fields kind key values objects) objects

-- what a posting makes of the objects: the fields that it has replace those of its object
abbrev pub posted : Posting → ObjectsOf → ObjectsOf
posted posting objects = put_in posting.kind posting.key posting.fields objects

-- whether one of these fields is blank
abbrev pub lacks_one : List (List ℕ) → Fields → Bool
lacks_one names fields = list_any (λ name. is_bare (value_in name fields)) names

-- what comes of a posting whose object would have these fields, and is there or not: the first reason that applies refuses it.
-- 1: it has no key. 2: a field that must be filled would be blank. 3: it is to make an object, and that is there
abbrev pub judged : Posting → Fields → Bool → Outcome
judged posting fields exists =
    if is_bare posting.key then Refused 1
    else (if lacks_one posting.required fields then Refused 2
    else (if posting.insert && exists then Refused 3
    else Posted))

-- what comes of a posting
abbrev pub outcome_of : Posting → ObjectsOf → Outcome
outcome_of posting objects =
    judged posting (changed_fields posting.kind posting.key posting.fields objects) (is_some (object_at posting.kind posting.key objects))

-- the objects after a posting of this outcome: one that is refused changes nothing
abbrev pub after_outcome : Outcome → Posting → ObjectsOf → ObjectsOf
after_outcome Posted posting objects = posted posting objects
after_outcome (Refused reason) posting objects = objects

-- the objects after a posting
abbrev pub applied : Posting → ObjectsOf → ObjectsOf
applied posting objects = after_outcome (outcome_of posting objects) posting objects
