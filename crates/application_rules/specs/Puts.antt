-- Which Puts may follow a log: changes of objects by fields that the model has. This project's own.
use Rattle.std.specs.Prelude.{ℕ, ◌&&◌, Bool, false, not, List, length, map, nat_le, nat_lt, Option}
use Rattle.std.specs.List.{find, list_all}
use Rattle.std.specs.Option.{option_map_or}
use Rattle.ale_base.specs.Text.{is_text}
use Rattle.ale_base.specs.declared.change.FieldValue.{FieldValue}
use Rattle.segment_defs.specs.declared.definitions.Definitions.{Definitions}
use Rattle.segment_defs.specs.declared.field.Field.{Field}
use Rattle.unit_core.specs.Queues.{are_different}
use Rattle.dist_model.specs.declared.kind.Kind.{Kind}
use Rattle.dist_model.specs.declared.lists.Lists.{Lists}
use Rattle.dist_model.specs.Field.{all_fields}
use Rattle.change_pointers.specs.Master.{length_at}
use Rattle.change_pointers.specs.Noted.{name_at}

-- the kind of a name
abbrev pub kind_named : List ℕ → Lists → Option Kind
kind_named name model = find (λ kind. is_text name kind.name) model.kinds

-- the field of a name
abbrev pub field_of_name : List ℕ → List Field → Option Field
field_of_name name fields = find (λ field. is_text name field.name) fields

-- whether a key is one of objects whose key field is at this place: it is not empty, and no longer than that field
abbrev pub is_key : List Field → ℕ → List ℕ → Bool
is_key fields key_place key = nat_lt 0 (length key) && nat_le (length key) (length_at fields key_place)

-- whether a field may get its value: it is a field of the kind, not the key field, and no shorter than the value
abbrev pub may_get : List Field → ℕ → FieldValue → Bool
may_get fields key_place given =
    option_map_or (λ field. not (is_text given.field (name_at fields key_place)) && nat_le (length given.value) field.length)
    (field_of_name given.field fields) false

-- whether each of these fields may get its value
abbrev pub are_settable : List Field → ℕ → List FieldValue → Bool
are_settable fields key_place given = list_all (may_get fields key_place) given

-- the names of the fields that are given
abbrev pub field_names : List FieldValue → List (List ℕ)
field_names given = map (λ one. one.field) given

-- whether an object of a kind may be changed so: the key is one, there is at least one field, each may get its value, and none is
-- given twice
abbrev pub may_change : Definitions → List ℕ → List FieldValue → Kind → Bool
may_change definitions key given kind =
    is_key (all_fields definitions kind.segment) kind.key key && nat_lt 0 (length given)
    && are_settable (all_fields definitions kind.segment) kind.key given && are_different (field_names given)

-- whether a Put may follow a log whose model this is
abbrev pub may_put : Lists → List ℕ → List ℕ → List FieldValue → Bool
may_put model kind key given = option_map_or (may_change model.definitions key given) (kind_named kind model) false
