-- The data of an object's segment, field by field.
use Rattle.std.specs.Prelude.{◌==◌, slice_get, if◌then◌else◌}
use Rattle.std.specs.Option.{option_map_or}
use Rattle.std.proofs.Common.{◌≡◌, ℕ, ◌+◌, ◌<◌, ◌≤◌, Some, List, [], ◌∷◌, ◌++◌, length, take, get_or, sym, ap, ◌∙◌, arith}
use Rattle.std.proofs.lemmas.List.{take_more, length-take}
use Rattle.ale_base.specs.Blanks.{padded}
use Rattle.idoc_record.specs.declared.control_field.ControlField.{ControlField}
use Rattle.idoc_record.specs.declared.control_field.ControlField.TheVariants.{Tabnam}
use Rattle.idoc_record.specs.ControlField.{span_of}
use Rattle.idoc_record.specs.Control.{blank_text}
use Rattle.segment_defs.specs.declared.field.Field.{Field}
use Rattle.segment_defs.specs.Version.{texts_joined}
use Rattle.segment_defs.proofs.FieldLemmas.{texts_joined-push}
use Rattle.object_store.specs.Objects.{Fields, value_in}
use Rattle.change_pointers.specs.Master.{object_text}

-- a blank record has room for the texts that it holds
pub blank-room : (field : ControlField) → length (blank_text field) ≤ (span_of field).length
blank-room Tabnam = omega arith
blank-room _ = omega arith

-- the texts of one field more
pub texts-more : (fields : List Field) (texts : ℕ → List ℕ) (i : ℕ) (field : Field) → i < length fields → field ≡ get_or fields i field
    → texts_joined (take (i + 1) fields) texts ≡ texts_joined (take i fields) texts ++ padded field.length (texts i)
texts-more fields texts i field within here =
    let long : length (take i fields) ≡ i = omega (arith, length-take i fields) in
    ap (λ (some : List Field). texts_joined some texts) (take_more fields i field within ∙ ap (λ (f : Field). take i fields ++ f ∷ []) (sym here))
    ∙ texts_joined-push (take i fields) field texts
    ∙ ap (λ (n : ℕ). texts_joined (take i fields) texts ++ padded field.length (texts n)) long

-- the text of an object's field
pub object_text-at : (fields : List Field) (key_place : ℕ) (key : List ℕ) (values : Fields) (place : ℕ) (field : Field) → slice_get fields place ≡ Some field
    → object_text fields key_place key values place ≡ take field.length (if place == key_place then key else value_in field.name values)
object_text-at fields key_place key values place field here =
    ap (λ found. take (option_map_or (λ (f : Field). f.length) found 0)
    (if place == key_place then key else value_in (option_map_or (λ (f : Field). f.name) found []) values)) here
