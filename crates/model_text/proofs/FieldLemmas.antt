-- The fields of a segment type: their names, and how wide they are together.
use Rattle.std.proofs.Common.{◌≡◌, ℕ, ◌+◌, List, [], ◌∷◌, ◌++◌, sym, ap, ◌∙◌, arith}
use Rattle.std.proofs.lemmas.List.{map_push}
use Rattle.std.proofs.lemmas.List.Sums.{sum_by-append}
use Rattle.segment_defs.specs.declared.field.Field.{Field}
use Rattle.segment_defs.specs.Version.{width_of}
use Rattle.model_text.specs.Fields.{field_names}

-- one more field is as much wider as its length
pub width_of-push : (fields : List Field) (field : Field) → width_of (fields ++ field ∷ []) ≡ width_of fields + field.length
width_of-push fields field = omega (arith, sum_by-append (λ (f : Field). f.length) fields (field ∷ []))

-- and has one more name
pub field_names-push : (names : List (List ℕ)) (fields : List Field) (field : Field) → names ≡ field_names fields →
    names ++ field.name ∷ [] ≡ field_names (fields ++ field ∷ [])
field_names-push names fields field is =
    ap (λ ns. ns ++ field.name ∷ []) is ∙ sym (map_push (λ (f : Field). f.name) fields field)
