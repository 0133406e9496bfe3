-- Values that are converted.
use Rattle.std.specs.Prelude.{slice_get}
use Rattle.std.specs.List.{AllByRecursion, find}
use Rattle.std.specs.Option.{option_map_or}
use Rattle.std.proofs.Common.{◌≡◌, ℕ, ◌+◌, ◌<◌, ◌≤◌, true, false, ◌&&◌, ◌==◌, inl, inr, Some, List, [], ◌∷◌, length, drop, get_or, sym, ap, ◌∙◌, arith}
use Rattle.std.proofs.lemmas.Bool.{cases_Bool, cond-true, cond-false, and_parts, eqb-true}
use Rattle.std.proofs.lemmas.Option.{same_Some}
use Rattle.ale_base.specs.Text.{is_text}
use Rattle.segment_defs.specs.declared.field.Field.{Field}
use Rattle.segment_defs.specs.declared.definitions.Definitions.{Definitions}
use Rattle.segment_defs.specs.Definitions.{AreDefinitions}
use Rattle.segment_defs.specs.Version.{HaveRoom}
use Rattle.segment_defs.proofs.FieldLemmas.{length-field_text, text_in-at}
use Rattle.dist_model.specs.declared.outbound.Convert.{Convert}
use Rattle.dist_model.specs.Field.{all_fields, IsValueOf}
use Rattle.dist_model.specs.Outbound.{IsConvert}
use Rattle.idoc_tree.specs.Forest.{Segment}
use Rattle.idoc_tree.proofs.NodeLemmas.{drop-here, drop-past}
use Rattle.version_reduce.specs.Texts.{fields_of, text_at}
use Rattle.version_reduce.specs.Converted.{replaces, converted_text}
use Rattle.version_reduce.proofs.TextLemmas.{fields_of-all}

-- the first row replaces the value
first-replaces : (row : Convert) (rows : List Convert) (type field : ℕ) (value : List ℕ) → replaces type field value row ≡ true →
    converted_text (row ∷ rows) type field value ≡ row.to
first-replaces row rows type field value is =
    ap (λ o. option_map_or (λ (r : Convert). r.to) o value) (cond-true (replaces type field value row) (Some row) (find (replaces type field value) rows) is)

-- or the others do
first-passes : (row : Convert) (rows : List Convert) (type field : ℕ) (value : List ℕ) → replaces type field value row ≡ false
    → converted_text (row ∷ rows) type field value ≡ converted_text rows type field value
first-passes row rows type field value is =
    ap (λ o. option_map_or (λ (r : Convert). r.to) o value) (cond-false (replaces type field value row) (Some row) (find (replaces type field value) rows) is)

module _ (rows : List Convert) (type field : ℕ) (value : List ℕ) (at : ℕ)
    (so_far : converted_text (drop at rows) type field value ≡ converted_text rows type field value) where
  -- a row is passed
  pub row-passes : (row : Convert) → at < length rows → row ≡ get_or rows at row → replaces type field value row ≡ false
      → converted_text (drop (at + 1) rows) type field value ≡ converted_text rows type field value
  row-passes row within here is =
      sym (first-passes row (drop (at + 1) rows) type field value is)
      ∙ ap (λ rs. converted_text rs type field value) (sym (drop-here rows at row within here)) ∙ so_far

  -- a row replaces the value
  pub row-replaces : (row : Convert) → at < length rows → row ≡ get_or rows at row → replaces type field value row ≡ true →
      row.to ≡ converted_text rows type field value
  row-replaces row within here is =
      sym (first-replaces row (drop (at + 1) rows) type field value is)
      ∙ ap (λ rs. converted_text rs type field value) (sym (drop-here rows at row within here)) ∙ so_far

  -- none does
  pub none-replaces : length rows ≤ at → value ≡ converted_text rows type field value
  none-replaces past = ap (λ rs. converted_text rs type field value) (sym (drop-past rows at past)) ∙ so_far

module _ (definitions : Definitions) (type place : ℕ) (field : Field) (here : slice_get (all_fields definitions type) place ≡ Some field) (value : List ℕ)
    (fits : length value ≤ field.length) where
  value_of-fits : (segment at : ℕ) (to : List ℕ) → segment ≡ type → at ≡ place → IsValueOf definitions segment at to → length to ≤ field.length
  value_of-fits segment at to same_type same_place is =
      let own : slice_get (all_fields definitions segment) at ≡ Some field = ap (λ s. slice_get (all_fields definitions s) at) same_type
      ∙ ap (slice_get (all_fields definitions type)) same_place ∙ here in
      let same : is.field ≡ field = same_Some is.field field (sym is.here ∙ own) in
      omega (arith, is.is.fits, ap (λ f. f.length) same)

  -- what replaces a value fits its field
  converted-fits : (rows : List Convert) → AllByRecursion (IsConvert definitions) rows → length (converted_text rows type place value) ≤ field.length
  converted-fits [] all = fits
  converted-fits (row ∷ rows) all = elim (cases_Bool (replaces type place value row)) [
    | inl is ↦
        let parts = and_parts (row.segment == type) (row.field == place && is_text row.from value) is in
        let others = and_parts (row.field == place) (is_text row.from value) parts.1 in
        let short = value_of-fits row.segment row.field row.to (eqb-true row.segment type parts.0) (eqb-true row.field place others.0) all.0.to in
        omega (arith, short, ap length (first-replaces row rows type place value is))
    | inr other ↦ omega (arith, converted-fits rows all.1, ap length (first-passes row rows type place value other))
  ]

-- the converted values of a segment have room
pub HaveRoom-converted : (definitions : Definitions) (rows : List Convert) (segment : Segment) → AreDefinitions definitions →
    AllByRecursion (IsConvert definitions) rows
    → HaveRoom (fields_of definitions segment) (λ field. converted_text rows segment.type field (text_at definitions segment field))
HaveRoom-converted definitions rows segment are all place field here =
    converted-fits definitions segment.type place field (fields_of-all definitions segment place field are here) (text_at definitions segment place)
    (omega (arith, ap length (text_in-at (fields_of definitions segment) segment.sdata place field here), length-field_text segment.sdata field)) rows all
