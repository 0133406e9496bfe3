-- The texts of segments that are reduced or converted.
use Rattle.std.specs.Prelude.{slice_get, option_and_then, Contains, if◌then◌else◌}
use Rattle.std.specs.Cmp.Lexicographic.{bytes_decides}
use Rattle.std.specs.List.{AllByRecursion, find}
use Rattle.std.specs.Option.{option_map_or}
use Rattle.std.proofs.Common.{◌≡◌, ℕ, ◌==◌, ◌&&◌, Bool, true, false, Option, Some, None, List, [], ◌∷◌, ◌++◌, take, drop, inl, inr, refl, sym, ap, subst, ◌∙◌}
use Rattle.std.proofs.Common.{arith}
use Rattle.std.proofs.lemmas.Bool.{and_parts, cases_Bool, cond-false, cond-true, eq-eqb, eqb-true}
use Rattle.ale_base.specs.Blanks.{trimmed}
use Rattle.ale_base.specs.Text.{is_text}
use Rattle.ale_base.specs.TrimmedLemmas.{trimmed-trimmed}
use Rattle.ale_base.proofs.ListLemmas.{AllByRecursion-parts, slice_get-within}
use Rattle.ale_base.proofs.MemberLemmas.{list_any-Contains, list_any-found}
use Rattle.segment_defs.specs.declared.definitions.Definitions.{Definitions}
use Rattle.segment_defs.specs.declared.field.Field.{Field}
use Rattle.segment_defs.specs.Definitions.{AreDefinitions}
use Rattle.segment_defs.specs.Version.{AreFields, HaveRoom, data_of, field_text, text_in}
use Rattle.segment_defs.proofs.FieldLemmas.{field_text-data_of, text_in-at}
use Rattle.dist_model.specs.declared.filter.FieldPlace.{FieldPlace}
use Rattle.dist_model.specs.declared.lists.Lists.{Lists}
use Rattle.dist_model.specs.declared.message.Reduced.{Reduced}
use Rattle.dist_model.specs.declared.outbound.Convert.{Convert}
use Rattle.dist_model.specs.declared.outbound.Outbound.{Outbound}
use Rattle.dist_model.specs.Outbound.{IsConvert}
use Rattle.idoc_tree.specs.Forest.{Segment, Forest}
use Rattle.version_reduce.specs.Texts.{fields_of, text_at, with_texts}
use Rattle.version_reduce.specs.Converted.{IsConvertedFrom, IsConvertedTo, IsFirstFor, IsRowFor, converted, converted_segment, converted_text, replaces}
use Rattle.version_reduce.specs.Reduced.{IsKeptField, IsReducedFrom, IsReducedTo, are_of, is_kept, kept_fields, no_data, reduced, reduced_segment, reduced_text}
use Rattle.version_reduce.proofs.TextLemmas.{fields_of-AreFields}
use Rattle.version_reduce.proofs.ReduceLemmas.{HaveRoom-reduced}
use Rattle.version_reduce.proofs.ConvertLemmas.{HaveRoom-converted}
use Rattle.version_reduce.proofs.LeftLemmas.{changed-from}

-- a field reads the text that it was given, without blanks at its end
text-read : (fields : List Field) (texts : ℕ → List ℕ) (place : ℕ) (field : Field) → AreFields fields → HaveRoom fields texts
    → slice_get fields place ≡ Some field → text_in fields (data_of fields texts) place ≡ trimmed (texts place)
text-read fields texts place field are room here =
    text_in-at fields (data_of fields texts) place field here ∙ field_text-data_of fields texts place field are.laid_out room here

-- the text of a field has none
text-bare : (fields : List Field) (sdata : List ℕ) (place : ℕ) (field : Field) → slice_get fields place ≡ Some field
    → trimmed (text_in fields sdata place) ≡ text_in fields sdata place
text-bare fields sdata place field here =
    ap trimmed (text_in-at fields sdata place field here)
    ∙ trimmed-trimmed (take field.length (drop field.offset sdata))
    ∙ sym (text_in-at fields sdata place field here)

-- a field that keeps its text
text-kept : (fields : List Field) (texts : ℕ → List ℕ) (sdata : List ℕ) (place : ℕ) → AreFields fields → HaveRoom fields texts
    → texts place ≡ text_in fields sdata place → text_in fields (data_of fields texts) place ≡ text_in fields sdata place
text-kept fields texts sdata place are room same = by_field (slice_get fields place) refl
  where
    by_field : (o : Option Field) → slice_get fields place ≡ o → text_in fields (data_of fields texts) place ≡ text_in fields sdata place
    by_field None here =
        ap (λ o. option_map_or (field_text (data_of fields texts)) o []) here ∙ sym (ap (λ o. option_map_or (field_text sdata) o []) here)
    by_field (Some field) here =
        text-read fields texts place field are room here ∙ ap trimmed same ∙ text-bare fields sdata place field here

not_both : (b : Bool) → b ≡ true → b ≡ false → ⊥
not_both b one two = cc

module _ (model : Lists) (profile : Outbound) where
  keep : List FieldPlace
  keep = kept_fields model profile

  -- a field that is kept is among those of the reduced message type
  kept-among : (type field : ℕ) → IsKeptField model profile type field → Contains (kept_fields model profile) (record { segment = type; field = field })
  kept-among type field is =
      subst (λ places. Contains places (record { segment = type; field = field }))
      (sym (ap (λ o. option_map_or (λ (one : Reduced). one.keep) (option_and_then (slice_get model.reduced) o) []) is.of_profile
      ∙ ap (λ o. option_map_or (λ (one : Reduced). one.keep) o []) is.here)) is.among

  -- and the other way round
  among-kept : (type field : ℕ) → Contains (kept_fields model profile) (record { segment = type; field = field }) → IsKeptField model profile type field
  among-kept type field among = by_place profile.reduced refl among
    where
      by_one : (place : ℕ) → profile.reduced ≡ Some place → (o : Option Reduced) → slice_get model.reduced place ≡ o
          → Contains (option_map_or (λ (one : Reduced). one.keep) o []) (record { segment = type; field = field }) → IsKeptField model profile type field
      by_one place of_profile None here among = absurd (nothing among)
        where
          nothing : Contains {X = FieldPlace} [] (record { segment = type; field = field }) → ⊥
          nothing among = omega (arith, among.1)
      by_one place of_profile (Some one) here among = record { place = place; of_profile = of_profile; one = one; here = here; among = among }

      by_place : (o : Option ℕ) → profile.reduced ≡ o
          → Contains (option_map_or (λ (one : Reduced). one.keep) (option_and_then (slice_get model.reduced) o) []) (record { segment = type; field = field })
          → IsKeptField model profile type field
      by_place None is among = absurd (nothing among)
        where
          nothing : Contains {X = FieldPlace} [] (record { segment = type; field = field }) → ⊥
          nothing among = omega (arith, among.1)
      by_place (Some place) is among = by_one place is (slice_get model.reduced place) refl among

  test-kept : (type field : ℕ) → IsKeptField model profile type field → is_kept (kept_fields model profile) type field ≡ true
  test-kept type field is =
      list_any-Contains (λ (place : FieldPlace). place.segment == type && place.field == field) (kept_fields model profile)
      (record { segment = type; field = field }) (kept-among type field is)
      (ap (λ b. b && field == field) (eq-eqb type type refl) ∙ eq-eqb field field refl)

  tested-kept : (type field : ℕ) → is_kept (kept_fields model profile) type field ≡ true → IsKeptField model profile type field
  tested-kept type field is =
      let found = list_any-found (λ (place : FieldPlace). place.segment == type && place.field == field) (kept_fields model profile) is in
      let parts = and_parts (found.0.segment == type) (found.0.field == field) found.2 in
      among-kept type field (subst (Contains (kept_fields model profile))
      (same_place found.0 (eqb-true found.0.segment type parts.0) (eqb-true found.0.field field parts.1)) found.1)
    where
      same_place : (place : FieldPlace) → place.segment ≡ type → place.field ≡ field → place ≡ record { segment = type; field = field }
      same_place place one two = ap (λ s. record { segment = s; field = place.field }) one ∙ ap (λ f. record { segment = type; field = f }) two

  test-named : (type field : ℕ) → IsKeptField model profile type field → are_of (kept_fields model profile) type ≡ true
  test-named type field is =
      list_any-Contains (λ (place : FieldPlace). place.segment == type) (kept_fields model profile)
      (record { segment = type; field = field }) (kept-among type field is) (eq-eqb type type refl)

  tested-named : (type : ℕ) → are_of (kept_fields model profile) type ≡ true → (field : ℕ) × IsKeptField model profile type field
  tested-named type is =
      let found = list_any-found (λ (place : FieldPlace). place.segment == type) (kept_fields model profile) is in (
        found.0.field,
        among-kept type found.0.field (subst (λ s. Contains (kept_fields model profile) (record { segment = s; field = found.0.field }))
            (eqb-true found.0.segment type found.2) found.1),
      )

  module _ (are : AreDefinitions model.definitions) (segment : Segment) where
    -- what a segment is sent as
    reduced-to : (b : Bool) → are_of (kept_fields model profile) segment.type ≡ b
        → IsReducedTo model profile segment
        (if b then with_texts model.definitions (reduced_text model.definitions (kept_fields model profile) segment) segment else segment)
    reduced-to false is = record {
      type = refl;
      version = refl;
      whole = λ none. refl;
      kept = λ field kept. refl;
      others = λ field other kept within not_kept. absurd (not_both _ (test-named segment.type other kept) is);
    }
    reduced-to true is =
        let texts = reduced_text model.definitions (kept_fields model profile) segment in
        let fields = fields_of model.definitions segment in
        let room = HaveRoom-reduced model.definitions (kept_fields model profile) segment are in
        let fields_are = fields_of-AreFields model.definitions segment are in
        record {
          type = refl;
          version = refl;
          whole = λ none. let named = tested-named segment.type is in absurd (none named.0 named.1);
          kept = λ field kept. text-kept fields texts segment.sdata field fields_are room
              (cond-true (is_kept (kept_fields model profile) segment.type field) (text_at model.definitions segment field) no_data
              (test-kept segment.type field kept));
          others = λ field other kept within not_kept.
              let here = slice_get-within fields field within in
              text-read fields texts field here.0 fields_are room here.1
              ∙ ap trimmed (cond-false (is_kept (kept_fields model profile) segment.type field) (text_at model.definitions segment field) no_data
              (not_tested field not_kept));
        }
      where
        not_tested : (field : ℕ) → (IsKeptField model profile segment.type field → ⊥) → is_kept (kept_fields model profile) segment.type field ≡ false
        not_tested field not_kept = elim (cases_Bool (is_kept (kept_fields model profile) segment.type field)) [
          | inl passes ↦ absurd (not_kept (tested-kept segment.type field passes))
          | inr fails ↦ fails
        ]

-- what a forest is sent as, reduced
pub reduced-from : (model : Lists) (profile : Outbound) (forest : Forest) → AreDefinitions model.definitions
    → IsReducedFrom model profile forest (reduced model profile forest)
reduced-from model profile forest are =
    changed-from (IsReducedTo model profile) (reduced_segment model.definitions (kept_fields model profile))
    (λ segment. reduced-to model profile are segment (are_of (kept_fields model profile) segment.type) refl) forest

-- a row that replaces a value is for it
tested-row : (type field : ℕ) (value : List ℕ) (row : Convert) → replaces type field value row ≡ true → IsRowFor type field value row
tested-row type field value row is =
    let parts = and_parts (row.segment == type) (row.field == field && is_text row.from value) is in
    let others = and_parts (row.field == field) (is_text row.from value) parts.1 in
    record {
      segment = eqb-true row.segment type parts.0;
      place = eqb-true row.field field others.0;
      from = (bytes_decides row.from value).0 others.1;
    }

-- and the other way round
test-row : (type field : ℕ) (value : List ℕ) (row : Convert) → IsRowFor type field value row → replaces type field value row ≡ true
test-row type field value row is =
    ap (λ b. b && (row.field == field && is_text row.from value)) (eq-eqb row.segment type is.segment)
    ∙ ap (λ b. b && is_text row.from value) (eq-eqb row.field field is.place)
    ∙ (bytes_decides row.from value).1 is.from

not-tested : (type field : ℕ) (value : List ℕ) (row : Convert) → (IsRowFor type field value row → ⊥) → replaces type field value row ≡ false
not-tested type field value row other = elim (cases_Bool (replaces type field value row)) [
  | inl passes ↦ absurd (other (tested-row type field value row passes))
  | inr fails ↦ fails
]

-- what is found among some rows, past those that are not for the value
passed : (type field : ℕ) (value : List ℕ) (before behind : List Convert) → AllByRecursion (λ other. IsRowFor type field value other → ⊥) before
    → find (replaces type field value) (before ++ behind) ≡ find (replaces type field value) behind
passed type field value [] behind others = refl
passed type field value (row ∷ before) behind others =
    cond-false (replaces type field value row) (Some row) (find (replaces type field value) (before ++ behind))
    (not-tested type field value row others.0)
    ∙ passed type field value before behind others.1

-- the first row for a value replaces it
first-for : (type field : ℕ) (value : List ℕ) (rows : List Convert) (row : Convert) → IsFirstFor rows type field value row
    → converted_text rows type field value ≡ row.to
first-for type field value rows row is =
    ap (λ o. option_map_or (λ (r : Convert). r.to) o value)
    (ap (find (replaces type field value)) is.parts ∙ passed type field value is.before (row ∷ is.behind) is.first
    ∙ cond-true (replaces type field value row) (Some row) (find (replaces type field value) is.behind) (test-row type field value row is.own))

-- where none is for it, it stays
none-for : (type field : ℕ) (value : List ℕ) (rows : List Convert) → AllByRecursion (λ row. IsRowFor type field value row → ⊥) rows
    → converted_text rows type field value ≡ value
none-for type field value [] others = refl
none-for type field value (row ∷ rows) others =
    ap (λ o. option_map_or (λ (r : Convert). r.to) o value)
    (cond-false (replaces type field value row) (Some row) (find (replaces type field value) rows) (not-tested type field value row others.0))
    ∙ none-for type field value rows others.1

-- what a segment becomes by rows
converted-to : (definitions : Definitions) (rows : List Convert) (segment : Segment) → AreDefinitions definitions → AllByRecursion (IsConvert definitions) rows
    → IsConvertedTo definitions rows segment (converted_segment definitions rows segment)
converted-to definitions rows segment are all =
    let fields = fields_of definitions segment in
    let texts = λ (field : ℕ). converted_text rows segment.type field (text_at definitions segment field) in
    let room = HaveRoom-converted definitions rows segment are all in
    let fields_are = fields_of-AreFields definitions segment are in
    record {
      type = refl;
      version = refl;
      replaced = λ field row within is.
          let here = slice_get-within fields field within in
          let own : IsConvert definitions row = (AllByRecursion-parts (IsConvert definitions) is.before (row ∷ is.behind)
          (subst (AllByRecursion (IsConvert definitions)) is.parts all)).1.0 in
          text-read fields texts field here.0 fields_are room here.1
          ∙ ap trimmed (first-for segment.type field (text_at definitions segment field) rows row is)
          ∙ own.to.is.bare;
      others = λ field none. text-kept fields texts segment.sdata field fields_are room
          (none-for segment.type field (text_at definitions segment field) rows none);
    }

-- what a forest is sent as, converted
pub converted-from : (model : Lists) (profile : Outbound) (forest : Forest) → AreDefinitions model.definitions
    → AllByRecursion (IsConvert model.definitions) profile.convert → IsConvertedFrom model profile forest (converted model profile forest)
converted-from model profile forest are all =
    changed-from (IsConvertedTo model.definitions profile.convert) (converted_segment model.definitions profile.convert)
    (λ segment. converted-to model.definitions profile.convert segment are all) forest
