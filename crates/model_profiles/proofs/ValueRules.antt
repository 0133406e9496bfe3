-- Values of fields that were read.
use Rattle.std.specs.Prelude.{slice_get}
use Rattle.std.specs.Option.{option_map, option_map_or}
use Rattle.std.proofs.Common.{◌≡◌, ℕ, suc, ◌≤◌, nat_le, cond, Bool, true, List, [], ◌∷◌, length, position, Option, Some, Ok, Err, refl, sym, ap, subst, ◌∙◌}
use Rattle.std.proofs.Common.{inl, inr, arith}
use Rattle.std.proofs.lemmas.Bool.{cases_Bool, cond-false, cond-true, false≢true}
use Rattle.std.proofs.lemmas.Bool.Decides.{nat_tests}
use Rattle.std.proofs.lemmas.Option.{same_Some, slice_get-map}
use Rattle.std.specs.Cmp.Lexicographic.{bytes_decides}
use Rattle.toml.specs.Data.{Data, Members, get_member, as_str}
use Rattle.ale_base.specs.Text.{is_text}
use Rattle.ale_base.specs.Blanks.{trimmed}
use Rattle.ale_base.specs.TrimmedLemmas.{length-trimmed, trimmed-trimmed}
use Rattle.ale_base.proofs.ListLemmas.{slice_get-within}
use Rattle.ale_base.proofs.OptionLemmas.{option_map-Some}
use Rattle.segment_defs.specs.declared.definitions.Definitions.{Definitions}
use Rattle.segment_defs.specs.declared.field.Field.{Field}
use Rattle.segment_defs.proofs.NameLemmas.{position-behind, position-here}
use Rattle.dist_model.specs.Field.{all_fields, HasField, IsFilterValueOf, IsValueOf}
use Rattle.model_keys.specs.declared.finding.Cause.TheVariants.{Missing, Wrong}
use Rattle.model_keys.specs.Finding.{at, required}
use Rattle.model_keys.specs.Says.{HasText, IsValueText}
use Rattle.model_keys.specs.Fields.{field_at}
use Rattle.model_keys.proofs.FieldLemmas.{field_at-keeps, field_there}
use Rattle.model_keys.proofs.KeepsLemmas.{from_bind, required-ok, tested}
use Rattle.model_profiles.specs.Values.{field_length, field_place, field_value_at, field_value_of, filter_text, filter_value_of}
use Rattle.model_profiles.specs.Says.{HasValue, SaysField, SaysFilterValue}
use Rattle.model_profiles.specs.declared.keys.TheConstants.{FIELD}

-- what stands at the first place that passes a test
pub position-found : {A : Type 0} (test : A → Bool) (xs : List A) (place : ℕ) → position test xs ≡ Some place →
    (x : A) × (slice_get xs place ≡ Some x) × (test x ≡ true)
position-found test [] place h = absurd (cc)
position-found test (x ∷ xs) place h = elim (cases_Bool (test x)) [
  | inl passes ↦ let e : Some 0 ≡ Some place = sym (position-here test x xs passes)
      ∙ h in let same : 0 ≡ place = cc in (x, subst (λ k. slice_get (x ∷ xs) k ≡ Some x) same refl, passes)
  | inr fails ↦
      let (behind, found, next) = option_map-Some suc (position test xs) place (sym (position-behind test x xs fails) ∙ h) in
      let (y, here, passes) = position-found test xs behind found in
      (y, subst (λ k. slice_get (x ∷ xs) k ≡ Some y) next here, passes)
]

-- a value that was read: the text without the blanks at its end, no longer than the field
pub field_value_of-keeps : (width : ℕ) (path : List ℕ) (d : Data) (value : List ℕ) → field_value_of width path d ≡ Ok value
    → IsValueText d value × (length value ≤ width) × (trimmed value ≡ value)
unfolding field_value_of
field_value_of-keeps width path d value h =
    let (text, t, g) = from_bind (required Wrong path (as_str d)) (λ text. cond (nat_le (length text) width) (Ok (trimmed text)) (Err (at Wrong path))) value
    h in
    let (fits, e) = tested (nat_le (length text) width) (trimmed text) value (at Wrong path) g in (
      (text, required-ok Wrong path (as_str d) text t, e),
      subst (λ v. length v ≤ width) e (short (length text) (length (trimmed text)) fits (length-trimmed text)),
      subst (λ v. trimmed v ≡ v) e (trimmed-trimmed text),
    )
  where
    short : (a b : ℕ) → nat_le a width ≡ true → b ≤ a → b ≤ width
    short a b is less = grind (arith, nat_tests)

-- a text as a value of a filter
record IsFilterText (text value : List ℕ) : Type 0 where
  blank : trimmed text ≡ [] → value ≡ []
  whole : (trimmed text ≡ [] → ⊥) → value ≡ text
  fits : length value ≤ length text
  bare : trimmed value ≡ [] → value ≡ []

filter_text-is : (text : List ℕ) → IsFilterText text (filter_text text)
filter_text-is text = elim (cases_Bool (is_text (trimmed text) [])) [
  | inl none ↦ let same : filter_text text ≡ [] = cond-true (is_text (trimmed text) []) [] text none in record {
    blank = λ bare. same;
    whole = λ some. absurd (some ((bytes_decides (trimmed text) []).0 none));
    fits = subst (λ (v : List ℕ). length v ≤ length text) (sym same) (omega arith);
    bare = λ bare. same;
  }
  | inr some ↦
      let same : filter_text text ≡ text = cond-false (is_text (trimmed text) []) [] text some in
      let never : trimmed text ≡ [] → ⊥ = λ bare. false≢true (sym some ∙ (bytes_decides (trimmed text) []).1 bare) in record {
        blank = λ bare. absurd (never bare);
        whole = λ other. same;
        fits = subst (λ (v : List ℕ). length v ≤ length text) (sym same) (omega arith);
        bare = λ bare. absurd (never (sym (ap trimmed same) ∙ bare));
      }
]

-- a value of a filter that was read: no longer than the field
pub filter_value_of-keeps : (before : List (List ℕ)) (width : ℕ) (d : Data) (value : List ℕ) → filter_value_of width d ≡ Ok value
    → SaysFilterValue before d value × (length value ≤ width) × (trimmed value ≡ [] → value ≡ [])
unfolding filter_value_of
filter_value_of-keeps before width d value h =
    let (text, t, g) = from_bind (required Wrong [] (as_str d)) (λ text. cond (nat_le (length text) width) (Ok (filter_text text)) (Err (at Wrong []))) value
    h in
    let (fits, e) = tested (nat_le (length text) width) (filter_text text) value (at Wrong []) g in
    let is : IsFilterText text value = subst (IsFilterText text) e (filter_text-is text) in (
      record { text = text; is = required-ok Wrong [] (as_str d) text t; blank = is.blank; whole = is.whole },
      short (length text) (length value) fits is.fits,
      is.bare,
    )
  where
    short : (a b : ℕ) → nat_le a width ≡ true → b ≤ a → b ≤ width
    short a b is less = grind (arith, nat_tests)

-- the same as of a field at a key
pub field_value_at-keeps : (width : ℕ) (key : List ℕ) (table : Members) (value : List ℕ) → field_value_at width key table ≡ Ok value
    → HasValue key table value × (length value ≤ width) × (trimmed value ≡ value)
unfolding field_value_at
field_value_at-keeps width key table value h =
    let (d, g, is) = from_bind (required Missing key (get_member key table)) (λ d. field_value_of width key d) value h in
    let (says, fits, bare) = field_value_of-keeps width key d value is in
    ((d, required-ok Missing key (get_member key table) d g, says), fits, bare)

-- a field that was found by its name
pub field_place-keeps : (definitions : Definitions) (segment : ℕ) (name : List ℕ) (place : ℕ) → field_place definitions segment name ≡ Some place
    → (field : Field) × (slice_get (all_fields definitions segment) place ≡ Some field) × (field.name ≡ name)
field_place-keeps definitions segment name place found =
    let (field, here, is) = position-found (λ (field : Field). is_text name field.name) (all_fields definitions segment) place found in
    (field, here, sym ((bytes_decides name field.name).0 is))

pub field-says : (definitions : Definitions) (segment : ℕ) (table : Members) (place : ℕ)
    → field_at FIELD.now (all_fields definitions segment) table ≡ Ok place
    → HasField definitions segment place × SaysField definitions segment table place
field-says definitions segment table place h =
    let fields = all_fields definitions segment in
    let (name, text, there) = field_at-keeps FIELD.now fields table place h in
    let within = field_there fields name place there in
    let (field, here) = slice_get-within fields place within in
    let named : field.name ≡ name =
    same_Some field.name name (sym (slice_get-map (λ (f : Field). f.name) fields place ∙ ap (option_map (λ (f : Field). f.name)) here) ∙ there) in (
      within,
      record { field = field; here = here; named = subst (HasText FIELD.now table) (sym named) text },
    )

-- the field of a place, and its length
placed : (definitions : Definitions) (segment place : ℕ) → HasField definitions segment place
    → (field : Field) × (slice_get (all_fields definitions segment) place ≡ Some field) × (field_length definitions segment place ≡ field.length)
placed definitions segment place has =
    let (field, here) = slice_get-within (all_fields definitions segment) place has in
    (field, here, ap (λ (o : Option Field). option_map_or (λ (f : Field). f.length) o 0) here)

-- a value of a filter, as long as the field allows
pub IsFilterValueOf-read : (definitions : Definitions) (segment place : ℕ) (value : List ℕ) → HasField definitions segment place
    → length value ≤ field_length definitions segment place → (trimmed value ≡ [] → value ≡ []) → IsFilterValueOf definitions segment place value
IsFilterValueOf-read definitions segment place value has fits blank =
    let (field, here, width) = placed definitions segment place has in
    record { field = field; here = here; is = record { fits = subst (λ n. length value ≤ n) width fits; blank = blank } }

-- a value as long as a field allows is a value of it
pub IsValueOf-read : (definitions : Definitions) (segment place : ℕ) (value : List ℕ) → HasField definitions segment place
    → length value ≤ field_length definitions segment place → trimmed value ≡ value → IsValueOf definitions segment place value
IsValueOf-read definitions segment place value has fits bare =
    let (field, here, width) = placed definitions segment place has in
    record { field = field; here = here; is = record { fits = subst (λ n. length value ≤ n) width fits; bare = bare } }
