-- Fields that were read keep the rules of fields.
use Rattle.std.specs.List.{IsDistinct}
use Rattle.std.specs.Option.{option_and_then, option_map}
use Rattle.std.proofs.Common.{◌≡◌, ℕ, ◌+◌, ◌≤◌, ◌==◌, ◌&&◌, nat_lt, nat_le, Bool, true, false, cond, Option, Some, None, Ok, List, [], ◌∷◌, ◌++◌, length, take}
use Rattle.std.proofs.Common.{drop, position, refl, sym, ap, subst, ◌∙◌, append_assoc, append-nil, arith}
use Rattle.std.proofs.lemmas.Bool.{and_parts}
use Rattle.std.proofs.lemmas.Bool.Decides.{nat_tests}
use Rattle.std.proofs.lemmas.List.{length-append, map_push}
use Rattle.std.proofs.lemmas.List.Sums.{sum_by-append}
use Rattle.toml.specs.Data.{Data, Items, as_str}
use Rattle.ale_base.specs.Text.{is_text}
use Rattle.ale_base.proofs.SnocLemmas.{AllByRecursion-snoc}
use Rattle.ale_base.proofs.OptionLemmas.{option_map-Some}
use Rattle.segment_defs.specs.declared.limits.TheConstants.{LONGEST_NAME, MOST_BYTES, MOST_FIELDS}
use Rattle.segment_defs.specs.declared.field.Field.{Field}
use Rattle.segment_defs.specs.Name.{is_name_within}
use Rattle.segment_defs.specs.Version.{width_of, AreFields, AreLaidOut, IsField}
use Rattle.segment_defs.proofs.NameLemmas.{IsName_decided}
use Rattle.model_keys.specs.declared.finding.Cause.TheVariants.{Limit, Wrong}
use Rattle.model_keys.specs.Finding.{check, required}
use Rattle.model_keys.specs.Keys.{new_name}
use Rattle.dist_model.proofs.DistinctLemmas.{is_text-symmetric, IsDistinct-push}
use Rattle.model_keys.proofs.KeepsLemmas.{check-ok, each-invariant, from_bind, new_name-keeps, required-ok}
use Rattle.model_text.specs.declared.keys.TheConstants.{ADDS}
use Rattle.model_text.specs.Fields.{digits_on, field_names, field_of, field_parts, fields_of, is_length, length_in, length_spelled, parts_at, parts_of}
use Rattle.model_text.proofs.FieldLemmas.{width_of-push}

and_then-Some : {A B : Type 0} (f : A → Option B) (o : Option A) (y : B) → option_and_then f o ≡ Some y → (x : A) × (o ≡ Some x) × (f x ≡ Some y)
and_then-Some f (Some x) y h = (x, refl, h)
and_then-Some f None y h = absurd (cc)

passed : {A : Type 0} (b : Bool) (o : Option A) (y : A) → cond b o None ≡ Some y → (b ≡ true) × (o ≡ Some y)
passed true o y h = (refl, h)
passed false o y h = absurd (cc)

-- a length that a text spells
length_in-keeps : (text : List ℕ) (n : ℕ) → length_in text ≡ Some n → is_length n text ≡ true
length_in-keeps text n h =
    let (number, d, s) = and_then-Some (length_spelled text) (digits_on 0 text) n h in
    let (is, e) = passed (is_length number text) (Some number) n s in
    let same : number ≡ n = cc in
    subst (λ k. is_length k text ≡ true) same is

-- a name, a blank and a length
pub record HaveParts (text name : List ℕ) (n : ℕ) : Type 0 where
  pub place : ℕ
  pub blank : position (λ byte. byte == 32) text ≡ Some place
  pub front : take place text ≡ name
  pub named : is_name_within LONGEST_NAME name ≡ true
  pub long : is_length n (drop (place + 1) text) ≡ true

field_parts-keeps : (text : List ℕ) (p : List ℕ × ℕ) → field_parts text ≡ Some p → HaveParts text p.0 p.1
field_parts-keeps text p h =
    let (place, b, g) = and_then-Some (parts_at text) (position (λ byte. byte == 32) text) p h in
    let (named, k) = passed (is_name_within LONGEST_NAME (take place text)) (option_map (λ n. (take place text, n)) (length_in (drop (place + 1) text))) p g in
    let (n, l, e) = option_map-Some (λ (n : ℕ). (take place text, n)) (length_in (drop (place + 1) text)) p k in
    let front : take place text ≡ p.0 = ap (λ (q : List ℕ × ℕ). q.0) e in
    let same : n ≡ p.1 = ap (λ (q : List ℕ × ℕ). q.1) e in record {
      place = place;
      blank = b;
      front = front;
      named = subst (λ name. is_name_within LONGEST_NAME name ≡ true) front named;
      long = subst (λ k. is_length k (drop (place + 1) text) ≡ true) same (length_in-keeps (drop (place + 1) text) n l);
    }

pub parts_of-keeps : (d : Data) (p : List ℕ × ℕ) → parts_of d ≡ Ok p → (text : List ℕ) × (as_str d ≡ Some text) × HaveParts text p.0 p.1
unfolding parts_of
parts_of-keeps d p h =
    let (text, t, g) = from_bind (required Wrong [] (as_str d)) (λ text. required Wrong [] (field_parts text)) p h in
    (text, required-ok Wrong [] (as_str d) text t, field_parts-keeps text p (required-ok Wrong [] (field_parts text) p g))

-- one more field stands behind the others
AreLaidOut-push : (offset : ℕ) (fields : List Field) (field : Field) → AreLaidOut offset fields → field.offset ≡ offset + width_of fields →
    AreLaidOut offset (fields ++ field ∷ [])
AreLaidOut-push offset [] field laid at = (at ∙ omega arith, tt)
AreLaidOut-push offset (first ∷ fields) field laid at =
    (laid.0, AreLaidOut-push (offset + first.length) fields field laid.1 (omega (arith, at, sum_by-append (λ (f : Field). f.length) (first ∷ []) fields)))

pub AreFields-none : AreFields []
unfolding IsDistinct
AreFields-none = record { each = tt; laid_out = tt; apart = tt; few = omega arith; fits = omega arith }

-- a field that was read is a field, named by its text
pub record IsNextField (fields : List Field) (d : Data) (field : Field) : Type 0 where
  pub are : AreFields (fields ++ field ∷ [])
  pub text : List ℕ
  pub is : as_str d ≡ Some text
  pub parts : HaveParts text field.name field.length

pub field_of-keeps : (fields : List Field) (d : Data) (field : Field) → AreFields fields → field_of fields d ≡ Ok field → IsNextField fields d field
unfolding field_of
field_of-keeps fields d field are h =
    let (p, q, h1) = from_bind (parts_of d) _ field h in
    let (fits, f, h2) = from_bind (check Limit [] (nat_lt (length fields) MOST_FIELDS && nat_le (width_of fields + p.1) MOST_BYTES)) _ field h1 in
    let (name, n, h3) = from_bind (new_name [] (field_names fields) p.0) _ field h2 in
    let whole : Field = record { name = name; offset = width_of fields; length = p.1 } in
    let e : whole ≡ field = cc in
    let (text, is, parts) = parts_of-keeps d p q in
    let (same, new) = new_name-keeps [] (field_names fields) p.0 name n in
    let own : HaveParts text name p.1 = subst (λ name. HaveParts text name p.1) same parts in
    let small = and_parts (nat_lt (length fields) MOST_FIELDS) (nat_le (width_of fields + p.1) MOST_BYTES) (check-ok Limit [] _ fits f) in
    subst (IsNextField fields d) e (record {
      are = record {
        each = AllByRecursion-snoc IsField fields whole are.each (field_is name p.1 (width_of fields) own.named _ own.long);
        laid_out = AreLaidOut-push 0 fields whole are.laid_out (omega arith);
        apart = subst (IsDistinct is_text) (sym (map_push (λ (f : Field). f.name) fields whole))
            (IsDistinct-push is_text is_text-symmetric (field_names fields) name are.apart new);
        few = less_few (length fields) (length (fields ++ whole ∷ [])) (length-append fields (whole ∷ [])) small.0;
        fits = less_wide (width_of (fields ++ whole ∷ [])) (width_of fields + p.1) (width_of-push fields whole) small.1;
      };
      text = text;
      is = is;
      parts = own;
    })
  where
    least_of : (n : ℕ) (rest : List ℕ) → is_length n rest ≡ true → 1 ≤ n
    least_of n rest long = let a = and_parts (nat_le 1 n) _ long in let b = a.0 in grind (arith, nat_tests, b)

    most_of : (n : ℕ) (rest : List ℕ) → is_length n rest ≡ true → n ≤ MOST_BYTES
    most_of n rest long = let a = and_parts (nat_le 1 n) _ long in let b = and_parts (nat_le n MOST_BYTES) _ a.1 in let k = b.0 in grind (arith, nat_tests, k)

    field_is : (name : List ℕ) (n offset : ℕ) → is_name_within LONGEST_NAME name ≡ true → (rest : List ℕ) → is_length n rest ≡ true →
        IsField (record { name = name; offset = offset; length = n })
    field_is name n offset named rest long = record {
      named = (IsName_decided name).0 named;
      least = least_of n rest long;
      most = most_of n rest long;
    }

    less_few : (a b : ℕ) → b ≡ a + 1 → nat_lt a MOST_FIELDS ≡ true → b ≤ MOST_FIELDS
    less_few a b e is = grind (arith, nat_tests)

    less_wide : (a b : ℕ) → a ≡ b → nat_le b MOST_BYTES ≡ true → a ≤ MOST_BYTES
    less_wide a b e is = grind (arith, nat_tests)

-- all fields of a definition, those that it has from the one before it first
pub fields_of-keeps : (earlier : List Field) (ds : Items) (all : List Field) → AreFields earlier → fields_of earlier ds ≡ Ok all
    → AreFields all × ((added : List Field) × (all ≡ earlier ++ added))
fields_of-keeps earlier ds all are h =
    each-invariant ADDS.now (λ done d. field_of done d) (λ done. AreFields done × ((added : List Field) × (done ≡ earlier ++ added)))
    (λ done d field so_far is. (
      (field_of-keeps done d field so_far.0 is).are,
      (
        so_far.1.0 ++ field ∷ [],
        ap (λ fs. fs ++ field ∷ []) so_far.1.1
            ∙ append_assoc earlier so_far.1.0 (field ∷ []),
      ),
    ))
    0 earlier ds all (are, ([], sym (append-nil earlier))) h
