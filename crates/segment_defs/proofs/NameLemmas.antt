-- Names: a test decides them, and they have no blank.
use Rattle.std.specs.List.{IsDistinct, list_all, position_or_len, prefix_len, starts_with}
use Rattle.std.specs.Prelude.{Contains, IsTrue, codes, nat_eq, position, slice_get, ◌↔◌}
use Rattle.std.specs.Option.{option_map}
use Rattle.std.specs.Cmp.Lexicographic.{bytes_decides}
use Rattle.std.proofs.Common.{◌≡◌, ℕ, zero, suc, ◌+◌, ◌==◌, Bool, true, false, not, cond, nat_lt, Option, Some, None, List, [], ◌∷◌, length, map, refl, sym, ap}
use Rattle.std.proofs.Common.{subst, ◌∙◌, inl, inr, arith}
use Rattle.std.proofs.lemmas.Bool.{and_parts, cases_Bool, false≢true}
use Rattle.std.proofs.lemmas.Bool.Decides.{eqb_tells, nat_tests}
use Rattle.std.proofs.lemmas.Option.{same_Some}
use Rattle.ale_base.specs.Blanks.{before_trimmed, trimmed}
use Rattle.ale_base.specs.Text.{is_text}
use Rattle.ale_base.proofs.ListLemmas.{AllByRecursion-at}
use Rattle.ale_base.proofs.MemberLemmas.{Contains-cons, Contains-here, Contains-nil, Contains-there}
use Rattle.ale_base.proofs.OptionLemmas.{option_map-Some}
use Rattle.segment_defs.specs.declared.limits.TheConstants.{LONGEST_NAME}
use Rattle.segment_defs.specs.Name.{is_name_byte, is_name_within, is_segment_name, IsName, IsSegmentName}

-- the test decides
pub IsName_decided : (name : List ℕ) → IsTrue (is_name_within LONGEST_NAME name) ↔ IsName name
IsName_decided name = (
  λ is. record { least = grind (arith, nat_tests); most = grind (arith, nat_tests); bytes = grind (arith, nat_tests) },
  λ is.
      grind (arith, nat_tests, is.least, is.most, is.bytes),
)

no_blank : (byte : ℕ) → is_name_byte byte ≡ true → byte == 32 ≡ false
no_blank byte named = elim (eqb_tells byte 32) [ inl blank ↦ let never : is_name_byte byte ≡ false = ap is_name_byte blank.1 in cc | inr other ↦ other.0 ]

before_name : (byte : ℕ) (name : List ℕ) → byte == 32 ≡ false → before_trimmed byte name ≡ byte ∷ name
before_name byte [] other = ap (λ b. cond b [] (byte ∷ [])) other
before_name byte (next ∷ name) other = refl

-- a name has no blank
pub name-trimmed : (name : List ℕ) → list_all is_name_byte name ≡ true → trimmed name ≡ name
name-trimmed [] all = refl
name-trimmed (byte ∷ name) all =
    let parts = and_parts (is_name_byte byte) (list_all is_name_byte name) all in
    ap (before_trimmed byte) (name-trimmed name parts.1) ∙ before_name byte name (no_blank byte parts.0)

module _ {A B : Type 0} (view : A → B) (test : B → Bool) where
  prefix_len-map : (xs : List A) → prefix_len (λ x. not (test (view x))) xs ≡ prefix_len (λ b. not (test b)) (map view xs)
  prefix_len-map [] = refl
  prefix_len-map (x ∷ xs) = ap (λ n. cond (not (test (view x))) (1 + n) 0) (prefix_len-map xs)

  length-seen : (xs : List A) → length xs ≡ length (map view xs)
  length-seen [] = refl
  length-seen (x ∷ xs) = ap suc (length-seen xs)

  -- the place of the first element that passes a test of what is seen of it
  pub position-map : (xs : List A) → position (λ x. test (view x)) xs ≡ position test (map view xs)
  position-map xs = rw (prefix_len-map xs, length-seen xs)

one_further : (n m : ℕ) → cond (nat_lt (1 + n) (suc m)) (Some (1 + n)) None ≡ option_map suc (cond (nat_lt n m) (Some n) None)
one_further n m = elim (cases_Bool (nat_lt n m)) [
  | inl less ↦ rw (less, ltb-suc n m less) (ap Some (omega arith))
  | inr least ↦ rw (least, ltb-suc-false n m least) refl
]
  where
    ltb-suc : (n m : ℕ) → nat_lt n m ≡ true → nat_lt (1 + n) (suc m) ≡ true
    ltb-suc n m less = grind (arith, nat_tests)

    ltb-suc-false : (n m : ℕ) → nat_lt n m ≡ false → nat_lt (1 + n) (suc m) ≡ false
    ltb-suc-false n m least = grind (arith, nat_tests)

-- the place of the first element that passes: here, or among those behind
pub position-here : {A : Type 0} (test : A → Bool) (x : A) (xs : List A) → test x ≡ true → position test (x ∷ xs) ≡ Some 0
position-here test x xs passes = rw (passes, first (length xs)) refl
  where
    first : (n : ℕ) → nat_lt 0 (suc n) ≡ true
    first n = grind (arith, nat_tests)

pub position-behind : {A : Type 0} (test : A → Bool) (x : A) (xs : List A) → test x ≡ false → position test (x ∷ xs) ≡ option_map suc (position test xs)
position-behind test x xs fails = rw fails (one_further (position_or_len test xs) (length xs))

-- the place of a name has the name
pub position-name : (name : List ℕ) (names : List (List ℕ)) (place : ℕ) → position (is_text name) names ≡ Some place → slice_get names place ≡ Some name
position-name name [] place found = absurd (nothing found)
  where
    nothing : position (is_text name) [] ≡ Some place → ⊥
    nothing found = cc
position-name name (other ∷ names) place found =
    let P = λ (p : ℕ). slice_get (other ∷ names) p ≡ Some name in
    elim (cases_Bool (is_text name other)) [
      | inl same ↦
          let first : 0 ≡ place = same_Some 0 place (sym (position-here (is_text name) other names same) ∙ found) in
          subst P first (ap Some (sym ((bytes_decides name other).0 same)))
      | inr differs ↦
          let behind = option_map-Some suc (position (is_text name) names) place (sym (position-behind (is_text name) other names differs) ∙ found) in
          subst P behind.2 (position-name name names behind.0 behind.1)
    ]

-- where names differ, the place of a name is the only one that has it
pub position-only : (name : List ℕ) (names : List (List ℕ)) (place : ℕ) → IsDistinct is_text names → slice_get names place ≡ Some name →
    position (is_text name) names ≡ Some place
unfolding IsDistinct
position-only name [] place apart here = cc
position-only name (other ∷ names) zero apart here =
    position-here (is_text name) other names ((bytes_decides name other).1 (sym (same_Some other name here)))
position-only name (other ∷ names) (suc place) apart here =
    let differs = AllByRecursion-at (λ n. is_text other n ≡ false) names place name apart.0 here in
    position-behind (is_text name) other names (differs_back other name differs)
    ∙ ap (option_map suc) (position-only name names place apart.1 here)
  where
    differs_back : (a b : List ℕ) → is_text a b ≡ false → is_text b a ≡ false
    differs_back a b differs = elim (cases_Bool (is_text b a)) [
      | inl same ↦ absurd (false≢true (sym differs ∙ (bytes_decides a b).1 (sym ((bytes_decides b a).0 same))))
      | inr other ↦ other
    ]

-- a name has no place exactly where it is not among the names
pub position-none : (name : List ℕ) (names : List (List ℕ)) → (position (is_text name) names ≡ None) ↔ (Contains names name → ⊥)
position-none name [] = (λ none there. Contains-nil name there, λ absent. refl)
position-none name (other ∷ names) =
    elim (cases_Bool (is_text name other)) [
      | inl same ↦ (
        λ none. absurd (some_none (sym (position-here (is_text name) other names same) ∙ none)),
        λ absent. absurd (absent (subst (λ n. Contains (other ∷ names) n) (sym ((bytes_decides name other).0 same)) (Contains-here other names))),
      )
      | inr differs ↦
          let behind = position-behind (is_text name) other names differs in
          let rest = position-none name names in (
            λ none there. elim (Contains-cons other names name there) [
              | inl here ↦ false≢true (sym differs ∙ (bytes_decides name other).1 (sym here))
              | inr among ↦ rest.0 (map-none (position (is_text name) names) (sym behind ∙ none)) among
            ],
            λ absent. behind ∙ ap (option_map suc) (rest.1 (λ among. absent (Contains-there other names name among))),
          )
    ]
  where
    some_none : ◌≡◌ {A = Option ℕ} (Some 0) None → ⊥
    some_none is = cc

    map-none : (found : Option ℕ) → option_map suc found ≡ None → found ≡ None
    map-none None is = refl
    map-none (Some place) is = cc

-- the test of a segment's name decides, too
pub IsSegmentName_decided : (name : List ℕ) → IsTrue (is_segment_name name) → IsSegmentName name
IsSegmentName_decided name is =
    let parts = and_parts (is_name_within LONGEST_NAME name) (not (starts_with nat_eq name (codes "EDI_"))) is in
    record { named = (IsName_decided name).0 parts.0; own = parts.1 }
