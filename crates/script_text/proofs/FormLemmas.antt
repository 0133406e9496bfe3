-- Words and their kinds, one for one.
use Rattle.std.proofs.Common.{◌≡◌, ◌≢◌, ℕ, ◌<◌, Bool, true, false, ◌&&◌, nat_lt, List, [], ◌∷◌, length, refl, arith}
use Rattle.std.specs.Borrow.{Bor}
use Rattle.std.specs.List.{list_all}
use Rattle.std.proofs.lemmas.Bool.{lt-ltb}
use Rattle.std.proofs.lemmas.List.{length-map}
use Rattle.std.proofs.lemmas.List.Folds.{list_all-map}
use Rattle.script_text.specs.declared.kind.Kind.{Kind}
use Rattle.script_text.specs.Words.{texts}
use Rattle.script_text.specs.Kinds.{is_of, is_field}
use Rattle.script_text.specs.Forms.{are_of, ends_with}

-- words are as many as their kinds
pub are_of-long : (kinds : List Kind) (words : List (Bor (List ℕ))) → length kinds ≢ length words → are_of kinds (texts words) ≡ false
are_of-long [] [] differ = absurd (differ refl)
are_of-long [] (word ∷ words) differ = refl
are_of-long (kind ∷ kinds) [] differ = refl
are_of-long (kind ∷ kinds) (word ∷ words) differ =
    let behind : length kinds ≢ length words = omega arith in
    let none = are_of-long kinds words behind in
    rw none (no (is_of kind word.now))
  where
    no : (b : Bool) → (b && false) ≡ false
    no b = elim b as (λ v. (v && false) ≡ false) [ true ↦ refl | false ↦ refl ]

-- a test of slices is one of the texts that they hold
pub list_all-texts : (test : List ℕ → Bool) (words : List (Bor (List ℕ))) → list_all test (texts words) ≡ list_all (λ word. test word.now) words
list_all-texts test words = list_all-map test (λ (word : Bor (List ℕ)). word.now) words

-- one word at least, and each is `FIELD=VALUE`
pub ends_with-fields : (fields : Bool) (words : List (Bor (List ℕ))) → fields ≡ true → 0 < length words
    → ends_with fields (texts words) ≡ list_all (λ word. is_field word.now) words
ends_with-fields fields words takes some =
    let filled : nat_lt 0 (length (texts words)) ≡ true = lt-ltb 0 (length (texts words)) (simp length-map some) in
    rw (takes, filled) (list_all-texts is_field words)
