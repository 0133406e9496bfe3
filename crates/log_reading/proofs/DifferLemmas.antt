-- Where two texts differ.
use Rattle.std.proofs.Common.{◌≡◌, ◌≢◌, ℕ, ◌<◌, min, List, length, take, get_or, inl, inr, sym, ◌∙◌, arith}
use Rattle.std.proofs.lemmas.Bool.{cases_lt}
use Rattle.std.proofs.lemmas.List.{take_all}
use Rattle.std.proofs.lemmas.Option.{slice_get_past, slice_get-get_or, get_or_from_slice_get, none-some}
use Rattle.log_reading.specs.Bad.{DifferAt}

-- the bytes at a place of both differ
pub differ-here : (one other : List ℕ) (place : ℕ) → place < length one → place < length other → take place one ≡ take place other
    → get_or one place 0 ≢ get_or other place 0 → DifferAt one other place
differ-here one other place within there before differs = record {
  before = before;
  here = λ same.
      differs (sym (get_or_from_slice_get other place (get_or one place 0) 0 (sym same ∙ slice_get-get_or one place 0 within)));
}

-- one text ends before the other
pub differ-end : (one other : List ℕ) (place : ℕ) → place ≡ min (length one) (length other) → length one ≢ length other → take place one ≡ take place other
    → DifferAt one other place
differ-end one other place is differs before = record {
  before = before;
  here = λ same. elim (cases_lt (length one) (length other)) [
    | inl shorter ↦ absurd (none-some (get_or other place 0)
        (sym (slice_get_past one place (omega (arith, is, shorter))) ∙ same ∙ slice_get-get_or other place 0 (omega (arith, is, shorter))))
    | inr longer ↦ elim (cases_lt (length other) (length one)) [
      | inl shorter ↦ absurd (none-some (get_or one place 0)
          (sym (slice_get_past other place (omega (arith, is, shorter))) ∙ sym same ∙ slice_get-get_or one place 0 (omega (arith, is, shorter))))
      | inr equal ↦ absurd (differs (omega (arith, longer, equal)))
    ]
  ];
}

-- both end together
pub same-all : (one other : List ℕ) (place : ℕ) → place ≡ min (length one) (length other) → length one ≡ length other → take place one ≡ take place other
    → one ≡ other
same-all one other place is same before =
    sym (take_all place one (omega (arith, is, same))) ∙ before ∙ take_all place other (omega (arith, is, same))
