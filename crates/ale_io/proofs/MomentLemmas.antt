-- What a clock in memory gave, one call after another.
use Rattle.std.proofs.Common.{◌≡◌, ℕ, ◌+◌, ◌-◌, ◌≤◌, List, [], ◌∷◌, ◌++◌, length, take, inl, inr, sym, ap, ◌∙◌, append_assoc, arith}
use Rattle.std.specs.Prelude.{replicate}
use Rattle.std.specs.Option.{unwrap_or}
use Rattle.std.proofs.lemmas.Bool.{cases_lt}
use Rattle.std.proofs.lemmas.List.{take_more, take_all, replicate_more}
use Rattle.std.proofs.lemmas.Option.{unwrap_or-slice_get, slice_get_past}
use Rattle.ale_io.specs.Moments.{last_moment, moment_at, given_by}

within : (moments : List ℕ) (calls : ℕ) → calls + 1 ≤ length moments → given_by moments (calls + 1) ≡ given_by moments calls ++ moment_at moments calls ∷ []
within moments calls more =
    let last = last_moment moments in
    let none : calls + 1 - length moments ≡ 0 = omega arith in
    let none_before : calls - length moments ≡ 0 = omega arith in
    rw (none, none_before)
    (ap (λ given. given ++ []) (take_more moments calls last (omega arith))
    ∙ ap (λ moment. (take calls moments ++ moment ∷ []) ++ []) (sym (unwrap_or-slice_get moments calls last))
    ∙ simp append_assoc)

past : (moments : List ℕ) (calls : ℕ) → length moments ≤ calls → given_by moments (calls + 1) ≡ given_by moments calls ++ moment_at moments calls ∷ []
past moments calls none =
    let last = last_moment moments in
    let whole : take (calls + 1) moments ≡ moments = take_all (calls + 1) moments (omega arith) in
    let whole_before : take calls moments ≡ moments = take_all calls moments none in
    let longer : calls + 1 - length moments ≡ (calls - length moments) + 1 = omega arith in
    let given : moment_at moments calls ≡ last = ap (λ moment. unwrap_or moment last) (slice_get_past moments calls none) in
    rw (whole, whole_before, longer, given)
    (ap (λ tail. moments ++ tail) (sym (replicate_more (calls - length moments) last))
    ∙ sym (append_assoc moments (replicate (calls - length moments) last) (last ∷ [])))

-- what one call more gives is behind what was given before
pub given_by-more : (moments : List ℕ) (calls : ℕ) → given_by moments (calls + 1) ≡ given_by moments calls ++ moment_at moments calls ∷ []
given_by-more moments calls =
    elim (cases_lt calls (length moments)) [
      | inl more ↦ within moments calls (omega arith)
      | inr none ↦ past moments calls none
    ]
