-- A work of a drain is still to be done, whatever is claimed or done beside it.
use Rattle.std.specs.Prelude.{filter}
use Rattle.std.proofs.Common.{◌≡◌, ◌≢◌, ◌⊎◌, ◌==◌, ◌&&◌, ℕ, not, true, false, Option, Some, None, List, [], ◌∷◌, ◌++◌, inl, inr, refl, sym, ap, ◌∙◌}
use Rattle.std.proofs.lemmas.Bool.{cases_Bool, cases_eq, cond-true, cond-false, eq-eqb, eqb-true, ne_eqb}
use Rattle.std.proofs.lemmas.Option.{none-some}
use Rattle.ale_base.specs.Tid.{TidOf}
use Rattle.trfc_protocol.specs.declared.held.Held.{Held}
use Rattle.trfc_protocol.specs.declared.world.World.{World}
use Rattle.trfc_protocol.specs.Worlds.{claim_of, without_claim}
use Rattle.document_state.specs.declared.model_rules.ModelRules.{ModelRules}
use Rattle.unit_landscape.specs.Calls.{is_on, is_out}
use Rattle.unit_works.specs.Claims.{AreOrGone, OneFell}
use Rattle.drain_desk.specs.declared.work.Task.{Task}
use Rattle.drain_desk.specs.declared.work.Task.TheVariants.{Ship, Execute}
use Rattle.drain_desk.specs.ToDo.{number_of, IsToDo, StayToDo, OthersStay}

-- ---- claims by their numbers

-- a claim that is found among some is found where more stand behind them
found-front : (number : ℕ) (claims more : List Held) (held : Held) → claim_of number claims ≡ Some held → claim_of number (claims ++ more) ≡ Some held
found-front number [] more held found = absurd (none-some held found)
found-front number (h ∷ hs) more held found = elim (cases_Bool (h.number == number)) [
  | inl here ↦
      cond-true (h.number == number) (Some h) (claim_of number (hs ++ more)) here
      ∙ sym (cond-true (h.number == number) (Some h) (claim_of number hs) here) ∙ found
  | inr other ↦
      cond-false (h.number == number) (Some h) (claim_of number (hs ++ more)) other
      ∙ found-front number hs more held (sym (cond-false (h.number == number) (Some h) (claim_of number hs) other) ∙ found)
]

-- the last claim is found where no other has its number
pub found-last : (number : ℕ) (claims : List Held) (held : Held) → held.number ≡ number → claim_of number claims ≡ None
    → claim_of number (claims ++ held ∷ []) ≡ Some held
found-last number [] held its none = cond-true (held.number == number) (Some held) None (eq-eqb held.number number its)
found-last number (h ∷ hs) held its none = elim (cases_Bool (h.number == number)) [
  | inl here ↦ absurd (none-some h (sym none ∙ cond-true (h.number == number) (Some h) (claim_of number hs) here))
  | inr other ↦
      cond-false (h.number == number) (Some h) (claim_of number (hs ++ held ∷ [])) other
      ∙ found-last number hs held its (sym (cond-false (h.number == number) (Some h) (claim_of number hs) other) ∙ none)
]

-- a claim is found where another goes
found-without : (gone number : ℕ) (claims : List Held) (held : Held) → number ≢ gone → claim_of number claims ≡ Some held
    → claim_of number (filter (λ (h : Held). not (h.number == gone)) claims) ≡ Some held
found-without gone number [] held differs found = found
found-without gone number (h ∷ hs) held differs found = elim (cases_Bool (h.number == gone)) [
  | inl goes ↦
      let not_it : (h.number == number) ≡ false = ne_eqb h.number number (λ same. differs (sym same ∙ eqb-true h.number gone goes)) in
      rw goes (found-without gone number hs held differs (sym (cond-false (h.number == number) (Some h) (claim_of number hs) not_it) ∙ found))
  | inr stays ↦ rw stays (elim (cases_Bool (h.number == number)) [
    | inl here ↦
        cond-true (h.number == number) (Some h) (claim_of number (filter (λ (other : Held). not (other.number == gone)) hs)) here
        ∙ sym (cond-true (h.number == number) (Some h) (claim_of number hs) here) ∙ found
    | inr other ↦
        cond-false (h.number == number) (Some h) (claim_of number (filter (λ (other : Held). not (other.number == gone)) hs)) other
        ∙ found-without gone number hs held differs (sym (cond-false (h.number == number) (Some h) (claim_of number hs) other) ∙ found)
  ])
]

-- ---- tasks by their claims

found-on : (tid : TidOf) (found : Option Held) (test : Option Held → _) → (is_on tid found && test found) ≡ true → (held : Held) × (found ≡ Some held)
found-on tid None test stands = absurd (cc)
found-on tid (Some held) test stands = (held, refl)

-- the claim of a task that is to be done is there
to_do-found : (world : World ModelRules) (task : Task) → IsToDo world task → (held : Held) × (claim_of (number_of task) world.claims ≡ Some held)
to_do-found world (Ship claim) stands = found-on claim.tid (claim_of claim.number world.claims) is_out stands
to_do-found world (Execute claim) stands = found-on claim.tid (claim_of claim.number world.claims) (λ found. not (is_out found)) stands

-- a task is to be done where its claim is found as before
to_do-same : (before after : World ModelRules) (task : Task) → claim_of (number_of task) after.claims ≡ claim_of (number_of task) before.claims
    → IsToDo before task → IsToDo after task
to_do-same before after (Ship claim) same stands = ap (λ found. is_on claim.tid found && is_out found) same ∙ stands
to_do-same before after (Execute claim) same stands = ap (λ found. is_on claim.tid found && not (is_out found)) same ∙ stands

-- so it is where more is claimed
pub stay-claimed : (before after : World ModelRules) (more : List Held) → after.claims ≡ before.claims ++ more → StayToDo before after
stay-claimed before after more are = λ other stands.
    let found = to_do-found before other stands in
    to_do-same before after other
    (ap (claim_of (number_of other)) are ∙ found-front (number_of other) before.claims more found.0 found.1 ∙ sym found.1) stands

-- where nothing changed
pub others-same : (before after : World ModelRules) (task : Task) → after ≡ before → OthersStay before after task
others-same before after task same = λ other stands.
    inr (inl (to_do-same before after other (ap (λ (w : World ModelRules). claim_of (number_of other) w.claims) same) stands))

-- and, for all others, where the claim of a task goes
pub others-left : (before after : World ModelRules) (task : Task) → AreOrGone before after (without_claim before (number_of task)).claims
    → OthersStay before after task
others-left before after task left = λ other stands. elim (cases_eq (number_of task) (number_of other)) [
  | inl one ↦ inl one
  | inr differs ↦ (elim left [
    | inl are ↦
        let found = to_do-found before other stands in
        inr (inl (to_do-same before after other
        (ap (claim_of (number_of other)) are
        ∙ found-without (number_of task) (number_of other) before.claims found.0 (λ same. differs (sym same)) found.1 ∙ sym found.1) stands))
    | inr gone ↦ inr (inr gone.1)
  ])
]
