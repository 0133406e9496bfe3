-- The steps of one item after another.
use Rattle.std.proofs.Common.{◌≡◌, ℕ, Bool, true, false, not, cond, Result, Ok, Err, IfOk, IfErr, List, [], ◌∷◌, ◌++◌, map, inr, sym, subst}
use Rattle.std.specs.List.{AllZip, Contains, filter}
use Rattle.std.specs.Result.{IsErrAnd}
use Rattle.std.proofs.lemmas.List.{append-nil}
use Rattle.std.proofs.lemmas.List.Elements.{filter-append}
use Rattle.ale_base.proofs.SnocLemmas.{AllZip-snoc}
use Rattle.case_form.specs.declared.item.Item.{Item}
use Rattle.case_form.specs.declared.rule.CaseFault.{CaseFault}
use Rattle.case_form.specs.declared.rule.CaseFault.TheVariants.{Malformed as BrokenAt, OutOfMemory}
use Rattle.case_form.specs.declared.verdict.Step.{Step}
use Rattle.case_form.specs.declared.verdict.Outcome.{Outcome}
use Rattle.case_form.specs.Made.{IsOutcomeOf}
use Rattle.case_form.specs.Items.{file_read, seen}
use Rattle.case_form.specs.Answered.{AreAnswered, Follows, IsAnswered, IsAnswerOf, IsEndAt, IsEndIn, is_step}

-- one more item is answered, or sets something up
pub AreAnswered-more : (sets_up : List ℕ → Bool) (finds : Item → List ℕ → Type 0) (items : List Item) (steps after : List Step) (item : Item)
    → AreAnswered sets_up finds items steps → Follows finds (sets_up item.word.items) item steps after
    → AreAnswered sets_up finds (items ++ item ∷ []) after
AreAnswered-more sets_up finds items steps after item are follows =
    subst (λ spoken. AllZip (IsAnswerOf finds) spoken after) (sym (filter-append (is_step sets_up) items (item ∷ [])))
    (by_word (sets_up item.word.items) follows)
  where
    by_word : (silent : Bool) → Follows finds silent item steps after
        → AllZip (IsAnswerOf finds) (filter (is_step sets_up) items ++ cond (not silent) (item ∷ []) []) after
    by_word true same = rw (same, append-nil (filter (is_step sets_up) items)) are
    by_word false step = rw (step.2) (AllZip-snoc (IsAnswerOf finds) (filter (is_step sets_up) items) steps item step.0 are step.1)

-- what is so of the end that is handed on is so of the one that is told
pub IfErr-from : {A : Type 0} (result : Result A CaseFault) (fault : CaseFault) (P : CaseFault → Type 0) → IsErrAnd result (λ end. end ≡ fault) → P fault
    → IfErr result P
IfErr-from (Ok a) fault P is holds = tt
IfErr-from (Err end) fault P is holds = subst P (sym is) holds

-- an item that breaks a rule is one of the items
pub IsEndIn-at : (items : List Item) (item : Item) (fault : CaseFault) → Contains items item → IsEndAt item fault → IsEndIn items fault
IsEndIn-at items item (BrokenAt line rule) one broken = (item, one, broken)
IsEndIn-at items item OutOfMemory one broken = tt

-- what comes of the items of a file
pub IsAnswered-of : {E : Type 0} (sets_up : List ℕ → Bool) (finds : Item → List ℕ → Type 0) (file bytes : List ℕ) (items : List Item) (made : Result (List Step) CaseFault)
    (result : Result Outcome E) → file_read file bytes ≡ Ok (map seen items) → IfOk made (AreAnswered sets_up finds items) → IfErr made (IsEndIn items)
    → IfOk result (IsOutcomeOf made) → IfOk result (IsAnswered sets_up finds file bytes)
IsAnswered-of sets_up finds file bytes items made (Err short) read steps fault of = tt
IsAnswered-of sets_up finds file bytes items (Ok list) (Ok outcome) read steps fault of =
    subst (IsAnswered sets_up finds file bytes) (sym of) (items, read, steps)
IsAnswered-of sets_up finds file bytes items (Err (BrokenAt line rule)) (Ok outcome) read steps fault of =
    subst (IsAnswered sets_up finds file bytes) (sym of) (inr (items, read, fault))
IsAnswered-of sets_up finds file bytes items (Err OutOfMemory) (Ok outcome) read steps fault of = absurd of
