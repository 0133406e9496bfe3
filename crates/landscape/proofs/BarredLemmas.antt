-- The systems of a landscape are asked in turn what is against a model.
use Rattle.std.specs.Prelude.{filter, cond, Err}
use Rattle.std.specs.List.{list_all, range_with_len}
use Rattle.std.specs.Option.{option_or}
use Rattle.std.proofs.Common.{◌≡◌, ℕ, suc, ◌+◌, ◌-◌, ◌<◌, ◌&&◌, Bool, true, false, Option, Some, None, List, [], ◌∷◌, sym, ap, ◌∙◌, arith}
use Rattle.std.proofs.lemmas.Bool.{and_parts}
use Rattle.status_log.specs.declared.refusal.Refusal.{Refusal}
use Rattle.status_log.specs.declared.refusal.Refusal.TheVariants as refusal
use Rattle.landscape.specs.Remodelled.{MayAs, first_refusal}

-- the numbers of the systems that are left after the first so many
abbrev pub left : ℕ → ℕ → List ℕ
left systems number = range_with_len (number + 1) (systems - number)

-- one of them is the next
pub left-next : (systems number : ℕ) → number < systems → left systems number ≡ (number + 1) ∷ left systems (number + 1)
left-next systems number within =
    let more : systems - number ≡ suc (systems - (number + 1)) = omega arith in
    ap (range_with_len (number + 1)) more

-- and at the end none
pub left-none : (systems number : ℕ) → number ≡ systems → left systems number ≡ []
left-none systems number last =
    let none : systems - number ≡ 0 = omega arith in
    ap (range_with_len (number + 1)) none

-- what may be done by more reasons than one is refused for the first
pub refused-first : (T : Type 0) (why all : Option Refusal) (refusal : Refusal) → ((r : Refusal) → why ≡ Some r → all ≡ Some r)
    → MayAs {T = T} why (Err refusal) → MayAs {T = T} all (Err refusal)
refused-first T why all refusal.OutOfMemory first is = tt
refused-first T why all refusal first is = first refusal is

module _ (systems : ℕ) (asked : ℕ → Bool) (why : ℕ → Option Refusal) (number : ℕ) (within : number < systems) where
  abbrev pub of-left : ℕ → Option Refusal
  of-left k = first_refusal why (filter asked (left systems k))

  next-left : of-left number ≡ first_refusal why (filter asked ((number + 1) ∷ left systems (number + 1)))
  next-left = ap (λ all. first_refusal why (filter asked all)) (left-next systems number within)

  -- a system that is not asked, or says nothing, leaves it to the others
  pub passes-over : asked (number + 1) ≡ false → of-left number ≡ of-left (number + 1)
  passes-over not =
      next-left
      ∙ ap (λ b. first_refusal why (cond b ((number + 1) ∷ filter asked (left systems (number + 1))) (filter asked (left systems (number + 1))))) not

  at-next : asked (number + 1) ≡ true → of-left number ≡ option_or (why (number + 1)) (of-left (number + 1))
  at-next is =
      next-left
      ∙ ap (λ b. first_refusal why (cond b ((number + 1) ∷ filter asked (left systems (number + 1))) (filter asked (left systems (number + 1))))) is

  pub passes : asked (number + 1) ≡ true → why (number + 1) ≡ None → of-left number ≡ of-left (number + 1)
  passes is none = at-next is ∙ ap (λ found. option_or found (of-left (number + 1))) none

  -- one that refuses is the first
  pub refuses : asked (number + 1) ≡ true → (r : Refusal) → why (number + 1) ≡ Some r → of-left number ≡ Some r
  refuses is r some = at-next is ∙ ap (λ found. option_or found (of-left (number + 1))) some

module _ (systems : ℕ) (test : ℕ → Bool) (number : ℕ) (within : number < systems) where
  all-next : list_all test (left systems number) ≡ (test (number + 1) && list_all test (left systems (number + 1)))
  all-next = ap (list_all test) (left-next systems number within)

  -- where all are so the next is, and those that are left
  pub next-up : list_all test (left systems number) ≡ true → (test (number + 1) ≡ true) × (list_all test (left systems (number + 1)) ≡ true)
  next-up all = and_parts (test (number + 1)) (list_all test (left systems (number + 1))) (sym all-next ∙ all)

  -- where the next is so, all are where those are that are left
  pub all-passes : test (number + 1) ≡ true → list_all test (left systems number) ≡ list_all test (left systems (number + 1))
  all-passes is = all-next ∙ ap (λ b. b && list_all test (left systems (number + 1))) is

  -- and else not all are
  pub not-all : test (number + 1) ≡ false → list_all test (left systems number) ≡ false
  not-all not = all-next ∙ ap (λ b. b && list_all test (left systems (number + 1))) not
