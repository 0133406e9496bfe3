-- Which records of a log gave the statuses of a document, where each record gives it some behind those that it had.
use Rattle.std.specs.Prelude.{Contains, AllPairs, nat_le, slice_get}
use Rattle.std.specs.List.{AllByRecursion}
use Rattle.std.proofs.Common.{◌≡◌, ◌≤◌, ◌<◌, ℕ, zero, suc, inl, inr, Some, List, [], ◌∷◌, ◌++◌, length, take, refl, ap, sym, subst, ◌∙◌, arith}
use Rattle.std.proofs.Common.{append-nil, append_assoc, take_all}
use Rattle.std.proofs.lemmas.List.{length_push, map-append, take-append-le}
use Rattle.std.proofs.lemmas.List.Elements.{All-from_recursion, filter-append, recursion_from_All}
use Rattle.std.proofs.lemmas.List.Kept.{AllPairs-cons}
use Rattle.std.proofs.lemmas.Bool.Decides.{leb_tells}
use Rattle.ale_base.proofs.ListLemmas.{AllByRecursion-append, AllByRecursion-map, AllByRecursion-of, AllByRecursion-weaker, slice_get-front}
use Rattle.ale_base.proofs.SnocLemmas.{slice_get-last}
use Rattle.status_log.specs.declared.status.Status.{Status}
use Rattle.status_log.specs.declared.status_at.StatusAt.{StatusAt}
use Rattle.status_log.specs.Statuses.{given, given_by}
use Rattle.status_log.specs.Given.{AreGivenIn, IsGivenIn, record_numbered, up_to}

-- what holds of a list, and stays with one element more, holds of each list that begins with it
pub from_front : {A : Type 0} (P : List A → Type 0) → ((xs : List A) (x : A) → P xs → P (xs ++ x ∷ [])) → (xs more : List A) → P xs → P (xs ++ more)
from_front P step xs [] is = subst P (sym (append-nil xs)) is
from_front P step xs (x ∷ more) is = subst P (append_assoc xs (x ∷ []) more) (from_front P step (xs ++ x ∷ []) more (step xs x is))

-- ---- one record

-- the record of a number gives a document statuses behind those that it had, with codes of these
pub record Gives (codes : List ℕ) (number : ℕ) (before after : List StatusAt) : Type 0 where
  pub more : List Status
  pub behind : after ≡ before ++ given_by number more
  pub may : AllByRecursion (λ status. Contains codes status.code) more

-- it gives none
pub Gives-none : (codes : List ℕ) (number : ℕ) (statuses : List StatusAt) → Gives codes number statuses statuses
Gives-none codes number statuses = record { more = []; behind = sym (append-nil statuses); may = tt }

-- it gives some, and then others
pub Gives-both : (codes : List ℕ) (number : ℕ) (before between after : List StatusAt) → Gives codes number before between → Gives codes number between after
    → Gives codes number before after
Gives-both codes number before between after first then = record {
  more = first.more ++ then.more;
  behind = then.behind ∙ ap (λ (statuses : List StatusAt). statuses ++ given_by number then.more) first.behind
      ∙ append_assoc before (given_by number first.more) (given_by number then.more)
      ∙ ap (λ (statuses : List StatusAt). before ++ statuses) (sym (map-append (given number) first.more then.more));
  may = AllByRecursion-append (λ (status : Status). Contains codes status.code) first.more then.more first.may then.may;
}

-- ---- statuses that are given in a log

there : {R : Type 0} (log : List R) (place : ℕ) (next : R) → slice_get log place ≡ Some next → place < length log
there [] place next is = absurd (cc)
there (x ∷ log) zero next is = omega arith
there (x ∷ log) (suc place) next is = omega (arith, there log place next is)

-- a record that has a number is one of the log
numbered-within : {R : Type 0} (log : List R) (number : ℕ) (next : R) → record_numbered log number ≡ Some next → number ≤ length log
numbered-within log zero next is = omega arith
numbered-within log (suc place) next is = omega (arith, there log place next is)

-- it has it where further records are behind the log
numbered-front : {R : Type 0} (log more : List R) (number : ℕ) (next : R) → record_numbered log number ≡ Some next
    → record_numbered (log ++ more) number ≡ Some next
numbered-front log more zero next is = absurd (cc)
numbered-front log more (suc place) next is = slice_get-front log more place (there log place next is) ∙ is

-- what the records of a log gave is given in a longer one
IsGivenIn-front : {R : Type 0} (codes : R → List ℕ) (log more : List R) (one : StatusAt) → IsGivenIn codes log one → IsGivenIn codes (log ++ more) one
IsGivenIn-front codes log more one is = (is.0, numbered-front log more one.number is.0 is.1, is.2)

-- along these statuses the numbers never fall
abbrev AreInOrder : List StatusAt → Type 0
AreInOrder statuses = AllPairs (λ one later. one.number ≤ later.number) statuses

in_order-first : (one : StatusAt) (later : List StatusAt) → AllByRecursion (λ other. one.number ≤ other.number) later → AreInOrder later
    → AreInOrder (one ∷ later)
in_order-first one later above order = AllPairs-cons (λ (a b : StatusAt). a.number ≤ b.number) one later
    (All-from_recursion (λ (other : StatusAt). one.number ≤ other.number) later above) order

-- of what one record gives no number falls
given-in_order : (number : ℕ) (more : List Status) → AreInOrder (given_by number more)
given-in_order number [] = λ i j d less within. absurd (omega (arith, within))
given-in_order number (status ∷ more) = in_order-first (given number status) (given_by number more)
    (AllByRecursion-map (λ (other : StatusAt). number ≤ other.number) (given number) more
    (AllByRecursion-of (λ (other : Status). number ≤ number) (λ other. omega arith) more))
    (given-in_order number more)

-- what the record of a number gives, behind what records up to it gave
in_order-more : (statuses : List StatusAt) (number : ℕ) (more : List Status) → AreInOrder statuses
    → AllByRecursion (λ one. one.number ≤ number) statuses → AreInOrder (statuses ++ given_by number more)
in_order-more [] number more order within = given-in_order number more
in_order-more (one ∷ later) number more order within =
    let above : AllByRecursion (λ other. one.number ≤ other.number) later =
    recursion_from_All (λ (other : StatusAt). one.number ≤ other.number) later (λ k d less. order zero (suc k) d (omega arith) (omega (arith, less))) in
    in_order-first one (later ++ given_by number more)
    (AllByRecursion-append (λ (other : StatusAt). one.number ≤ other.number) later (given_by number more) above
    (AllByRecursion-map (λ (other : StatusAt). one.number ≤ other.number) (given number) more
    (AllByRecursion-of (λ (other : Status). one.number ≤ number) (λ other. within.0) more)))
    (in_order-more later number more (λ i j d less inside. order (suc i) (suc j) d (omega (arith, less)) (omega (arith, inside))) within.1)

-- the numbers of statuses are those of records of their log
given-within : {R : Type 0} (codes : R → List ℕ) (log : List R) (statuses : List StatusAt) → AllByRecursion (IsGivenIn codes log) statuses
    → AllByRecursion (λ one. one.number ≤ suc (length log)) statuses
given-within codes log statuses each =
    AllByRecursion-weaker (IsGivenIn codes log) (λ (one : StatusAt). one.number ≤ suc (length log)) statuses
    (λ one is. omega (arith, numbered-within log one.number is.0 is.1)) each

-- a log has one more record, which gives what it may
given-push : {R : Type 0} (codes : R → List ℕ) (log : List R) (next : R) (statuses : List StatusAt) (more : List Status)
    → AllByRecursion (λ status. Contains (codes next) status.code) more → AreGivenIn codes log statuses
    → AreGivenIn codes (log ++ next ∷ []) (statuses ++ given_by (suc (length log)) more)
given-push codes log next statuses more may are = record {
  in_order = in_order-more statuses (suc (length log)) more are.in_order (given-within codes log statuses are.each);
  each = AllByRecursion-append (IsGivenIn codes (log ++ next ∷ [])) statuses (given_by (suc (length log)) more)
      (AllByRecursion-weaker (IsGivenIn codes log) (IsGivenIn codes (log ++ next ∷ [])) statuses
      (λ one is. IsGivenIn-front codes log (next ∷ []) one is) are.each)
      (AllByRecursion-map (IsGivenIn codes (log ++ next ∷ [])) (given (suc (length log))) more
      (AllByRecursion-weaker (λ (status : Status). Contains (codes next) status.code)
      (λ (status : Status). IsGivenIn codes (log ++ next ∷ []) (given (suc (length log)) status)) more
      (λ status has. (next, slice_get-last log (length log) next refl, has)) may));
}

-- ---- the statuses that the first records gave

-- what the record of a number gave is among what that many records gave
up_to-all : (number count : ℕ) (more : List Status) → number ≤ count → up_to count (given_by number more) ≡ given_by number more
up_to-all number count [] within = refl
up_to-all number count (status ∷ more) within =
    elim (leb_tells number count) [
      | inl is ↦ rw is.0 (ap (λ (statuses : List StatusAt). given number status ∷ statuses) (up_to-all number count more within))
      | inr other ↦ absurd (omega (arith, within, other.1))
    ]

-- and not among what fewer gave
up_to-none : (number count : ℕ) (more : List Status) → count < number → up_to count (given_by number more) ≡ []
up_to-none number count [] less = refl
up_to-none number count (status ∷ more) less =
    elim (leb_tells number count) [
      | inl is ↦ absurd (omega (arith, less, is.1))
      | inr other ↦ rw other.0 (up_to-none number count more less)
    ]

-- ---- the whole log: a document has no status before the first record, and each record gives it what it may
module _ {R : Type 0} (codes : R → List ℕ) (statuses : List R → List StatusAt) (nothing : statuses [] ≡ [])
    (gives : (log : List R) (next : R) → Gives (codes next) (suc (length log)) (statuses log) (statuses (log ++ next ∷ []))) where
  -- its statuses are in the order of the records, and each is of one that may give it
  pub given-log : (log : List R) → AreGivenIn codes log (statuses log)
  given-log log = from_front (λ (so_far : List R). AreGivenIn codes so_far (statuses so_far)) step [] log
      (subst (λ (had : List StatusAt). AreGivenIn codes [] had) (sym nothing) (record { in_order = given-in_order 0 []; each = tt }))
    where
      step : (log : List R) (next : R) → AreGivenIn codes log (statuses log) → AreGivenIn codes (log ++ next ∷ []) (statuses (log ++ next ∷ []))
      step log next are =
          subst (λ (has : List StatusAt). AreGivenIn codes (log ++ next ∷ []) has) (sym (gives log next).behind)
          (given-push codes log next (statuses log) (gives log next).more (gives log next).may are)

  -- of these records, what the first ones gave is what was there after them
  abbrev Stood : List R → Type 0
  Stood log = (count : ℕ) → up_to count (statuses log) ≡ statuses (take count log)

  parts : (log : List R) (next : R) (count : ℕ) → up_to count (statuses (log ++ next ∷ []))
      ≡ up_to count (statuses log) ++ up_to count (given_by (suc (length log)) (gives log next).more)
  parts log next count = ap (up_to count) (gives log next).behind
      ∙ filter-append (λ (one : StatusAt). nat_le one.number count) (statuses log) (given_by (suc (length log)) (gives log next).more)

  stood-push : (log : List R) (next : R) → Stood log → Stood (log ++ next ∷ [])
  stood-push log next stood count =
      elim (leb_tells (suc (length log)) count) [
        | inl all ↦ parts log next count
            ∙ ap (λ (last : List StatusAt). up_to count (statuses log) ++ last) (up_to-all (suc (length log)) count (gives log next).more all.1)
            ∙ ap (λ (had : List StatusAt). had ++ given_by (suc (length log)) (gives log next).more)
            (stood count ∙ ap statuses (take_all count log (omega (arith, all.1))))
            ∙ sym (gives log next).behind
            ∙ ap statuses (sym (take_all count (log ++ next ∷ []) (omega (arith, all.1, length_push log next))))
        | inr few ↦ parts log next count
            ∙ ap (λ (last : List StatusAt). up_to count (statuses log) ++ last) (up_to-none (suc (length log)) count (gives log next).more few.1)
            ∙ append-nil (up_to count (statuses log)) ∙ stood count
            ∙ ap statuses (sym (take-append-le count log (next ∷ []) (omega (arith, few.1))))
      ]

  -- what the first records gave is what was there after them
  pub stood-log : (log : List R) (count : ℕ) → up_to count (statuses log) ≡ statuses (take count log)
  stood-log log = from_front Stood stood-push [] log begun
    where
      begun : Stood []
      begun count = ap (up_to count) nothing ∙ sym (nothing_of count)
        where
          nothing_of : (count : ℕ) → statuses (take count []) ≡ []
          nothing_of zero = nothing
          nothing_of (suc count) = nothing
