-- The records of a log one by one, and the first breach of all logs.
use Rattle.std.specs.Prelude.{slice_get, MatchOption}
use Rattle.std.specs.List.{filter_map, cons_option}
use Rattle.std.proofs.Common.{◌≡◌, ◌↔◌, ℕ, zero, suc, ◌+◌, ◌<◌, ◌≤◌, Option, Some, None, List, [], ◌∷◌, length, take, inl, inr, refl, sym, ap, subst, ◌∙◌, arith}
use Rattle.std.proofs.lemmas.Bool.{cases_lt}
use Rattle.std.proofs.lemmas.List.{get_or_past, length-take-le}
use Rattle.std.proofs.lemmas.Option.{slice_get_within, same_Some}
use Rattle.ale_base.proofs.OptionLemmas.{none_or_some}
use Rattle.ale_base.proofs.MemberLemmas.{filter_map-None, filter_map-Some}
use Rattle.unit_core.specs.declared.ale_unit.AleUnit.{AleUnit}
use Rattle.unit_core.specs.declared.records.Record.{Record}
use Rattle.unit_core.specs.declared.queue.Queue.TheVariants.{Outbound}
use Rattle.unit_core.specs.Filters.{taken_by, received}
use Rattle.unit_core.specs.Queues.{in_queue}
use Rattle.unit_core.specs.Once.{TakenInOrder, Once}
use Rattle.once_check.specs.declared.breach.Breach.{Breach}
use Rattle.once_check.specs.declared.breach.Clause.{Clause}
use Rattle.once_check.specs.declared.told.Told.{Told}
use Rattle.unit_core.specs.Inside.{IsOnceInside}
use Rattle.unit_core.specs.Systems.{of_system, AreNumbered}
use Rattle.once_check.specs.Breaches.{Keeps, order_of, IsKept, IsFirstBreach, IsUnbroken}
use Rattle.once_check.specs.steps.OneSystem.{IsUnbrokenIn, IsFirstIn}
use Rattle.once_check.specs.steps.Places.{KeyOf, AreCountsOf, AreAllPlacesOf, IsTakenSo}
use Rattle.once_check.specs.steps.ToldIds.{AreToldBy}
use Rattle.once_check.specs.steps.Judged.{IsJudgedBy, IsJudgedSo}
use Rattle.once_check.proofs.LawLemmas.{Once-exactly, none-breaks}
use Rattle.ale_base.proofs.ListLemmas.{take_next}
use Rattle.once_check.proofs.PlacesLemmas.{AreCountsOf-none, AreCountsOf-more}
use Rattle.once_check.proofs.JudgedLemmas.{in_order-other, tells-none, tells-some, taken-in_order, taken-none, taken-some}

-- the first records of a system's log keep each clause, and the units that they take in are counted
pub record AreKeptTo (committed : ℕ → List AleUnit) (logs : ℕ → List Record) (system n : ℕ) (counts : KeyOf → Option ℕ) : Type 0 where
  pub counted : AreCountsOf (received (take n (logs system))) counts
  pub in_order : TakenInOrder committed system (take n (logs system))
  pub kept : (k : ℕ) (next : Record) (clause : Clause) → k < n → slice_get (logs system) k ≡ Some next
      → Keeps committed logs system (take k (logs system)) next clause

-- no records keep all
pub AreKeptTo-none : (committed : ℕ → List AleUnit) (logs : ℕ → List Record) (system : ℕ) (counts : KeyOf → Option ℕ) → ((key : KeyOf) → counts key ≡ None)
    → AreKeptTo committed logs system 0 counts
AreKeptTo-none committed logs system counts none = record {
  counted = AreCountsOf-none counts none;
  in_order = λ sender name. (in_queue (Outbound sender system name) (committed sender), refl);
  kept = λ k next clause below. absurd (omega (arith, below));
}

module _ (committed : ℕ → List AleUnit) (logs : ℕ → List Record) (all : List Told) (places : List (List (List ℕ))) (system : ℕ)
    (numbered : AreNumbered committed) (told : AreToldBy logs all) (placed : AreAllPlacesOf committed places) where
  module _ (n : ℕ) (counts : KeyOf → Option ℕ) (next : Record) (so_far : AreKeptTo committed logs system n counts)
      (stands : slice_get (logs system) n ≡ Some next) where
    front : List Record
    front = take n (logs system)

    -- one record more that keeps each clause
    more_kept : ((clause : Clause) → Keeps committed logs system (take n (logs system)) next clause) → (k : ℕ) (other : Record) (clause : Clause) → k < n + 1
        → slice_get (logs system) k ≡ Some other → Keeps committed logs system (take k (logs system)) other clause
    more_kept here k other clause within at =
        elim (cases_lt k n) [
          | inl before ↦ so_far.kept k other clause before at
          | inr last ↦
              let same : n ≡ k = omega arith in
              let its : next ≡ other = same_Some next other (sym stands ∙ ap (slice_get (logs system)) same ∙ at) in
              subst (λ r. Keeps committed logs system (take k (logs system)) r clause) its
              (subst (λ m. Keeps committed logs system (take m (logs system)) next clause) same (here clause))
        ]

    -- a record that is judged to break nothing
    pub AreKeptTo-more : (after : KeyOf → Option ℕ) → IsJudgedSo committed all places system next counts after None → AreKeptTo committed logs system (n + 1) after
    AreKeptTo-more after judged =
        elim (none_or_some (taken_by next)) [
          | inl none ↦
              let so : IsJudgedBy committed all places system next counts after None None =
              subst (λ o. IsJudgedBy committed all places system next counts after o None) none judged in
              record {
                counted = subst (λ log. AreCountsOf (received log) after) (sym (take_next (logs system) n next stands))
                    (subst (λ units. AreCountsOf units after) (sym (filter_map-None taken_by (take n (logs system)) next none))
                    (subst (AreCountsOf (received (take n (logs system)))) (sym so.1) so_far.counted));
                in_order = subst (TakenInOrder committed system) (sym (take_next (logs system) n next stands))
                    (in_order-other committed system (take n (logs system)) next none so_far.in_order);
                kept = more_kept (tells-none committed logs all system (take n (logs system)) numbered told next none (sym so.0));
              }
          | inr some ↦
              let unit : AleUnit = some.0 in
              let so : IsTakenSo committed places system unit counts after None =
              subst (λ o. IsJudgedBy committed all places system next counts after o None) some.1 judged in
              record {
                counted = subst (λ log. AreCountsOf (received log) after) (sym (take_next (logs system) n next stands))
                    (subst (λ units. AreCountsOf units after) (sym (filter_map-Some taken_by (take n (logs system)) next unit some.1))
                    (AreCountsOf-more (received (take n (logs system))) unit counts after so_far.counted so.3));
                in_order = subst (TakenInOrder committed system) (sym (take_next (logs system) n next stands))
                    (taken-in_order committed logs places system (take n (logs system)) counts next unit some.1 numbered placed so_far.counted so_far.in_order after so);
                kept = more_kept (taken-none committed logs places system (take n (logs system)) counts next unit some.1 numbered placed so_far.counted so_far.in_order
                    after so);
              }
        ]

    -- a record that is judged to break a clause
    broken : (after : KeyOf → Option ℕ) (clause : Clause) → IsJudgedSo committed all places system next counts after (Some clause)
        → (Keeps committed logs system (take n (logs system)) next clause → ⊥)
        × ((other : Clause) → order_of other < order_of clause → Keeps committed logs system (take n (logs system)) next other)
    broken after clause judged =
        elim (none_or_some (taken_by next)) [
          | inl none ↦
              let so : IsJudgedBy committed all places system next counts after None (Some clause) =
              subst (λ o. IsJudgedBy committed all places system next counts after o (Some clause)) none judged in
              tells-some committed logs all system (take n (logs system)) numbered told next clause (sym so.0)
          | inr some ↦
              let so : IsTakenSo committed places system some.0 counts after (Some clause) =
              subst (λ o. IsJudgedBy committed all places system next counts after o (Some clause)) some.1 judged in
              taken-some committed logs places system (take n (logs system)) counts next some.0 some.1 numbered placed so_far.counted so_far.in_order after clause so
        ]

    -- it is the first breach of the log
    pub IsFirstIn-judged : (after : KeyOf → Option ℕ) (clause : Clause) → IsJudgedSo committed all places system next counts after (Some clause)
        → IsFirstIn committed logs system (n + 1) clause
    IsFirstIn-judged after clause judged =
        let breaks = broken after clause judged in
        record {
          is = record { place = n; number = refl; next = next; stands = stands; breaks = breaks.0 };
          earlier = λ m other less place r number at. so_far.kept place r other (omega (arith, number, less)) at;
          here = λ other less place r number at.
              let same : n ≡ place = omega (arith, number) in
              let its : next ≡ r = same_Some next r (sym stands ∙ ap (slice_get (logs system)) same ∙ at) in
              subst (λ x. Keeps committed logs system (take place (logs system)) x other) its
              (subst (λ p. Keeps committed logs system (take p (logs system)) next other) same (breaks.1 other less));
        }

  -- a log of which all records keep each clause
  pub IsUnbrokenIn-whole : (n : ℕ) (counts : KeyOf → Option ℕ) → length (logs system) ≤ n → AreKeptTo committed logs system n counts
      → IsUnbrokenIn committed logs system
  IsUnbrokenIn-whole n counts whole so_far number clause place next its at =
      so_far.kept place next clause (let within : place < length (logs system) = slice_get_within (logs system) place next at in omega (arith, within, whole)) at

length_cons_option : {B : Type 0} (o : Option B) (ys : List B) → length (cons_option o ys) ≤ suc (length ys)
length_cons_option None ys = omega arith
length_cons_option (Some y) ys = omega arith

length_filter_map : {A B : Type 0} (h : A → Option B) (xs : List A) → length (filter_map h xs) ≤ length xs
length_filter_map h [] = omega arith
length_filter_map h (x ∷ xs) = omega (arith, length_cons_option (h x) (filter_map h xs), length_filter_map h xs)

-- so many records take in no more units
pub received-few : (log : List Record) (n most : ℕ) → n < length log → length log ≤ most → length (received (take n log)) < most
received-few log n most within few = omega (arith, length_filter_map taken_by (take n log), length-take-le n log (let e : n ≤ length log = omega arith in e), within, few)

-- ---- all systems

-- the first breach of a system, behind systems that have none, is the first of all
pub IsFirstBreach-behind : (committed : ℕ → List AleUnit) (logs : ℕ → List Record) (system number : ℕ) (clause : Clause)
    → ((other : ℕ) → other < system → IsUnbrokenIn committed logs other) → IsFirstIn committed logs system number clause
    → IsFirstBreach committed logs (record { system = system; number = number; clause = clause })
IsFirstBreach-behind committed logs system number clause unbroken first = record {
  is = first.is;
  first = λ other before. elim before [
    | inl systems ↦ unbroken other.system systems other.number other.clause
    | inr rest ↦ elim rest [
      | inl same ↦ subst (λ s. IsKept committed logs (record { system = s; number = other.number; clause = other.clause })) (sym same.0)
          (first.earlier other.number other.clause same.1)
      | inr same ↦ subst (λ s. IsKept committed logs (record { system = s; number = other.number; clause = other.clause })) (sym same.0)
          (subst (λ m. IsKept committed logs (record { system = system; number = m; clause = other.clause })) (sym same.1)
          (first.here other.clause same.2))
    ]
  ];
}

-- a system that is not there has no record
unbroken_past : (committed : ℕ → List AleUnit) (logs : List (List Record)) (system : ℕ) → of_system logs system ≡ [] → IsUnbrokenIn committed (of_system logs) system
unbroken_past committed logs system none number clause place next its at =
    absurd (let e : slice_get [] place ≡ Some next = subst (λ (log : List Record). slice_get log place ≡ Some next) none at in cc)

-- where each system that is there has no breach, there is none
pub IsUnbroken-all : (committed : ℕ → List AleUnit) (logs : List (List Record)) (n : ℕ) → length logs ≤ n
    → ((system : ℕ) → system < n + 1 → IsUnbrokenIn committed (of_system logs) system) → IsUnbroken committed (of_system logs)
IsUnbroken-all committed logs n whole each at =
    elim (cases_lt at.system (n + 1)) [
      | inl there ↦ each at.system there at.number at.clause
      | inr past ↦ unbroken_past committed logs at.system (past_all logs at.system (omega (arith, whole, past))) at.number at.clause
    ]
  where
    past_all : (logs : List (List Record)) (system : ℕ) → length logs < system → of_system logs system ≡ []
    past_all logs zero past = refl
    past_all logs (suc k) past = get_or_past logs k [] (omega arith)

-- no system has number 0
pub unbroken-zero : (committed : ℕ → List AleUnit) (logs : List (List Record)) → IsUnbrokenIn committed (of_system logs) 0
unbroken-zero committed logs = unbroken_past committed logs 0 refl

-- a system more that has no breach
pub unbroken-more : (committed : ℕ → List AleUnit) (logs : ℕ → List Record) (n : ℕ) → ((system : ℕ) → system < n → IsUnbrokenIn committed logs system)
    → IsUnbrokenIn committed logs n → (system : ℕ) → system < n + 1 → IsUnbrokenIn committed logs system
unbroken-more committed logs n before here system within =
    elim (cases_lt system n) [
      | inl less ↦ before system less
      | inr last ↦ let same : n ≡ system = omega arith in subst (IsUnbrokenIn committed logs) same here
    ]

-- there is no first breach exactly where the law holds
pub none-exactly : (committed : ℕ → List AleUnit) (logs : ℕ → List Record) (found : Option Breach) → AreNumbered committed
    → MatchOption found (IsUnbroken committed logs) (IsFirstBreach committed logs) → IsOnceInside logs → (found ≡ None) ↔ Once committed logs
none-exactly committed logs None numbered unbroken inside = (λ _. (Once-exactly committed logs numbered inside).0 unbroken, λ _. refl)
none-exactly committed logs (Some breach) numbered first inside = (
  λ none. cc,
  λ once. absurd (none-breaks committed logs once breach first),
)
