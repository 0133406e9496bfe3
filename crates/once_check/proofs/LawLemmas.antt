-- The law holds exactly where no record breaks it, of logs that keep what is of one log alone.
use Rattle.std.specs.Prelude.{slice_get, Contains, All}
use Rattle.std.specs.List.{filter_map}
use Rattle.std.proofs.Common.{◌≡◌, ◌↔◌, ℕ, zero, suc, ◌+◌, ◌≤◌, Option, Some, List, [], ◌∷◌, ◌++◌, length, take, drop, refl, sym, ap, subst, ◌∙◌, arith}
use Rattle.std.proofs.Common.{append_assoc}
use Rattle.std.proofs.lemmas.List.{take_all}
use Rattle.std.proofs.lemmas.List.Elements.{All-weaker, All-contains, All-contains_itself}
use Rattle.ale_base.specs.Prefix.{IsPrefix}
use Rattle.ale_base.specs.Tid.{TidOf}
use Rattle.ale_base.proofs.MemberLemmas.{Contains-map, Contains-map_back, filter_map-Contains, filter_map-Contains_back}
use Rattle.ale_base.proofs.PrefixLemmas.{IsPrefix-trans, IsPrefix-filter, IsPrefix-filter_map}
use Rattle.unit_core.specs.declared.ale_unit.AleUnit.{AleUnit}
use Rattle.unit_core.specs.declared.records.Record.{Record}
use Rattle.unit_core.specs.declared.queue.Queue.TheVariants.{Outbound}
use Rattle.unit_core.specs.Filters.{taken_by, done_by, ended_by, forgotten_by, received, done_in, ended_in, forgotten_in}
use Rattle.unit_core.specs.Queues.{in_queue, stands_in, tids_of}
use Rattle.unit_core.specs.Once.{TakenWasCommitted, TakenInOrder, DoneWasTaken, ForgottenWasDone, EndedWasForgotten, Once}
use Rattle.unit_core.proofs.TidLemmas.{same_unit}
use Rattle.once_check.specs.declared.breach.Breach.{Breach}
use Rattle.once_check.specs.declared.breach.Clause.{Clause}
use Rattle.once_check.specs.declared.breach.Clause.TheVariants.{WasCommitted, InOrder, WasTaken, WasDone, WasForgotten}
use Rattle.unit_core.specs.Systems.{AreNumbered}
use Rattle.once_check.specs.Breaches.{IsCommittedFor, IsFirstBreach, Keeps, IsUnbroken}
use Rattle.unit_core.specs.Inside.{IsOnceInside}
use Rattle.ale_base.proofs.ListLemmas.{Contains-at, place_of, split_at, slice_get-within, take_next}
use Rattle.once_check.proofs.SystemsLemmas.{numbered-place, numbered-NoneTwice}

-- what holds of each element that is in a list holds of all
All-by_element : {A : Type 0} (P : A → Type 0) (xs : List A) → ((x : A) → Contains xs x → P x) → All P xs
All-by_element P xs each = All-weaker (Contains xs) P each xs (All-contains_itself xs)

module _ (committed : ℕ → List AleUnit) (logs : ℕ → List Record) where
  module _ (numbered : AreNumbered committed) (unbroken : IsUnbroken committed logs) where
    -- each record keeps each clause
    keeps : (system place : ℕ) (next : Record) (clause : Clause) → slice_get (logs system) place ≡ Some next
        → Keeps committed logs system (take place (logs system)) next clause
    keeps system place next clause at = unbroken (record { system = system; number = place + 1; clause = clause }) place next refl at

    -- what a record tells, in a log of which each record keeps a clause
    of_told : {B : Type 0} (h : Record → Option B) (P : ℕ → B → Type 0) → ((system place : ℕ) (next : Record) (x : B) → slice_get (logs system) place ≡ Some next
        → h next ≡ Some x → P system x) → (system : ℕ) → All (P system) (filter_map h (logs system))
    of_told h P each system =
        All-by_element (P system) (filter_map h (logs system)) (λ x has.
        let back = filter_map-Contains_back h (logs system) x has in
        let place = place_of (logs system) back.0 back.1 in
        each system place.0 back.0 x place.1 back.2)

    taken_was_committed : (system : ℕ) → TakenWasCommitted committed system (logs system)
    taken_was_committed = of_told taken_by (IsCommittedFor committed) (λ system place next unit at takes. keeps system place next WasCommitted at unit takes)

    in_order_to : (system n : ℕ) → n ≤ length (logs system) → TakenInOrder committed system (take n (logs system))
    in_order_to system zero within = λ sender name. (in_queue (Outbound sender system name) (committed sender), refl)
    in_order_to system (suc n) within =
        let found = slice_get-within (logs system) n (omega arith) in
        subst (TakenInOrder committed system)
        (sym (take_next (logs system) n found.0 found.1) ∙ ap (λ m. take m (logs system)) (let e : n + 1 ≡ suc n = omega arith in e))
        (keeps system n found.0 InOrder found.1 (in_order_to system n (omega arith)))

    taken_in_order : (system : ℕ) → TakenInOrder committed system (logs system)
    taken_in_order system =
        subst (TakenInOrder committed system) (take_all (length (logs system)) (logs system) (omega arith))
        (in_order_to system (length (logs system)) (omega arith))

    -- a unit of this id that the receiver received is the one that was committed
    is_that_unit : (system : ℕ) (unit : AleUnit) → Contains (committed system) unit → Contains (tids_of (received (logs unit.receiver))) unit.tid
        → Contains (received (logs unit.receiver)) unit
    is_that_unit system unit has listed =
        let back = Contains-map_back (λ (u : AleUnit). u.tid) (received (logs unit.receiver)) unit.tid listed in
        let taken = back.0 in
        let was : IsCommittedFor committed unit.receiver taken =
        All-contains (IsCommittedFor committed unit.receiver) (received (logs unit.receiver)) taken (taken_was_committed unit.receiver) back.1 in
        let mine = numbered-place committed system unit numbered has in
        let its = numbered-place committed taken.sender taken numbered was.1 in
        let from : taken.sender ≡ system = sym its.2 ∙ ap (λ (t : TidOf). t.system) back.2 ∙ mine.2 in
        let same : taken ≡ unit = same_unit (committed system) taken unit (numbered-NoneTwice committed system numbered)
        (subst (λ s. Contains (committed s) taken) from was.1) has back.2 in
        subst (Contains (received (logs unit.receiver))) same back.1

    done_was_taken : (system : ℕ) → DoneWasTaken committed logs system
    done_was_taken =
        of_told done_by (λ system tid. (unit : AleUnit) × (unit.tid ≡ tid) × Contains (committed system) unit × Contains (received (logs unit.receiver)) unit)
        (λ system place next tid at is.
        let found = keeps system place next WasTaken at tid is in (
          found.0,
          found.1,
          found.2,
          is_that_unit system found.0 found.2 (subst (Contains (tids_of (received (logs found.0.receiver)))) (sym found.1) found.3),
        ))

    forgotten_was_done : (system : ℕ) → ForgottenWasDone logs system
    forgotten_was_done =
        of_told forgotten_by (λ system tid. Contains (done_in (logs tid.system)) tid) (λ system place next tid at is. keeps system place next WasDone at tid is)

    ended_was_forgotten : (system : ℕ) → EndedWasForgotten committed logs system
    ended_was_forgotten =
        of_told ended_by (λ system tid. (unit : AleUnit) × (unit.tid ≡ tid) × Contains (committed system) unit × Contains (forgotten_in (logs unit.receiver)) tid)
        (λ system place next tid at is. keeps system place next WasForgotten at tid is)

    -- logs of which each record keeps each clause keep the law
    pub Once-unbroken : IsOnceInside logs → Once committed logs
    Once-unbroken inside = record {
      taken_once = inside.taken_once;
      taken_was_committed = taken_was_committed;
      taken_in_order = taken_in_order;
      executed_in_order = inside.executed_in_order;
      done_was_taken = done_was_taken;
      forgotten_was_done = forgotten_was_done;
      ended_was_forgotten = ended_was_forgotten;
    }

  module _ (once : Once committed logs) where
    -- what a record tells is among what its log tells
    told : {B : Type 0} (h : Record → Option B) (system place : ℕ) (next : Record) (x : B) → slice_get (logs system) place ≡ Some next → h next ≡ Some x
        → Contains (filter_map h (logs system)) x
    told h system place next x at is = filter_map-Contains h (logs system) next x (Contains-at (logs system) place next at) is

    front : (system place : ℕ) (next : Record) → slice_get (logs system) place ≡ Some next → IsPrefix (take place (logs system) ++ next ∷ []) (logs system)
    front system place next at =
        (drop (place + 1) (logs system), append_assoc (take place (logs system)) (next ∷ []) (drop (place + 1) (logs system)) ∙ sym (split_at (logs system) place next at))

    kept : (system place : ℕ) (next : Record) (clause : Clause) → slice_get (logs system) place ≡ Some next
        → Keeps committed logs system (take place (logs system)) next clause
    kept system place next WasCommitted at = λ unit takes.
        All-contains (IsCommittedFor committed system) (received (logs system)) unit (once.taken_was_committed system) (told taken_by system place next unit at takes)
    kept system place next InOrder at = λ before sender name.
        IsPrefix-trans (in_queue (Outbound sender system name) (received (take place (logs system) ++ next ∷ [])))
        (in_queue (Outbound sender system name) (received (logs system))) (in_queue (Outbound sender system name) (committed sender))
        (IsPrefix-filter (stands_in (Outbound sender system name)) (received (take place (logs system) ++ next ∷ [])) (received (logs system))
        (IsPrefix-filter_map taken_by (take place (logs system) ++ next ∷ []) (logs system) (front system place next at)))
        (once.taken_in_order system sender name)
    kept system place next WasTaken at = λ tid is.
        let found = All-contains (λ (t : TidOf). (unit : AleUnit) × (unit.tid ≡ t) × Contains (committed system) unit × Contains (received (logs unit.receiver)) unit)
        (done_in (logs system)) tid (once.done_was_taken system) (told done_by system place next tid at is) in (
          found.0,
          found.1,
          found.2,
          subst (Contains (tids_of (received (logs found.0.receiver)))) found.1
              (Contains-map (λ (u : AleUnit). u.tid) (received (logs found.0.receiver)) found.0 found.3),
        )
    kept system place next WasDone at = λ tid is.
        All-contains (λ (t : TidOf). Contains (done_in (logs t.system)) t) (forgotten_in (logs system)) tid (once.forgotten_was_done system)
        (told forgotten_by system place next tid at is)
    kept system place next WasForgotten at = λ tid is.
        All-contains (λ (t : TidOf). (unit : AleUnit) × (unit.tid ≡ t) × Contains (committed system) unit × Contains (forgotten_in (logs unit.receiver)) t)
        (ended_in (logs system)) tid (once.ended_was_forgotten system) (told ended_by system place next tid at is)

    -- in logs that keep the law each record keeps each clause
    pub unbroken-Once : IsUnbroken committed logs
    unbroken-Once at place next number stands = kept at.system place next at.clause stands

    -- and none is the first that breaks one
    pub none-breaks : (breach : Breach) → IsFirstBreach committed logs breach → ⊥
    none-breaks breach first = first.is.breaks (unbroken-Once breach first.is.place first.is.next first.is.number first.is.stands)

-- The law holds exactly where no record breaks it.
pub Once-exactly : (committed : ℕ → List AleUnit) (logs : ℕ → List Record) → AreNumbered committed → IsOnceInside logs
    → IsUnbroken committed logs ↔ Once committed logs
Once-exactly committed logs numbered inside =
    (λ unbroken. Once-unbroken committed logs numbered unbroken inside, λ once. unbroken-Once committed logs once)
