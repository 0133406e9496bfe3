-- A confirmation that is due after acts was due before them, or was lost; and one that was due is, or its unit was visited.
use Rattle.std.specs.List.{cons_option, filter_map, list_any}
use Rattle.std.proofs.Common.{◌≡◌, ◌==◌, ◌&&◌, ◌||◌, ◌⊎◌, ℕ, not, Bool, true, false, cond, Option, Some, None, List, [], ◌∷◌, ◌++◌, inl, inr, refl, sym, ap}
use Rattle.std.proofs.Common.{subst, ◌∙◌}
use Rattle.std.proofs.Math.Bool.{or-true}
use Rattle.std.proofs.lemmas.Bool.{and_from, and_parts, both_ways, cases_Bool, not-true, or_from}
use Rattle.std.proofs.lemmas.Option.{same_Some}
use Rattle.std.proofs.lemmas.List.Elements.{filter_map-append}
use Rattle.std.proofs.lemmas.List.Folds.{list_any-append}
use Rattle.ale_volumes.specs.Disk.{Disk}
use Rattle.ale_base.specs.Tid.{TidOf, is_tid}
use Rattle.ale_base.specs.declared.mark.Mark.TheVariants.{Cpicerr, Sysfail}
use Rattle.ale_base.specs.declared.way.Way.TheVariants.{Outgoing}
use Rattle.unit_core.specs.declared.ale_unit.AleUnit.{AleUnit}
use Rattle.unit_core.specs.declared.records.Record.{Record}
use Rattle.unit_core.specs.declared.records.Record.TheVariants as log
use Rattle.unit_core.specs.Filters.{done_by, done_in, ended_by, ended_in, is_marked}
use Rattle.unit_core.specs.Queues.{heads_outbound, is_listed}
use Rattle.unit_core.proofs.TidLemmas.{is_tid-true, unit_named-Some}
use Rattle.system_tables.specs.OfLog.{is_unconfirmed}
use Rattle.trfc_protocol.specs.declared.answer.Answer.{Answer}
use Rattle.trfc_protocol.specs.declared.answer.Answer.TheVariants as answer
use Rattle.trfc_protocol.specs.declared.event.CoreAnswer.{CoreAnswer}
use Rattle.trfc_protocol.specs.declared.event.CoreAnswer.TheVariants as core
use Rattle.trfc_protocol.specs.declared.world.World.{World}
use Rattle.trfc_protocol.specs.Legal.{is_free_outbound}
use Rattle.trfc_protocol.specs.Meaning.{Meaning}
use Rattle.trfc_protocol.specs.Offered.{answer_to, is_stopped_outbound, may_move, offers_received_now}
use Rattle.trfc_protocol.specs.RecordOf.{Writing}
use Rattle.trfc_protocol.specs.Worlds.{committed_by, committed_unit, is_up, log_of}
use Rattle.trfc_protocol.proofs.LegalLemmas.{is_free-parts}
use Rattle.unit_landscape.specs.KeptWorlds.{KeptOf}
use Rattle.document_state.specs.declared.document_tables.DocumentTables.{DocumentTables}
use Rattle.document_state.specs.declared.model_rules.ModelRules.{ModelRules}
use Rattle.unit_works.specs.declared.letter.Letter.{Letter}
use Rattle.unit_works.specs.declared.letter.Letter.TheVariants.{Whole, LostRequest, LostReply, Twice, LostConfirmation, ReceiverFalls}
use Rattle.unit_works.specs.Acts.{Act, Acted, HasConfirmed, HasShipped, HaveActed, confirm, execute, loses, ship, takes}
use Rattle.unit_works.specs.Events.{arrives_under, is_confirmation, is_confirmed_under, is_execution, is_sent_under, is_shipping, is_work}
use Rattle.unit_works.specs.Trips.{AppendedAs, HaveGrown, ShippedSo, closing, confirmation, execution, fells, forgot, is_done, is_due, learnt_under, may_ship}
use Rattle.unit_works.specs.Trips.{noted_of, noted_under, one_at, records_at, shipment, taken_in}
use Rattle.unit_works.specs.Worked.{HaveOnlyClaimed, Lines, Worked}
use Rattle.unit_works.proofs.GrowthLemmas.{appended-up, shipped-up}
use Rattle.unit_works.proofs.LogLemmas.{EachIs, each-append, each-first, each-if, each-next, each-wider, listed-behind, record-here, records-on}
use Rattle.unit_works.proofs.TripLemmas.{due-parts}
use Rattle.unit_works.proofs.WorkedLemmas.{confirmation-works, execution-works, meaning, shipping-works, wider}

-- ---- ids that records name

-- a record names no id, or another
abbrev Spares : (Record → Option TidOf) → TidOf → Record → Type 0
Spares of tid next = (named : TidOf) → of next ≡ Some named → is_tid named tid ≡ false

-- ids that these records name at a system
abbrev names : (Record → Option TidOf) → TidOf → ℕ → List Writing → Bool
names of tid system added = is_listed tid (filter_map of (records_at system added))

named-none : (found : Option TidOf) (tid : TidOf) (rest : List TidOf) → ((named : TidOf) → found ≡ Some named → is_tid named tid ≡ false)
    → is_listed tid rest ≡ false → is_listed tid (cons_option found rest) ≡ false
named-none None tid rest each none = none
named-none (Some named) tid rest each none = or_from (is_tid named tid) (is_listed tid rest) (each named refl) none

spared : (of : Record → Option TidOf) (tid : TidOf) (system : ℕ) (added : List Writing) → EachIs (λ it. Spares of tid it.next) added
    → names of tid system added ≡ false
spared of tid system [] each = refl
spared of tid system (it ∷ rest) each = elim (cases_Bool (it.system == system)) [
  | inl here ↦ rw here (named-none (of it.next) tid (filter_map of (records_at system rest)) each.0 (spared of tid system rest each.1))
  | inr other ↦ rw other (spared of tid system rest each.1)
]

module _ {R : Type 0} (of : Record → Option TidOf) (tid : TidOf) (before after : World R) where
  -- what is listed of a log that grew
  pub listed-grown : (added : List Writing) → HaveGrown before after added → (system : ℕ)
      → is_listed tid (filter_map of (log_of after system))
      ≡ (is_listed tid (filter_map of (log_of before system)) || names of tid system added)
  listed-grown added grew system =
      ap (λ l. is_listed tid (filter_map of l)) (grew system)
      ∙ ap (is_listed tid) (filter_map-append of (log_of before system) (records_at system added))
      ∙ list_any-append (λ other. is_tid other tid) (filter_map of (log_of before system)) (filter_map of (records_at system added))

  -- records that spare an id leave what is listed of it
  listed-same : (added : List Writing) → EachIs (λ it. Spares of tid it.next) added → HaveGrown before after added → (system : ℕ)
      → is_listed tid (filter_map of (log_of after system)) ≡ is_listed tid (filter_map of (log_of before system))
  listed-same added each grew system =
      listed-grown added grew system
      ∙ ap (λ b. is_listed tid (filter_map of (log_of before system)) || b) (spared of tid system added each)
      ∙ or-none (is_listed tid (filter_map of (log_of before system)))
    where
      or-none : (b : Bool) → (b || false) ≡ b
      or-none true = refl
      or-none false = refl

-- a unit that is ended last is ended
ended-last : {R : Type 0} (before after : World R) (tid : TidOf) (rest : List Writing)
    → HaveGrown before after (rest ++ one_at tid.system (log.Ended tid)) → is_listed tid (ended_in (log_of after tid.system)) ≡ true
ended-last before after tid rest grew =
    let system = tid.system in
    let all : filter_map ended_by (records_at system (rest ++ one_at system (log.Ended tid))) ≡ filter_map ended_by (records_at system rest) ++ tid ∷ [] =
    ap (filter_map ended_by) (records-on system rest (one_at system (log.Ended tid)) ∙ ap (λ l. records_at system rest ++ l)
    (record-here system (log.Ended tid)))
    ∙ filter_map-append ended_by (records_at system rest) (log.Ended tid ∷ []) in
    listed-grown ended_by tid before after (rest ++ one_at system (log.Ended tid)) grew system
    ∙ ap (λ ids. is_listed tid (ended_in (log_of before system)) || is_listed tid ids) all
    ∙ ap (λ b. is_listed tid (ended_in (log_of before system)) || b) (listed-behind tid (filter_map ended_by (records_at system rest)))
    ∙ or-true (is_listed tid (ended_in (log_of before system)))

-- ---- the records of acts

-- a record at a system
abbrev pub at : ℕ → Record → Writing
at system next = record { system = system; next = next }

-- each record of a shipment is one of these
pub each-shipped : (P : Writing → Type 0) (unit : AleUnit) → P (at unit.receiver (log.Accept unit)) → P (at unit.receiver (log.Direct unit))
    → P (at unit.tid.system (log.Done unit.tid)) → P (at unit.tid.system (log.Mark unit.tid Sysfail)) → P (at unit.tid.system (log.Mark unit.tid Cpicerr))
    → P (at unit.receiver (log.Forget unit.tid)) → P (at unit.tid.system (log.Ended unit.tid)) → (letter : Letter) (given : Answer)
    → EachIs P (shipment letter given unit)
each-shipped P unit accept direct done refused lost forget ended letter given =
    let learnt = learnt_under letter given in
    let first = cond (arrives_under letter) (taken_in given unit) [] in
    let last = cond (is_confirmed_under letter && is_done learnt) (closing unit) [] in
    each-append P (first ++ noted_under letter given unit.tid) last
    (each-append P first (noted_under letter given unit.tid) (each-if P (arrives_under letter) (taken_in given unit) (taken given))
    (unless (fells letter given) (noted_of learnt unit.tid) (noted learnt)))
    (each-if P (is_confirmed_under letter && is_done learnt) (closing unit) (forget, (ended, tt)))
  where
    taken : (a : Answer) → EachIs P (taken_in a unit)
    taken answer.New = (accept, tt)
    taken answer.Run = (direct, tt)
    taken answer.Known = tt
    taken answer.Busy = tt
    taken answer.SysFail = tt
    taken answer.Down = tt

    unless : (b : Bool) (xs : List Writing) → EachIs P xs → EachIs P (cond b [] xs)
    unless true xs each = tt
    unless false xs each = each

    noted : (learnt : Option CoreAnswer) → EachIs P (noted_of learnt unit.tid)
    noted (Some core.Done) = (done, tt)
    noted (Some core.SysFail) = (refused, tt)
    noted (Some core.Busy) = tt
    noted None = (lost, tt)

pub each-confirmed : (P : Writing → Type 0) (unit : AleUnit) → P (at unit.receiver (log.Forget unit.tid)) → P (at unit.tid.system (log.Ended unit.tid))
    → (letter : Letter) (forgotten : Bool) → EachIs P (confirmation letter forgotten unit)
each-confirmed P unit forget ended letter true =
    each-if P (is_sent_under letter) (one_at unit.tid.system (log.Ended unit.tid)) (ended, tt)
each-confirmed P unit forget ended letter false =
    each-if P (is_sent_under letter) (closing unit) (forget, (ended, tt))

pub each-executed : (P : Writing → Type 0) (system : ℕ) (tid : TidOf) → P (at system (log.Execute tid)) → P (at system (log.Fail tid)) → (offered : Bool)
    → EachIs P (execution offered system tid)
each-executed P system tid done failed true = (done, tt)
each-executed P system tid done failed false = (failed, tt)

-- such records were appended, and no others
abbrev pub AreAppended : {R : Type 0} → (Writing → Type 0) → World R → World R → Type 0
AreAppended P before after = (done : List Writing) × HaveGrown before after done × EachIs P done

-- those of an act that was cut are the first of them
pub are-appended : {R A V : Type 0} (P : Writing → Type 0) (before after : KeptOf R A V) (added : List Writing) (whole : Bool)
    → AppendedAs before after added whole → EachIs P added → AreAppended P before.world after.world
are-appended P before after added true did each = (added, did.grew, each)
are-appended P before after added false did each =
    let cut = did.4 in (did.0, cut.grew, each-first P did.0 (did.2 ∷ did.1) (subst (EachIs P) did.3 each))

-- so are those of a shipment
pub are-shipped : {R A V : Type 0} (P : Writing → Type 0) (before after : KeptOf R A V) (letter : Letter) (given : Answer) (unit : AleUnit) (whole : Bool)
    → ShippedSo before after letter given unit whole → EachIs P (shipment letter given unit) → AreAppended P before.world after.world
are-shipped P before after letter given unit true did each = are-appended P before after (shipment letter given unit) true did.0 each
are-shipped P before after letter given unit false did each = elim did [
  | inl cut ↦ are-appended P before after (shipment letter given unit) false cut each
  | inr felled ↦ let fell = felled.1 in (shipment letter given unit, fell.grew, each)
]

-- a record that does not count spares each id
none-spares : (of : Record → Option TidOf) (tid : TidOf) (next : Record) → of next ≡ None → Spares of tid next
none-spares of tid next none named some = let wrong = sym none ∙ some in cc

one-spares : (of : Record → Option TidOf) (tid : TidOf) (next : Record) (other : TidOf) → of next ≡ Some other → is_tid other tid ≡ false
    → Spares of tid next
one-spares of tid next other its differs named some =
    let same : other ≡ named = cc (its, some) in subst (λ t. is_tid t tid ≡ false) same differs

-- a shipment whose confirmation is not lost leaves its unit undone, or ends it
ship-ends : (letter : Letter) (given : Answer) (unit : AleUnit) → (letter ≡ LostConfirmation → ⊥)
    → EachIs (λ it. done_by it.next ≡ None) (shipment letter given unit)
    ⊎ ((rest : List Writing) × (shipment letter given unit ≡ rest ++ one_at unit.tid.system (log.Ended unit.tid)))
ship-ends LostConfirmation given unit other = absurd (other refl)
ship-ends LostRequest given unit other = inl (refl, tt)
ship-ends LostReply answer.New unit other = inl (refl, (refl, tt))
ship-ends LostReply answer.Run unit other = inl (refl, (refl, tt))
ship-ends LostReply answer.Known unit other = inl (refl, tt)
ship-ends LostReply answer.Busy unit other = inl (refl, tt)
ship-ends LostReply answer.SysFail unit other = inl (refl, tt)
ship-ends LostReply answer.Down unit other = inl (refl, tt)
ship-ends ReceiverFalls answer.New unit other = inl (refl, tt)
ship-ends ReceiverFalls answer.Run unit other = inl (refl, tt)
ship-ends ReceiverFalls answer.Known unit other = inl tt
ship-ends ReceiverFalls answer.Busy unit other = inl tt
ship-ends ReceiverFalls answer.SysFail unit other = inl tt
ship-ends ReceiverFalls answer.Down unit other = inl (refl, tt)
ship-ends Whole answer.New unit other = inr (
  one_at unit.receiver (log.Accept unit) ++ one_at unit.tid.system (log.Done unit.tid) ++ one_at unit.receiver
      (log.Forget unit.tid),
  refl,
)
ship-ends Whole answer.Run unit other = inr (
  one_at unit.receiver (log.Direct unit) ++ one_at unit.tid.system (log.Done unit.tid) ++ one_at unit.receiver
      (log.Forget unit.tid),
  refl,
)
ship-ends Whole answer.Known unit other = inr (one_at unit.tid.system (log.Done unit.tid) ++ one_at unit.receiver (log.Forget unit.tid), refl)
ship-ends Whole answer.Busy unit other = inl tt
ship-ends Whole answer.SysFail unit other = inl (refl, tt)
ship-ends Whole answer.Down unit other = inl (refl, tt)
ship-ends Twice answer.New unit other = inr (
  one_at unit.receiver (log.Accept unit) ++ one_at unit.tid.system (log.Done unit.tid) ++ one_at unit.receiver
      (log.Forget unit.tid),
  refl,
)
ship-ends Twice answer.Run unit other = inr (
  one_at unit.receiver (log.Direct unit) ++ one_at unit.tid.system (log.Done unit.tid) ++ one_at unit.receiver
      (log.Forget unit.tid),
  refl,
)
ship-ends Twice answer.Known unit other = inr (one_at unit.tid.system (log.Done unit.tid) ++ one_at unit.receiver (log.Forget unit.tid), refl)
ship-ends Twice answer.Busy unit other = inl tt
ship-ends Twice answer.SysFail unit other = inl (refl, tt)
ship-ends Twice answer.Down unit other = inl (refl, tt)

-- a confirmation that is sent ends its unit
confirm-ends : (letter : Letter) (forgotten : Bool) (unit : AleUnit) → (letter ≡ LostConfirmation → ⊥)
    → (rest : List Writing) × (confirmation letter forgotten unit ≡ rest ++ one_at unit.tid.system (log.Ended unit.tid))
confirm-ends LostConfirmation forgotten unit other = absurd (other refl)
confirm-ends Whole forgotten unit other = (cond forgotten [] (one_at unit.receiver (log.Forget unit.tid)), refl)
confirm-ends Twice forgotten unit other = (cond forgotten [] (one_at unit.receiver (log.Forget unit.tid)), refl)
confirm-ends LostRequest forgotten unit other = (cond forgotten [] (one_at unit.receiver (log.Forget unit.tid)), refl)
confirm-ends LostReply forgotten unit other = (cond forgotten [] (one_at unit.receiver (log.Forget unit.tid)), refl)
confirm-ends ReceiverFalls forgotten unit other = (cond forgotten [] (one_at unit.receiver (log.Forget unit.tid)), refl)

-- ---- what is due before and after

-- what a log says of a unit is as before
record ReadsSame {R : Type 0} (before after : World R) (tid : TidOf) : Type 0 where
  done : is_listed tid (done_in (log_of after tid.system)) ≡ is_listed tid (done_in (log_of before tid.system))
  ended : is_listed tid (ended_in (log_of after tid.system)) ≡ is_listed tid (ended_in (log_of before tid.system))

module _ {R : Type 0} (before after : World R) (unit : AleUnit) (reads : ReadsSame before after unit.tid) where
  same-unconfirmed : is_unconfirmed unit.tid (log_of after unit.tid.system) ≡ is_unconfirmed unit.tid (log_of before unit.tid.system)
  same-unconfirmed =
      ap (λ b. b && not (is_listed unit.tid (ended_in (log_of after unit.tid.system)))) reads.done
      ∙ ap (λ b. is_listed unit.tid (done_in (log_of before unit.tid.system)) && not b) reads.ended

  -- it is due where its systems are up and it is unconfirmed as where it was due
  made-due : (from to : World R) → is_up to unit.tid.system ≡ true → is_up to unit.receiver ≡ true
      → is_unconfirmed unit.tid (log_of to unit.tid.system) ≡ is_unconfirmed unit.tid (log_of from unit.tid.system)
      → is_due from unit ≡ true → is_due to unit ≡ true
  made-due from to sender receiver same due =
      let parts = due-parts from unit due in
      and_from (is_up to unit.tid.system && is_up to unit.receiver) (is_unconfirmed unit.tid (log_of to unit.tid.system))
      (and_from (is_up to unit.tid.system) (is_up to unit.receiver) sender receiver) (same ∙ parts.2)

  due-on : is_up after unit.tid.system ≡ true → is_up after unit.receiver ≡ true → is_due before unit ≡ true → is_due after unit ≡ true
  due-on sender receiver = made-due before after sender receiver same-unconfirmed

  due-back : ((system : ℕ) → is_up after system ≡ true → is_up before system ≡ true) → is_due after unit ≡ true → is_due before unit ≡ true
  due-back ups due =
      let parts = due-parts after unit due in
      made-due after before (ups unit.tid.system parts.0) (ups unit.receiver parts.1) (sym same-unconfirmed) due

-- what is due is done and not ended
due-reads : {R : Type 0} (world : World R) (unit : AleUnit) → is_due world unit ≡ true
    → (is_listed unit.tid (done_in (log_of world unit.tid.system)) ≡ true) × (is_listed unit.tid (ended_in (log_of world unit.tid.system)) ≡ false)
due-reads world unit due =
    let parts = due-parts world unit due in
    let reads = and_parts (is_listed unit.tid (done_in (log_of world unit.tid.system))) (not (is_listed unit.tid (ended_in (log_of world unit.tid.system))))
    parts.2 in
    (reads.0, not-true (is_listed unit.tid (ended_in (log_of world unit.tid.system))) reads.1)

-- a unit that may be shipped is not done
pub may-undone : {R : Type 0} (rules : Meaning) (world : World R) (tid : TidOf) (unit : AleUnit) → committed_unit rules world tid ≡ Some unit
    → may_ship rules world tid ≡ true → is_listed unit.tid (done_in (log_of world tid.system)) ≡ false
may-undone rules world tid unit named may =
    let up = is_up world tid.system in
    let free = is_free_outbound (committed_by rules world tid.system) (log_of world tid.system) tid in
    let moves = may_move (is_stopped_outbound (log_of world tid.system)) (committed_unit rules world tid) in
    let parts = is_free-parts (done_in (log_of world tid.system)) (is_marked Outgoing tid (log_of world tid.system))
    (heads_outbound (done_in (log_of world tid.system)) (committed_by rules world tid.system)) (committed_unit rules world tid)
    (and_parts up free (and_parts (up && free) moves may).0).1 in
    let same : parts.0 ≡ unit = cc (parts.1, named) in
    subst (λ (u : AleUnit). is_listed u.tid (done_in (log_of world tid.system)) ≡ false) same parts.2

-- a record spares an id: it neither makes it done nor ends it
abbrev Leaves : TidOf → Writing → Type 0
Leaves tid it = Spares done_by tid it.next × Spares ended_by tid it.next

leaves-none : (tid : TidOf) (it : Writing) → done_by it.next ≡ None → ended_by it.next ≡ None → Leaves tid it
leaves-none tid it done ended = (none-spares done_by tid it.next done, none-spares ended_by tid it.next ended)

-- so what is read of the id is as before
leaves-reads : {R : Type 0} (before after : World R) (tid : TidOf) → AreAppended (Leaves tid) before after → ReadsSame before after tid
leaves-reads before after tid did = record {
  done = listed-same done_by tid before after did.0
      (each-wider (Leaves tid) (λ it. Spares done_by tid it.next) did.0 (λ it leaves. leaves.0) did.2) did.1 tid.system;
  ended = listed-same ended_by tid before after did.0
      (each-wider (Leaves tid) (λ it. Spares ended_by tid it.next) did.0 (λ it leaves. leaves.1) did.2) did.1 tid.system;
}

-- a record is at the sender or the receiver of a unit
abbrev IsAt : AleUnit → Writing → Type 0
IsAt unit it = (it.system ≡ unit.receiver) ⊎ (it.system ≡ unit.tid.system)

-- where an act on a unit was cut, its confirmation is not due
cut-due : {R A V : Type 0} (before after : KeptOf R A V) (unit : AleUnit) (added : List Writing) → AppendedAs before after added false
    → EachIs (IsAt unit) added → is_due after.world unit ≡ true → ⊥
cut-due before after unit added did each due =
    let parts = due-parts after.world unit due in
    let cut = did.4 in
    elim (each-next (IsAt unit) did.0 did.2 did.1 (subst (EachIs (IsAt unit)) did.3 each)) [
      | inl receiver ↦ both_ways (is_up after.world unit.receiver) (sym (ap (is_up after.world) receiver) ∙ cut.fell) parts.1
      | inr sender ↦ both_ways (is_up after.world unit.tid.system) (sym (ap (is_up after.world) sender) ∙ cut.fell) parts.0
    ]

-- claims that are made or given up leave what is read of units
module _ {V : Type 0} (before after : KeptOf ModelRules DocumentTables V) (only : HaveOnlyClaimed before after) where
  pub only-due : (unit : AleUnit) → is_due after.world unit ≡ is_due before.world unit
  only-due unit = ap (λ (w : World ModelRules). is_due w unit) only.world

  pub only-up : (system : ℕ) → is_up after.world system ≡ is_up before.world system
  only-up system = ap (λ (w : World ModelRules). is_up w system) only.world

  pub only-log : (system : ℕ) → log_of after.world system ≡ log_of before.world system
  only-log system = ap (λ (w : World ModelRules). log_of w system) only.world

  pub only-committed : (tid : TidOf) → committed_unit (meaning after.world.rules) after.world tid ≡ committed_unit (meaning before.world.rules) before.world tid
  only-committed tid = ap (λ (w : World ModelRules). committed_unit (meaning w.rules) w tid) only.world

module _ {V : Type 0} (disk : Disk V) where
  module _ (before after : KeptOf ModelRules DocumentTables V) (lines lines_after : Lines) where
    -- a system that is up after an act was before
    pub acted-up : (act : Act) → Acted disk before lines act after lines_after → (system : ℕ) → is_up after.world system ≡ true
        → is_up before.world system ≡ true
    acted-up (ship tid letter whole) did system up =
        let was = did.was in
        shipped-up before after letter (answer_to (meaning before.world.rules) before.world was.unit) was.unit whole was.grew system up
    acted-up (execute place tid whole) did system up =
        let executed = did.0 in
        appended-up before after
        (execution (offers_received_now (meaning before.world.rules) before.world place tid) place tid) whole executed.grew system up
    acted-up (confirm tid letter whole) did system up =
        appended-up before after (confirmation letter (forgot before.world did.unit) did.unit) whole did.grew system up

    -- an act is work
    pub acted-went : (act : Act) → Acted disk before lines act after lines_after → Worked disk before after is_work true
    acted-went (ship of letter whole) did =
        let was = did.was in wider disk (is_shipping letter) is_work true before after (shipping-works letter) was.went
    acted-went (execute place of whole) did =
        let executed = did.0 in wider disk is_execution is_work true before after execution-works executed.went
    acted-went (confirm of letter whole) did = wider disk is_confirmation is_work true before after confirmation-works did.went

    -- a unit that was committed is
    acted-committed : (act : Act) → Acted disk before lines act after lines_after → (tid : TidOf) (unit : AleUnit)
        → committed_unit (meaning before.world.rules) before.world tid ≡ Some unit → committed_unit (meaning after.world.rules) after.world tid ≡ Some unit
    acted-committed act did tid unit named = let went = acted-went act did in went.committed tid ∙ named

    -- an act on no unit of an id leaves what is read of it
    reads-other : (tid : TidOf) (act : Act) → Acted disk before lines act after lines_after → takes tid act ≡ false
        → ReadsSame before.world after.world tid
    reads-other tid (ship other letter whole) did off =
        let was = did.was in
        let unit : AleUnit = was.unit in
        let its : unit.tid ≡ other = (unit_named-Some other (committed_by (meaning before.world.rules) before.world other.system) unit was.committed).1 in
        let differs : is_tid unit.tid tid ≡ false = ap (λ t. is_tid t tid) its ∙ off in
        let given = answer_to (meaning before.world.rules) before.world unit in
        leaves-reads before.world after.world tid
        (are-shipped (Leaves tid) before after letter given unit whole was.grew
        (each-shipped (Leaves tid) unit (leaves-none tid (at unit.receiver (log.Accept unit)) refl refl)
        (leaves-none tid (at unit.receiver (log.Direct unit)) refl refl)
        (one-spares done_by tid (log.Done unit.tid) unit.tid refl differs, none-spares ended_by tid (log.Done unit.tid) refl)
        (leaves-none tid (at unit.tid.system (log.Mark unit.tid Sysfail)) refl refl)
        (leaves-none tid (at unit.tid.system (log.Mark unit.tid Cpicerr)) refl refl)
        (leaves-none tid (at unit.receiver (log.Forget unit.tid)) refl refl)
        (none-spares done_by tid (log.Ended unit.tid) refl, one-spares ended_by tid (log.Ended unit.tid) unit.tid refl differs) letter given))
    reads-other tid (execute system other whole) did off =
        let executed = did.0 in
        let offered = offers_received_now (meaning before.world.rules) before.world system other in
        leaves-reads before.world after.world tid
        (are-appended (Leaves tid) before after (execution offered system other) whole executed.grew
        (each-executed (Leaves tid) system other (leaves-none tid (at system (log.Execute other)) refl refl)
        (leaves-none tid (at system (log.Fail other)) refl refl) offered))
    reads-other tid (confirm other letter whole) did off =
        let unit : AleUnit = did.unit in
        let its : unit.tid ≡ other = (unit_named-Some other (committed_by (meaning before.world.rules) before.world other.system) unit did.committed).1 in
        let differs : is_tid unit.tid tid ≡ false = ap (λ t. is_tid t tid) its ∙ off in
        let forgotten = forgot before.world unit in
        leaves-reads before.world after.world tid
        (are-appended (Leaves tid) before after (confirmation letter forgotten unit) whole did.grew
        (each-confirmed (Leaves tid) unit (leaves-none tid (at unit.receiver (log.Forget unit.tid)) refl refl)
        (none-spares done_by tid (log.Ended unit.tid) refl, one-spares ended_by tid (log.Ended unit.tid) unit.tid refl differs) letter forgotten))

    -- a shipment of a unit whose confirmation is due after it lost it
    shipped-lost : (unit : AleUnit) (tid : TidOf) (letter : Letter) (whole : Bool) → tid ≡ unit.tid
        → HasShipped disk before after lines lines_after tid letter whole
        → committed_unit (meaning after.world.rules) after.world unit.tid ≡ Some unit → is_due after.world unit ≡ true → letter ≡ LostConfirmation
    shipped-lost unit tid letter whole same did named due = by letter refl
      where
        sent : AleUnit
        sent = (did.was).unit

        equal : sent ≡ unit
        equal =
            let was = did.was in
            let went = was.went in
            same_Some sent unit
            (sym (went.committed tid ∙ was.committed) ∙ ap (committed_unit (meaning after.world.rules) after.world) same ∙ named)

        undone : is_listed unit.tid (done_in (log_of before.world unit.tid.system)) ≡ false
        undone =
            subst (λ (u : AleUnit). is_listed u.tid (done_in (log_of before.world unit.tid.system)) ≡ false) equal
            (subst (λ (t : TidOf). is_listed sent.tid (done_in (log_of before.world t.system)) ≡ false) same
            (may-undone (meaning before.world.rules) before.world tid sent (did.was).committed did.may))

        wrong : (l : Letter) → letter ≡ l → (l ≡ LostConfirmation → ⊥) → (b : Bool)
            → ShippedSo before after l (answer_to (meaning before.world.rules) before.world unit) unit b → ⊥
        wrong l is other true did_so =
            let grew = did_so.0 in
            let reads = due-reads after.world unit due in
            let given = answer_to (meaning before.world.rules) before.world unit in
            elim (ship-ends l given unit other) [
              | inl undone_still ↦
                  both_ways (is_listed unit.tid (done_in (log_of after.world unit.tid.system)))
                  (listed-same done_by unit.tid before.world after.world (shipment l given unit)
                  (each-wider (λ it. done_by it.next ≡ None) (λ it. Spares done_by unit.tid it.next) (shipment l given unit)
                  (λ it none_of. none-spares done_by unit.tid it.next none_of) undone_still) grew.grew unit.tid.system ∙ undone) reads.0
              | inr ends ↦
                  both_ways (is_listed unit.tid (ended_in (log_of after.world unit.tid.system))) reads.1
                  (ended-last before.world after.world unit.tid ends.0 (subst (HaveGrown before.world after.world) ends.1 grew.grew))
            ]
        wrong l is other false did_so =
            let given = answer_to (meaning before.world.rules) before.world unit in
            elim did_so [
              | inl grew ↦
                  cut-due before after unit (shipment l given unit) grew
                  (each-shipped (IsAt unit) unit (inl refl) (inl refl) (inr refl) (inr refl) (inr refl) (inl refl) (inr refl) l given) due
              | inr felled ↦
                  let fell = felled.1 in
                  let parts = due-parts after.world unit due in
                  both_ways (is_up after.world unit.receiver) fell.fell parts.1
            ]

        grew_so : (l : Letter) → letter ≡ l → ShippedSo before after l (answer_to (meaning before.world.rules) before.world unit) unit whole
        grew_so l is =
            subst (λ m. ShippedSo before after m (answer_to (meaning before.world.rules) before.world unit) unit whole) is
            (subst (λ (u : AleUnit). ShippedSo before after letter (answer_to (meaning before.world.rules) before.world u) u whole)
            equal
            (did.was).grew)

        by : (l : Letter) → letter ≡ l → letter ≡ LostConfirmation
        by LostConfirmation is = is
        by Whole is = absurd (wrong Whole is (λ lost. cc) whole (grew_so Whole is))
        by LostRequest is = absurd (wrong LostRequest is (λ lost. cc) whole (grew_so LostRequest is))
        by LostReply is = absurd (wrong LostReply is (λ lost. cc) whole (grew_so LostReply is))
        by Twice is = absurd (wrong Twice is (λ lost. cc) whole (grew_so Twice is))
        by ReceiverFalls is = absurd (wrong ReceiverFalls is (λ lost. cc) whole (grew_so ReceiverFalls is))

    -- so did a confirmation
    confirmed-lost : (unit : AleUnit) (tid : TidOf) (letter : Letter) (whole : Bool) → tid ≡ unit.tid
        → HasConfirmed disk before after lines lines_after tid letter whole
        → committed_unit (meaning after.world.rules) after.world unit.tid ≡ Some unit → is_due after.world unit ≡ true → letter ≡ LostConfirmation
    confirmed-lost unit tid letter whole same did named due = by letter refl
      where
        sent : AleUnit
        sent = did.unit

        equal : sent ≡ unit
        equal =
            let went = did.went in
            same_Some sent unit
            (sym (went.committed tid ∙ did.committed) ∙ ap (committed_unit (meaning after.world.rules) after.world) same ∙ named)

        wrong : (l : Letter) → (l ≡ LostConfirmation → ⊥) → (b : Bool)
            → AppendedAs before after (confirmation l (forgot before.world unit) unit) b → ⊥
        wrong l other true grew =
            let reads = due-reads after.world unit due in
            let ends = confirm-ends l (forgot before.world unit) unit other in
            both_ways (is_listed unit.tid (ended_in (log_of after.world unit.tid.system))) reads.1
            (ended-last before.world after.world unit.tid ends.0 (subst (HaveGrown before.world after.world) ends.1 grew.grew))
        wrong l other false grew =
            cut-due before after unit (confirmation l (forgot before.world unit) unit) grew
            (each-confirmed (IsAt unit) unit (inl refl) (inr refl) l (forgot before.world unit)) due

        grew_so : (l : Letter) → letter ≡ l → AppendedAs before after (confirmation l (forgot before.world unit) unit) whole
        grew_so l is =
            subst (λ m. AppendedAs before after (confirmation m (forgot before.world unit) unit) whole) is
            (subst (λ (u : AleUnit). AppendedAs before after (confirmation letter (forgot before.world u) u) whole) equal did.grew)

        by : (l : Letter) → letter ≡ l → letter ≡ LostConfirmation
        by LostConfirmation is = is
        by Whole is = absurd (wrong Whole (λ lost. cc) whole (grew_so Whole is))
        by LostRequest is = absurd (wrong LostRequest (λ lost. cc) whole (grew_so LostRequest is))
        by LostReply is = absurd (wrong LostReply (λ lost. cc) whole (grew_so LostReply is))
        by Twice is = absurd (wrong Twice (λ lost. cc) whole (grew_so Twice is))
        by ReceiverFalls is = absurd (wrong ReceiverFalls (λ lost. cc) whole (grew_so ReceiverFalls is))

    -- an act on the unit of an id that is due after it lost its confirmation
    lost-on : (unit : AleUnit) (act : Act) → Acted disk before lines act after lines_after → takes unit.tid act ≡ true
        → committed_unit (meaning after.world.rules) after.world unit.tid ≡ Some unit → is_due after.world unit ≡ true → loses unit.tid act ≡ true
    lost-on unit (execute system other whole) did on_it named due = cc
    lost-on unit (ship other letter whole) did on_it named due =
        let lost = shipped-lost unit other letter whole (is_tid-true other unit.tid on_it) did named due in
        ap (λ l. loses unit.tid (ship other l whole)) lost ∙ on_it
    lost-on unit (confirm other letter whole) did on_it named due =
        let lost = confirmed-lost unit other letter whole (is_tid-true other unit.tid on_it) did named due in
        ap (λ l. loses unit.tid (confirm other l whole)) lost ∙ on_it

  -- ---- lists of acts

  pub all-up : (acts : List Act) (before after : KeptOf ModelRules DocumentTables V) (lines lines_after : Lines)
      → HaveActed disk before lines acts after lines_after → (system : ℕ) → is_up after.world system ≡ true → is_up before.world system ≡ true
  all-up [] before after lines lines_after did system up = sym (only-up before after did.0 system) ∙ up
  all-up (act ∷ acts) before after lines lines_after did system up =
      sym (only-up before did.0 did.3 system)
      ∙ acted-up did.0 did.1 lines did.2 act did.4 system (all-up acts did.1 after did.2 lines_after did.5 system up)

  all-committed : (acts : List Act) (before after : KeptOf ModelRules DocumentTables V) (lines lines_after : Lines)
      → HaveActed disk before lines acts after lines_after → (tid : TidOf) (unit : AleUnit)
      → committed_unit (meaning before.world.rules) before.world tid ≡ Some unit → committed_unit (meaning after.world.rules) after.world tid ≡ Some unit
  all-committed [] before after lines lines_after did tid unit named = only-committed before after did.0 tid ∙ named
  all-committed (act ∷ acts) before after lines lines_after did tid unit named =
      all-committed acts did.1 after did.2 lines_after did.5 tid unit
      (acted-committed did.0 did.1 lines did.2 act did.4 tid unit (only-committed before did.0 did.3 tid ∙ named))

  -- the unit of an id in which an act took a letter was committed
  taken-committed : (before after : KeptOf ModelRules DocumentTables V) (lines lines_after : Lines) (tid : TidOf) (act : Act)
      → Acted disk before lines act after lines_after → takes tid act ≡ true
      → (sent : AleUnit) × (committed_unit (meaning before.world.rules) before.world tid ≡ Some sent)
  taken-committed before after lines lines_after tid (ship other letter whole) did on_it =
      let was = did.was in
      (was.unit, subst (λ t. committed_unit (meaning before.world.rules) before.world t ≡ Some was.unit) (is_tid-true other tid on_it) was.committed)
  taken-committed before after lines lines_after tid (confirm other letter whole) did on_it =
      (did.unit, subst (λ t. committed_unit (meaning before.world.rules) before.world t ≡ Some did.unit) (is_tid-true other tid on_it) did.committed)
  taken-committed before after lines lines_after tid (execute system other whole) did on_it = cc

  -- a unit that is due after acts was due before, and took a letter in none of them; or its confirmation was lost
  pub lost-or-due : (acts : List Act) (before after : KeptOf ModelRules DocumentTables V) (lines lines_after : Lines)
      → HaveActed disk before lines acts after lines_after → (unit : AleUnit)
      → committed_unit (meaning after.world.rules) after.world unit.tid ≡ Some unit → is_due after.world unit ≡ true
      → ((is_due before.world unit ≡ true) × (list_any (takes unit.tid) acts ≡ false)) ⊎ (list_any (loses unit.tid) acts ≡ true)
  lost-or-due [] before after lines lines_after did unit named due = inl (sym (only-due before after did.0 unit) ∙ due, refl)
  lost-or-due (act ∷ acts) before after lines lines_after did unit named due =
      let start : KeptOf ModelRules DocumentTables V = did.0 in
      let between : KeptOf ModelRules DocumentTables V = did.1 in
      elim (lost-or-due acts between after did.2 lines_after did.5 unit named due) [
        | inr lost ↦ inr (ap (λ b. loses unit.tid act || b) lost ∙ or-true (loses unit.tid act))
        | inl still_due ↦ elim (cases_Bool (takes unit.tid act)) [
          | inl on_it ↦
              let sent = taken-committed start between lines did.2 unit.tid act did.4 on_it in
              let then = acted-committed start between lines did.2 act did.4 unit.tid sent.0 sent.1 in
              let same : sent.0 ≡ unit =
              same_Some sent.0 unit (sym (all-committed acts between after did.2 lines_after did.5 unit.tid sent.0 then) ∙ named) in
              inr (ap (λ b. b || list_any (loses unit.tid) acts)
              (lost-on start between lines did.2 unit act did.4 on_it (then ∙ ap Some same) still_due.0))
          | inr off ↦
              inl (
                sym (only-due before start did.3 unit)
                    ∙ due-back start.world between.world unit (reads-other start between lines did.2 unit.tid act did.4 off)
                    (acted-up start between lines did.2 act did.4) still_due.0,
                ap (λ b. b || list_any (takes unit.tid) acts) off ∙ still_due.1,
              )
        ]
      ]

  -- a unit that is due before acts is due after them where its systems are up, or it took a letter in one of them
  pub due-or-on : (acts : List Act) (before after : KeptOf ModelRules DocumentTables V) (lines lines_after : Lines)
      → HaveActed disk before lines acts after lines_after → (unit : AleUnit) → is_due before.world unit ≡ true
      → is_up after.world unit.tid.system ≡ true → is_up after.world unit.receiver ≡ true
      → (is_due after.world unit ≡ true) ⊎ (list_any (takes unit.tid) acts ≡ true)
  due-or-on [] before after lines lines_after did unit due sender receiver = inl (only-due before after did.0 unit ∙ due)
  due-or-on (act ∷ acts) before after lines lines_after did unit due sender receiver =
      let start : KeptOf ModelRules DocumentTables V = did.0 in
      let between : KeptOf ModelRules DocumentTables V = did.1 in
      let ups = all-up acts between after did.2 lines_after did.5 in
      elim (cases_Bool (takes unit.tid act)) [
        | inl on_it ↦ inr (ap (λ b. b || list_any (takes unit.tid) acts) on_it)
        | inr off ↦
            let due_then = due-on start.world between.world unit (reads-other start between lines did.2 unit.tid act did.4 off)
            (ups unit.tid.system sender) (ups unit.receiver receiver) (only-due before start did.3 unit ∙ due) in
            elim (due-or-on acts between after did.2 lines_after did.5 unit due_then sender receiver) [
              | inl still_due ↦ inl still_due
              | inr later ↦ inr (ap (λ b. takes unit.tid act || b) later ∙ or-true (takes unit.tid act))
            ]
      ]
