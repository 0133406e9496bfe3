-- A unit takes one letter, and one more only where a system fell in its act before.
use Rattle.std.specs.Prelude.{is_some, filter, fold}
use Rattle.std.specs.List.{filter_map, list_all}
use Rattle.std.proofs.Common.{◌≡◌, ◌==◌, ◌&&◌, ◌||◌, ℕ, not, Bool, true, false, cond, Option, Some, None, List, [], ◌∷◌, ◌++◌, inl, inr, refl, sym, ap, subst}
use Rattle.std.proofs.Common.{◌∙◌, append-nil, append_assoc}
use Rattle.std.proofs.Math.Bool.{or-true}
use Rattle.std.proofs.lemmas.Bool.{and_from, and_parts, both_ways, cases_Bool, eq-eqb, not-true}
use Rattle.std.proofs.lemmas.List.Elements.{filter-append, filter_map-append}
use Rattle.std.proofs.lemmas.List.Folds.{list_all-append, list_any-append}
use Rattle.std.proofs.lemmas.List.Sums.{fold-append}
use Rattle.ale_volumes.specs.Disk.{Disk}
use Rattle.ale_base.specs.Tid.{TidOf, is_tid}
use Rattle.ale_base.specs.declared.mark.Mark.{Mark as Cause}
use Rattle.ale_base.specs.declared.mark.Mark.TheVariants.{Cpicerr, Sysfail}
use Rattle.ale_base.specs.declared.way.Way.TheVariants.{Outgoing}
use Rattle.unit_core.specs.declared.ale_unit.AleUnit.{AleUnit}
use Rattle.unit_core.specs.declared.records.Record.{Record}
use Rattle.unit_core.specs.declared.records.Record.TheVariants as log
use Rattle.unit_core.specs.Filters.{done_by, done_in, is_marked, mark_after, mark_of, received}
use Rattle.unit_core.specs.Queues.{heads_outbound, is_among, is_listed}
use Rattle.unit_core.proofs.TidLemmas.{is_tid-same, is_tid-true, unit_named-Some}
use Rattle.trfc_protocol.specs.declared.answer.Answer.{Answer}
use Rattle.trfc_protocol.specs.declared.answer.Answer.TheVariants as answer
use Rattle.trfc_protocol.specs.declared.event.CoreAnswer.{CoreAnswer}
use Rattle.trfc_protocol.specs.declared.event.CoreAnswer.TheVariants as core
use Rattle.trfc_protocol.specs.declared.held.Held.{Held}
use Rattle.trfc_protocol.specs.declared.held.HeldKind.TheVariants.{Direct}
use Rattle.trfc_protocol.specs.declared.world.World.{World}
use Rattle.trfc_protocol.specs.Legal.{is_empty, is_free_outbound}
use Rattle.trfc_protocol.specs.Meaning.{Meaning}
use Rattle.trfc_protocol.specs.Offered.{answer_to, is_stopped_outbound, may_move, offers_received_now}
use Rattle.trfc_protocol.specs.RecordOf.{Writing}
use Rattle.trfc_protocol.specs.Worlds.{committed_by, committed_unit, is_claimed, is_kind, is_up, log_of, offers_now}
use Rattle.trfc_protocol.proofs.LegalLemmas.{is_free-parts}
use Rattle.unit_landscape.specs.KeptWorlds.{KeptOf}
use Rattle.document_state.specs.declared.document_tables.DocumentTables.{DocumentTables}
use Rattle.document_state.specs.declared.model_rules.ModelRules.{ModelRules}
use Rattle.unit_works.specs.declared.letter.Letter.{Letter}
use Rattle.unit_works.specs.Acts.{Act, Acted, HasShipped, HaveActed, confirm, each_but_last_cut, execute, is_cut, ship, takes}
use Rattle.unit_works.specs.Claims.{NoneRuns}
use Rattle.unit_works.specs.Drained.{IsSettled, TakesOnce, is_round}
use Rattle.unit_works.specs.Events.{is_answered_under, is_confirmed_under, is_works_record}
use Rattle.unit_works.specs.Trips.{HaveGrown, back_of, closing, confirmation, execution, fells, forgot, is_done, learnt_under, noted_of, one_at, records_at}
use Rattle.unit_works.specs.Trips.{shipment}
use Rattle.unit_works.specs.Worked.{HaveOnlyClaimed, Lines}
use Rattle.unit_works.specs.steps.Arriving.{delivery}
use Rattle.unit_works.proofs.LogLemmas.{EachIs, records-on}
use Rattle.unit_works.proofs.LossLemmas.{AreAppended, are-appended, are-shipped, at, each-confirmed, each-executed, each-shipped, listed-grown, may-undone, only-log}
use Rattle.unit_works.proofs.WorkedLemmas.{meaning}

-- ---- a unit that is done or marked stays so

-- a record that works append removes no mark
mark-kept : (tid : TidOf) (before : Option Cause) (next : Record) → is_works_record next ≡ true → is_some before ≡ true
    → is_some (mark_after Outgoing tid before next) ≡ true
mark-kept tid before (log.Mark other cause) works is = elim (cases_Bool (is_tid other tid)) [
  | inl same ↦ ap (λ b. is_some (cond b (Some cause) before)) same
  | inr differs ↦ ap (λ b. is_some (cond b (Some cause) before)) differs ∙ is
]
mark-kept tid before (log.Done other) works is = is
mark-kept tid before (log.Ended other) works is = is
mark-kept tid before (log.Accept unit) works is = is
mark-kept tid before (log.Execute other) works is = is
mark-kept tid before (log.Direct unit) works is = is
mark-kept tid before (log.Fail other) works is = is
mark-kept tid before (log.Forget other) works is = is
mark-kept tid before _ works is = cc

-- a record of works
abbrev pub IsOfWork : Writing → Type 0
IsOfWork it = is_works_record it.next ≡ true

marks-kept : (tid : TidOf) (system : ℕ) (added : List Writing) → EachIs IsOfWork added → (before : Option Cause) → is_some before ≡ true
    → is_some (fold (mark_after Outgoing tid) before (records_at system added)) ≡ true
marks-kept tid system [] each before is = is
marks-kept tid system (it ∷ rest) each before is = elim (cases_Bool (it.system == system)) [
  | inl here ↦ rw here (marks-kept tid system rest each.1 (mark_after Outgoing tid before it.next) (mark-kept tid before it.next each.0 is))
  | inr other ↦ rw other (marks-kept tid system rest each.1 before is)
]

module _ (before after : World ModelRules) (tid : TidOf) where
  -- so a unit that is settled stays so where works append records
  pub settled-kept : AreAppended IsOfWork before after → IsSettled before tid → IsSettled after tid
  settled-kept did is = elim is [
    | inl done ↦
        inl (listed-grown done_by tid before after did.0 did.1 tid.system
        ∙ ap (λ b. b || is_listed tid (filter_map done_by (records_at tid.system did.0))) done)
    | inr marked ↦
        inr (ap (λ l. is_some (mark_of Outgoing tid l)) (did.1 tid.system)
        ∙ ap is_some (fold-append (mark_after Outgoing tid) None (log_of before tid.system) (records_at tid.system did.0))
        ∙ marks-kept tid tid.system did.0 did.2 (mark_of Outgoing tid (log_of before tid.system)) marked)
  ]

  -- what a log has behind others and before others
  module _ (xs ys : List Writing) (next : Record) (grew : HaveGrown before after (xs ++ at tid.system next ∷ ys)) where
    behind : records_at tid.system (xs ++ at tid.system next ∷ ys) ≡ records_at tid.system xs ++ next ∷ records_at tid.system ys
    behind =
        records-on tid.system xs (at tid.system next ∷ ys)
        ∙ rw (eq-eqb tid.system tid.system refl) refl

    -- a unit that is noted done is done
    done-settles : done_by next ≡ Some tid → is_listed tid (done_in (log_of after tid.system)) ≡ true
    done-settles names =
        listed-grown done_by tid before after (xs ++ at tid.system next ∷ ys) grew tid.system
        ∙ ap (λ b. is_listed tid (done_in (log_of before tid.system)) || b)
        (ap (λ l. is_listed tid (filter_map done_by l)) behind
        ∙ ap (is_listed tid) (filter_map-append done_by (records_at tid.system xs) (next ∷ records_at tid.system ys))
        ∙ list_any-append (λ other. is_tid other tid) (filter_map done_by (records_at tid.system xs)) (filter_map done_by (next ∷ records_at tid.system ys))
        ∙ ap (λ b. is_listed tid (filter_map done_by (records_at tid.system xs)) || b) here
        ∙ or-true (is_listed tid (filter_map done_by (records_at tid.system xs))))
        ∙ or-true (is_listed tid (done_in (log_of before tid.system)))
      where
        here : is_listed tid (filter_map done_by (next ∷ records_at tid.system ys)) ≡ true
        here = rw names (ap (λ b. b || is_listed tid (filter_map done_by (records_at tid.system ys))) (is_tid-same tid))

    -- one that is marked is marked
    mark-settles : (cause : Cause) → next ≡ log.Mark tid cause → EachIs IsOfWork ys → is_marked Outgoing tid (log_of after tid.system) ≡ true
    mark-settles cause names each =
        let first = fold (mark_after Outgoing tid) (mark_of Outgoing tid (log_of before tid.system)) (records_at tid.system xs) in
        ap (λ l. is_some (mark_of Outgoing tid l)) (grew tid.system ∙ ap (λ l. log_of before tid.system ++ l) behind)
        ∙ ap is_some (fold-append (mark_after Outgoing tid) None (log_of before tid.system) (records_at tid.system xs ++ next ∷ records_at tid.system ys)
        ∙ fold-append (mark_after Outgoing tid) (mark_of Outgoing tid (log_of before tid.system)) (records_at tid.system xs)
        (next ∷ records_at tid.system ys))
        ∙ marks-kept tid tid.system ys each (mark_after Outgoing tid first next)
        (ap (λ (r : Record). is_some (mark_after Outgoing tid first r)) names ∙ ap (λ b. is_some (cond b (Some cause) first)) (is_tid-same tid))

-- ---- a unit that is shipped wholly is done or marked

answered-busy : (up among claimed empty offers : Bool)
    → cond (not up) answer.Down (cond among answer.Known (cond claimed answer.Busy (cond empty (cond offers answer.Run answer.SysFail) answer.New))) ≡
    answer.Busy
    → claimed ≡ true
answered-busy false among claimed empty offers is = cc
answered-busy true true claimed empty offers is = cc
answered-busy true false true empty offers is = refl
answered-busy true false false true true is = cc
answered-busy true false false true false is = cc
answered-busy true false false false offers is = cc

-- where there are no claims no receiver is busy
-- where no claim to run a unit stands, none is claimed to be run
none-run : (tid : TidOf) (claims : List Held) → NoneRuns claims → is_claimed Direct tid claims ≡ false
none-run tid [] none = refl
none-run tid (held ∷ claims) none =
    let parts = and_parts (not (is_kind held.kind Direct)) (list_all (λ (h : Held). not (is_kind h.kind Direct)) claims) none in
    let off : is_kind held.kind Direct ≡ false = not-true (is_kind held.kind Direct) parts.0 in
    rw off (none-run tid claims parts.1)

never-busy : {R : Type 0} (rules : Meaning) (world : World R) (unit : AleUnit) → NoneRuns world.claims → answer_to rules world unit ≡ answer.Busy → ⊥
never-busy rules world unit none busy =
    both_ways (is_claimed Direct unit.tid world.claims) (none-run unit.tid world.claims none)
    (answered-busy (is_up world unit.receiver) (is_among unit.tid (received (log_of world unit.receiver))) (is_claimed Direct unit.tid world.claims)
    (is_empty unit.inq) (offers_now rules world unit.receiver unit.function) busy)

busy-is : (answered : Bool) (given : Answer) → cond answered (back_of given) None ≡ Some core.Busy → given ≡ answer.Busy
busy-is false given is = cc
busy-is true answer.Busy is = refl
busy-is true answer.New is = cc
busy-is true answer.Run is = cc
busy-is true answer.Known is = cc
busy-is true answer.SysFail is = cc
busy-is true answer.Down is = cc

-- the records of a shipment are records of works
shipment-works : (letter : Letter) (given : Answer) (unit : AleUnit) → EachIs IsOfWork (shipment letter given unit)
shipment-works letter given unit = each-shipped IsOfWork unit refl refl refl refl refl refl refl letter given

confirmation-works : (letter : Letter) (forgotten : Bool) (unit : AleUnit) → EachIs IsOfWork (confirmation letter forgotten unit)
confirmation-works letter forgotten unit = each-confirmed IsOfWork unit refl refl letter forgotten

execution-works : (offered : Bool) (system : ℕ) (tid : TidOf) → EachIs IsOfWork (execution offered system tid)
execution-works offered system tid = each-executed IsOfWork system tid refl refl offered

module _ (before after : World ModelRules) (unit : AleUnit) (letter : Letter) (given : Answer)
    (grew : HaveGrown before after (shipment letter given unit)) (unfelled : fells letter given ≡ false) where
  abbrev Closing : List Writing
  Closing = cond (is_confirmed_under letter && is_done (learnt_under letter given)) (closing unit) []

  closing-works : EachIs IsOfWork Closing
  closing-works = closing-if (is_confirmed_under letter && is_done (learnt_under letter given))
    where
      closing-if : (b : Bool) → EachIs IsOfWork (cond b (closing unit) [])
      closing-if true = (refl, (refl, tt))
      closing-if false = tt

  -- where the record of the sender is
  there : (learnt : Option CoreAnswer) (next : Record) → learnt_under letter given ≡ learnt → noted_of learnt unit.tid ≡ one_at unit.tid.system next
      → HaveGrown before after (delivery letter given unit ++ at unit.tid.system next ∷ Closing)
  there learnt next is notes =
      subst (HaveGrown before after)
      (ap (λ b. delivery letter given unit ++ cond b [] (noted_of (learnt_under letter given) unit.tid) ++ Closing) unfelled
      ∙ ap (λ l. delivery letter given unit ++ noted_of l unit.tid ++ Closing) is
      ∙ ap (λ xs. delivery letter given unit ++ xs ++ Closing) notes
      ∙ append_assoc (delivery letter given unit) (one_at unit.tid.system next) Closing) grew

  noted-settles : (learnt : Option CoreAnswer) → learnt_under letter given ≡ learnt → (learnt ≡ Some core.Busy → ⊥) → IsSettled after unit.tid
  noted-settles (Some core.Busy) is other = absurd (other refl)
  noted-settles (Some core.Done) is other = inl (done-settles before after unit.tid (delivery letter given unit) Closing (log.Done unit.tid)
      (there (Some core.Done) (log.Done unit.tid) is refl) refl)
  noted-settles (Some core.SysFail) is other =
      inr (mark-settles before after unit.tid (delivery letter given unit) Closing (log.Mark unit.tid Sysfail)
      (there (Some core.SysFail) (log.Mark unit.tid Sysfail) is refl) Sysfail refl closing-works)
  noted-settles None is other =
      inr (mark-settles before after unit.tid (delivery letter given unit) Closing (log.Mark unit.tid Cpicerr)
      (there None (log.Mark unit.tid Cpicerr) is refl) Cpicerr refl closing-works)

module _ {V : Type 0} (disk : Disk V) where
  module _ (before after : KeptOf ModelRules DocumentTables V) (lines lines_after : Lines) where
    shipped-settles : (tid : TidOf) (letter : Letter) → HasShipped disk before after lines lines_after tid letter true → NoneRuns before.world.claims
        → IsSettled after.world tid
    shipped-settles tid letter did none =
        let was = did.was in
        let unit : AleUnit = was.unit in
        let its : unit.tid ≡ tid = (unit_named-Some tid (committed_by (meaning before.world.rules) before.world tid.system) unit was.committed).1 in
        let given = answer_to (meaning before.world.rules) before.world unit in
        let did_so = was.grew in
        let grew = did_so.0 in
        subst (IsSettled after.world) its
        (noted-settles before.world after.world unit letter given grew.grew did_so.1 (learnt_under letter given) refl
        (λ busy. never-busy (meaning before.world.rules) before.world unit none (busy-is (is_answered_under letter) given busy)))

    -- an act appends records of works
    pub acted-appended : (act : Act) → Acted disk before lines act after lines_after → AreAppended IsOfWork before.world after.world
    acted-appended (ship tid letter whole) did =
        let was = did.was in
        let given = answer_to (meaning before.world.rules) before.world was.unit in
        are-shipped IsOfWork before after letter given was.unit whole was.grew (shipment-works letter given was.unit)
    acted-appended (execute system tid whole) did =
        let executed = did.0 in
        let offered = offers_received_now (meaning before.world.rules) before.world system tid in
        are-appended IsOfWork before after (execution offered system tid) whole executed.grew (execution-works offered system tid)
    acted-appended (confirm tid letter whole) did =
        are-appended IsOfWork before after (confirmation letter (forgot before.world did.unit) did.unit) whole did.grew
        (confirmation-works letter (forgot before.world did.unit) did.unit)

    -- a unit that is settled is not shipped
    settled-not : (tid : TidOf) (letter : Letter) (whole : Bool) → HasShipped disk before after lines lines_after tid letter whole
        → IsSettled before.world tid → ⊥
    settled-not tid letter whole did is =
        let was = did.was in
        let unit : AleUnit = was.unit in
        let rules : Meaning = meaning before.world.rules in
        let l = log_of before.world tid.system in
        let its : unit.tid ≡ tid = (unit_named-Some tid (committed_by rules before.world tid.system) unit was.committed).1 in
        let up = is_up before.world tid.system in
        let free = is_free_outbound (committed_by rules before.world tid.system) l tid in
        let moves = may_move (is_stopped_outbound l) (committed_unit rules before.world tid) in
        let parts = is_free-parts (done_in l) (is_marked Outgoing tid l) (heads_outbound (done_in l) (committed_by rules before.world tid.system))
        (committed_unit rules before.world tid) (and_parts up free (and_parts (up && free) moves did.may).0).1 in
        elim is [
          | inl done ↦
              both_ways (is_listed tid (done_in l))
              (subst (λ t. is_listed t (done_in l) ≡ false) its (may-undone rules before.world tid unit was.committed did.may)) done
          | inr marked ↦ both_ways (is_marked Outgoing tid l) parts.3 marked
        ]

  -- claims that are made or given up leave a unit settled
  only-settled : (before after : KeptOf ModelRules DocumentTables V) → HaveOnlyClaimed before after → (tid : TidOf) → IsSettled before.world tid
      → IsSettled after.world tid
  only-settled before after only tid is = elim is [
    | inl done ↦ inl (ap (λ l. is_listed tid (done_in l)) (only-log before after only tid.system) ∙ done)
    | inr marked ↦ inr (ap (is_marked Outgoing tid) (only-log before after only tid.system) ∙ marked)
  ]

  pub all-settled : (acts : List Act) (before after : KeptOf ModelRules DocumentTables V) (lines lines_after : Lines)
      → HaveActed disk before lines acts after lines_after → (tid : TidOf) → IsSettled before.world tid → IsSettled after.world tid
  all-settled [] before after lines lines_after did tid is = only-settled before after did.0 tid is
  all-settled (act ∷ acts) before after lines lines_after did tid is =
      all-settled acts did.1 after did.2 lines_after did.5 tid
      (settled-kept did.0.world did.1.world tid (acted-appended did.0 did.1 lines did.2 act did.4) (only-settled before did.0 did.3 tid is))

  -- what is done stays done
  pub all-done : (acts : List Act) (before after : KeptOf ModelRules DocumentTables V) (lines lines_after : Lines)
      → HaveActed disk before lines acts after lines_after → (tid : TidOf) → is_listed tid (done_in (log_of before.world tid.system)) ≡ true
      → is_listed tid (done_in (log_of after.world tid.system)) ≡ true
  all-done [] before after lines lines_after did tid done = ap (λ l. is_listed tid (done_in l)) (only-log before after did.0 tid.system) ∙ done
  all-done (act ∷ acts) before after lines lines_after did tid done =
      let appended = acted-appended did.0 did.1 lines did.2 act did.4 in
      all-done acts did.1 after did.2 lines_after did.5 tid
      (listed-grown done_by tid did.0.world did.1.world appended.0 appended.1 tid.system
      ∙ ap (λ b. b || is_listed tid (filter_map done_by (records_at tid.system appended.0)))
      (ap (λ l. is_listed tid (done_in l)) (only-log before did.0 did.3 tid.system) ∙ done))

  -- a unit that is settled takes no letter in a round
  pub none-taken : (acts : List Act) (before after : KeptOf ModelRules DocumentTables V) (lines lines_after : Lines)
      → HaveActed disk before lines acts after lines_after → list_all is_round acts ≡ true → (tid : TidOf) → IsSettled before.world tid
      → filter (takes tid) acts ≡ []
  none-taken [] before after lines lines_after did rounds tid is = refl
  none-taken (ship other letter whole ∷ acts) before after lines lines_after did rounds tid is =
      let start : KeptOf ModelRules DocumentTables V = did.0 in
      let between : KeptOf ModelRules DocumentTables V = did.1 in
      let settled = only-settled before start did.3 tid is in
      let later = settled-kept start.world between.world tid (acted-appended start between lines did.2 (ship other letter whole) did.4) settled in
      elim (cases_Bool (is_tid other tid)) [
        | inl same ↦
            absurd (settled-not start between lines did.2 other letter whole did.4
            (subst (IsSettled start.world) (sym (is_tid-true other tid same)) settled))
        | inr differs ↦ rw differs (none-taken acts between after did.2 lines_after did.5 rounds tid later)
      ]
  none-taken (execute system other whole ∷ acts) before after lines lines_after did rounds tid is =
      let start : KeptOf ModelRules DocumentTables V = did.0 in
      let between : KeptOf ModelRules DocumentTables V = did.1 in
      none-taken acts between after did.2 lines_after did.5 rounds tid
      (settled-kept start.world between.world tid (acted-appended start between lines did.2 (execute system other whole) did.4)
      (only-settled before start did.3 tid is))
  none-taken (confirm other letter whole ∷ acts) before after lines lines_after did rounds tid is = cc

-- ---- each but the last was cut

cut-more : (act : Act) (more : List Act) → is_cut act ≡ true → each_but_last_cut more ≡ true → each_but_last_cut (act ∷ more) ≡ true
cut-more act [] cut each = refl
cut-more act (next ∷ more) cut each = and_from (is_cut act) (each_but_last_cut (next ∷ more)) cut each

cut-all : (xs ys : List Act) → list_all is_cut xs ≡ true → each_but_last_cut ys ≡ true → each_but_last_cut (xs ++ ys) ≡ true
cut-all [] ys cut each = each
cut-all (x ∷ xs) ys cut each =
    let parts = and_parts (is_cut x) (list_all is_cut xs) cut in cut-more x (xs ++ ys) parts.0 (cut-all xs ys parts.1 each)

module _ {V : Type 0} (disk : Disk V) where
  -- a unit that was shipped took one letter
  pub once-shipped : (before after : KeptOf ModelRules DocumentTables V) (lines lines_after : Lines) (tid : TidOf) (letter : Letter) (whole : Bool)
      → HasShipped disk before after lines lines_after tid letter whole → NoneRuns before.world.claims → (other : TidOf)
      → TakesOnce disk before lines after lines_after (ship tid letter whole ∷ []) other
  once-shipped before after lines lines_after tid letter false did none other = elim (cases_Bool (is_tid tid other)) [
    | inl same ↦ inl (rw same refl)
    | inr differs ↦ inl (rw differs refl)
  ]
  once-shipped before after lines lines_after tid letter true did none other = elim (cases_Bool (is_tid tid other)) [
    | inl same ↦
        inr (
          rw same refl,
          subst (IsSettled after.world) (is_tid-true tid other same)
              (shipped-settles disk before after lines lines_after tid letter did none),
        )
    | inr differs ↦ inl (rw differs refl)
  ]

  -- acts, and then rounds
  pub once-on : (acts more : List Act) (before between after : KeptOf ModelRules DocumentTables V) (lines lines_between lines_after : Lines)
      → HaveActed disk between lines_between more after lines_after → list_all is_round more ≡ true → (tid : TidOf)
      → TakesOnce disk before lines between lines_between acts tid → TakesOnce disk between lines_between after lines_after more tid
      → TakesOnce disk before lines after lines_after (acts ++ more) tid
  once-on acts more before between after lines lines_between lines_after did rounds tid first second =
      let both = filter-append (takes tid) acts more in
      elim first [
        | inl cut ↦ elim second [
          | inl cut_too ↦
              inl (ap (list_all is_cut) both ∙ list_all-append is_cut (filter (takes tid) acts) (filter (takes tid) more)
              ∙ and_from (list_all is_cut (filter (takes tid) acts)) (list_all is_cut (filter (takes tid) more)) cut cut_too)
          | inr once ↦ inr (ap each_but_last_cut both ∙ cut-all (filter (takes tid) acts) (filter (takes tid) more) cut once.0, once.1)
        ]
        | inr once ↦
            let none = none-taken disk more between after lines_between lines_after did rounds tid once.1 in
            inr (
              ap each_but_last_cut (both ∙ ap (λ l. filter (takes tid) acts ++ l) none ∙ append-nil (filter (takes tid) acts)) ∙ once.0,
              all-settled disk more between after lines_between lines_after did tid once.1,
            )
      ]
