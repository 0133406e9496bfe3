-- Where nothing holds units up before acts, nothing does behind them: no act stops a queue, and none marks a unit where all comes and all is offered.
use Rattle.std.specs.Prelude.{Contains, fold, is_some}
use Rattle.std.specs.List.{list_all, list_any}
use Rattle.std.specs.Option.{option_map_or}
use Rattle.std.proofs.Common.{◌≡◌, ◌&&◌, ℕ, not, Bool, true, false, cond, Option, Some, None, List, [], ◌∷◌, ◌++◌, inl, inr, refl, sym, ap, subst, ◌∙◌}
use Rattle.std.proofs.Common.{append-nil, append_assoc}
use Rattle.std.proofs.lemmas.Bool.{and_parts, both_ways, cases_Bool, or_from}
use Rattle.std.proofs.lemmas.List.Elements.{Contains-append_left, filter_map-append}
use Rattle.std.proofs.lemmas.List.Sums.{fold-append}
use Rattle.ale_volumes.specs.Disk.{Disk}
use Rattle.ale_base.specs.Tid.{TidOf, is_tid}
use Rattle.ale_base.specs.declared.mark.Mark.{Mark as Cause}
use Rattle.ale_base.specs.declared.way.Way.{Way}
use Rattle.ale_base.specs.declared.way.Way.TheVariants.{Outgoing, Incoming}
use Rattle.dist_model.specs.declared.lists.Lists.{Lists}
use Rattle.inbound_post.specs.Prepared.{offers}
use Rattle.said_models.proofs.OfLogLemmas.{model_of-stay}
use Rattle.unit_core.specs.declared.ale_unit.AleUnit.{AleUnit}
use Rattle.unit_core.specs.declared.records.Record.{Record}
use Rattle.unit_core.specs.declared.records.Record.TheVariants as log
use Rattle.unit_core.specs.Filters.{executed, is_marked, is_queue, is_stopped, mark_after, mark_of, received, stopped_after, taken_by}
use Rattle.unit_core.specs.Queues.{heads_inbound, is_among, unit_named}
use Rattle.unit_core.proofs.TidLemmas.{unit_named-Some}
use Rattle.trfc_protocol.specs.declared.answer.Answer.{Answer}
use Rattle.trfc_protocol.specs.declared.answer.Answer.TheVariants as answer
use Rattle.trfc_protocol.specs.declared.held.HeldKind.TheVariants.{Direct}
use Rattle.trfc_protocol.specs.declared.world.World.{World}
use Rattle.trfc_protocol.specs.Legal.{is_empty, is_free_inbound, offers_that_of}
use Rattle.trfc_protocol.specs.Offered.{answer_to, is_stopped_inbound, may_move, offers_received_now}
use Rattle.trfc_protocol.specs.RecordOf.{Writing}
use Rattle.trfc_protocol.specs.Worlds.{committed_unit, is_claimed, is_up, log_of, offers_now}
use Rattle.trfc_protocol.proofs.LegalLemmas.{is_free-parts}
use Rattle.trfc_protocol.proofs.SafeLemmas.{committed_unit-is, received-is}
use Rattle.unit_landscape.specs.KeptWorlds.{KeptOf}
use Rattle.unit_landscape.specs.Kept.{IsLandscape}
use Rattle.document_state.specs.declared.document_tables.DocumentTables.{DocumentTables}
use Rattle.document_state.specs.declared.model_rules.ModelRules.{ModelRules}
use Rattle.document_state.specs.Meaning.{offered}
use Rattle.unit_works.specs.declared.letter.Letter.{Letter}
use Rattle.unit_works.specs.declared.letter.Letter.TheVariants.{Whole}
use Rattle.unit_works.specs.Wires.{letters_left, next_letter, rest_letters}
use Rattle.unit_works.specs.Acts.{Act, Acted, HaveActed, confirm, execute, loses, ship}
use Rattle.unit_works.specs.Events.{is_works_record}
use Rattle.unit_works.specs.Through.{AreOffered, AreUp, IsClear, NoneLeft}
use Rattle.unit_works.specs.Trips.{AppendedAs, HaveGrown, ShippedSo, Wholly, confirmation, execution, forgot, records_at, shipment}
use Rattle.unit_works.specs.Went.{HaveWorksBehind}
use Rattle.unit_works.specs.Worked.{HasTaken, HaveOnlyClaimed, Lines}
use Rattle.unit_works.proofs.LogLemmas.{EachIs, all-at, fold-all, offers-log, works-on, works-same}
use Rattle.unit_works.proofs.LossLemmas.{acted-up, acted-went, all-up, each-confirmed, only-committed, only-log, only-up}
use Rattle.unit_works.proofs.PreparedLemmas.{no-text}
use Rattle.unit_works.proofs.WorkedLemmas.{is_lawful, meaning}

-- ---- records that hold nothing up

-- a record stops no queue and marks no unit
abbrev pub is_harmless : Record → Bool
is_harmless (log.Mark tid cause) = false
is_harmless (log.Fail tid) = false
is_harmless (log.Stop way destination name) = false
is_harmless _ = true

abbrev pub HoldsNothing : Writing → Type 0
HoldsNothing it = is_harmless it.next ≡ true

-- behind it a queue that was not stopped is not
started-on : (way : Way) (destination : ℕ) (name : List ℕ) (next : Record) → is_harmless next ≡ true → stopped_after way destination name false next ≡ false
started-on way destination name (log.Start w d n) is = elim (cases_Bool (is_queue way destination name w d n)) [
  | inl same ↦ ap (λ b. cond b false false) same
  | inr differs ↦ ap (λ b. cond b false false) differs
]
started-on way destination name (log.Stop w d n) is = cc
started-on way destination name _ is = refl

none-cond : (b : Bool) → ◌≡◌ {A = Option Cause} (cond b None None) None
none-cond true = refl
none-cond false = refl

-- and a unit that was not marked is not
unmarked-on : (way : Way) (tid : TidOf) (next : Record) → is_harmless next ≡ true → mark_after way tid None next ≡ None
unmarked-on way tid (log.Mark other cause) is = cc
unmarked-on way tid (log.Fail other) is = cc
unmarked-on way tid (log.Stop w d n) is = cc
unmarked-on Outgoing tid (log.Retry Outgoing other) is = none-cond (is_tid other tid)
unmarked-on Incoming tid (log.Retry Incoming other) is = none-cond (is_tid other tid)
unmarked-on Outgoing tid (log.Retry Incoming other) is = refl
unmarked-on Incoming tid (log.Retry Outgoing other) is = refl
unmarked-on Outgoing tid _ is = refl
unmarked-on Incoming tid _ is = refl

-- a unit that is not marked has no mark
pub no-mark : (mark : Option Cause) → is_some mark ≡ false → mark ≡ None
no-mark None is = refl
no-mark (Some cause) is = cc

-- so a world is clear behind records that hold nothing up
pub clear-behind : {R : Type 0} (before after : World R) → IsClear before
    → ((system : ℕ) → (added : List Record) × (log_of after system ≡ log_of before system ++ added) × (list_all is_harmless added ≡ true)) → IsClear after
clear-behind before after clear grew = record {
  started = λ system way destination name.
      let more = grew system in
      ap (is_stopped way destination name) more.1
      ∙ fold-append (stopped_after way destination name) false (log_of before system) more.0
      ∙ ap (λ b. fold (stopped_after way destination name) b more.0) (clear.started system way destination name)
      ∙ fold-all (stopped_after way destination name) false is_harmless (started-on way destination name) more.0 more.2;
  unmarked = λ system way tid.
      let more = grew system in
      ap (is_marked way tid) more.1
      ∙ ap is_some (fold-append (mark_after way tid) None (log_of before system) more.0
      ∙ ap (λ mark. fold (mark_after way tid) mark more.0) (no-mark (mark_of way tid (log_of before system)) (clear.unmarked system way tid))
      ∙ fold-all (mark_after way tid) None is_harmless (unmarked-on way tid) more.0 more.2);
}

pub clear-grown : {R : Type 0} (before after : World R) (added : List Writing) → HaveGrown before after added → EachIs HoldsNothing added → IsClear before
    → IsClear after
clear-grown before after added grew each clear =
    clear-behind before after clear (λ system. (records_at system added, grew system, all-at is_harmless system added each))

-- ---- a shipment of a unit that its receiver takes

answered-well : (up among claimed empty offers : Bool) → up ≡ true → offers ≡ true
    → (cond (not up) answer.Down (cond among answer.Known (cond claimed answer.Busy (cond empty (cond offers answer.Run answer.SysFail) answer.New)))
    ≡ answer.Down → ⊥)
    × (cond (not up) answer.Down (cond among answer.Known (cond claimed answer.Busy (cond empty (cond offers answer.Run answer.SysFail) answer.New)))
    ≡ answer.SysFail → ⊥)
answered-well false among claimed empty offers up offers_is = cc
answered-well true true claimed empty offers up offers_is = (λ is. cc, λ is. cc)
answered-well true false true empty offers up offers_is = (λ is. cc, λ is. cc)
answered-well true false false true true up offers_is = (λ is. cc, λ is. cc)
answered-well true false false true false up offers_is = cc
answered-well true false false false offers up offers_is = (λ is. cc, λ is. cc)

shipment-harmless : (given : Answer) (unit : AleUnit) → (given ≡ answer.Down → ⊥) → (given ≡ answer.SysFail → ⊥) →
    EachIs HoldsNothing (shipment Whole given unit)
shipment-harmless answer.New unit up offers = (refl, (refl, (refl, (refl, tt))))
shipment-harmless answer.Run unit up offers = (refl, (refl, (refl, (refl, tt))))
shipment-harmless answer.Known unit up offers = (refl, (refl, (refl, tt)))
shipment-harmless answer.Busy unit up offers = tt
shipment-harmless answer.SysFail unit up offers = absurd (offers refl)
shipment-harmless answer.Down unit up offers = absurd (up refl)

execution-harmless : (offers : Bool) (system : ℕ) (tid : TidOf) → offers ≡ true → EachIs HoldsNothing (execution offers system tid)
execution-harmless true system tid is = (refl, tt)
execution-harmless false system tid is = cc

-- ---- what is offered stays

offered-last : (system : ℕ) (records added : List Record) (function : List ℕ) → list_all is_works_record added ≡ true
    → offered system (records ++ added) function ≡ offered system records function
offered-last system records [] function works = ap (λ l. offered system l function) (append-nil records)
offered-last system records (next ∷ added) function works =
    let parts = and_parts (is_works_record next) (list_all is_works_record added) works in
    ap (λ l. offered system l function) (sym (append_assoc records (next ∷ []) added))
    ∙ offered-last system (records ++ next ∷ []) added function parts.1
    ∙ ap (λ (found : Option Lists). option_map_or (λ (model : Lists). offers model system function) found false)
    (model_of-stay records next (no-text next parts.0))

-- ---- acts, behind the last of which all systems are up

-- a letter was taken where none is left: none is
left-none : (tid : TidOf) (lines after : Lines) → NoneLeft lines → HasTaken tid lines after → NoneLeft after
left-none tid lines after none takes other = elim (cases_Bool (is_tid tid other)) [
  | inl same ↦
      takes other ∙ ap (λ b. cond b (rest_letters (letters_left lines tid)) (letters_left lines other)) same ∙ ap rest_letters (none tid)
  | inr differs ↦ takes other ∙ ap (λ b. cond b (rest_letters (letters_left lines tid)) (letters_left lines other)) differs ∙ none other
]

module _ {V : Type 0} (disk : Disk V) where
  only-works : (before after : KeptOf ModelRules DocumentTables V) → HaveOnlyClaimed before after → HaveWorksBehind before.world after.world
  only-works before after only = works-same before.world after.world (only-log before after only)

  acted-works : (before after : KeptOf ModelRules DocumentTables V) (lines lines_after : Lines) (act : Act) → Acted disk before lines act after lines_after
      → HaveWorksBehind before.world after.world
  acted-works before after lines lines_after act did = let went = acted-went disk before after lines lines_after act did in went.logs

  all-works : (acts : List Act) (before after : KeptOf ModelRules DocumentTables V) (lines lines_after : Lines)
      → HaveActed disk before lines acts after lines_after → HaveWorksBehind before.world after.world
  all-works [] before after lines lines_after did = only-works before after did.0
  all-works (act ∷ acts) before after lines lines_after did =
      works-on before.world (did.0).world after.world (only-works before did.0 did.3)
      (works-on (did.0).world (did.1).world after.world
      (acted-works did.0 did.1 lines did.2 act did.4)
      (all-works acts did.1 after did.2 lines_after did.5))

  -- the units that are committed stay
  pub acted-same : (before after : KeptOf ModelRules DocumentTables V) (lines lines_after : Lines) (act : Act) → Acted disk before lines act after lines_after
      → (tid : TidOf) → committed_unit (meaning after.world.rules) after.world tid ≡ committed_unit (meaning before.world.rules) before.world tid
  acted-same before after lines lines_after act did = let went = acted-went disk before after lines lines_after act did in went.committed

  pub all-same : (acts : List Act) (before after : KeptOf ModelRules DocumentTables V) (lines lines_after : Lines)
      → HaveActed disk before lines acts after lines_after → (tid : TidOf)
      → committed_unit (meaning after.world.rules) after.world tid ≡ committed_unit (meaning before.world.rules) before.world tid
  all-same [] before after lines lines_after did tid = only-committed before after did.0 tid
  all-same (act ∷ acts) before after lines lines_after did tid =
      all-same acts did.1 after did.2 lines_after did.5 tid
      ∙ acted-same did.0 did.1 lines did.2 act did.4 tid
      ∙ only-committed before did.0 did.3 tid

  -- claims that are made or given up hold nothing up
  only-clear : (before after : KeptOf ModelRules DocumentTables V) → HaveOnlyClaimed before after → IsClear before.world → IsClear after.world
  only-clear before after only clear = clear-grown before.world after.world []
      (λ system. only-log before after only system ∙ sym (append-nil (log_of before.world system))) tt clear

  module _ (last : KeptOf ModelRules DocumentTables V) (is : IsLandscape meaning last.world) (ups : AreUp last.world) (offers_all : AreOffered last.world) where
    -- what is so of a moment from which acts lead to the last
    record Leads (now : World ModelRules) : Type 0 where
      behind : HaveWorksBehind now last.world
      same : (tid : TidOf) → committed_unit (meaning last.world.rules) last.world tid ≡ committed_unit (meaning now.rules) now tid
      back : (system : ℕ) → is_up last.world system ≡ true → is_up now system ≡ true

    module _ (now : World ModelRules) (leads : Leads now) where
      -- a unit that was committed has a receiver that is up and offers its function
      offered-then : (tid : TidOf) (unit : AleUnit) → committed_unit (meaning now.rules) now tid ≡ Some unit
          → (is_up now unit.receiver ≡ true) × (offers_now (meaning now.rules) now unit.receiver unit.function ≡ true)
      offered-then tid unit named =
          let rules = meaning last.world.rules in
          let named_last : committed_unit rules last.world tid ≡ Some unit = leads.same tid ∙ named in
          let sent = committed_unit-is rules (is_lawful last.world.rules) last.world is.safe tid unit named_last in
          let up_last = ups unit.receiver sent.3 sent.4 in
          let up = leads.back unit.receiver up_last in
          let more = leads.behind unit.receiver in (
            up,
            offers-log (meaning now.rules) now unit.receiver unit.function up
                ∙ sym (offered-last unit.receiver (log_of now unit.receiver) more.0 unit.function more.2)
                ∙ ap (λ l. offered unit.receiver l unit.function) (sym more.1)
                ∙ sym (offers-log rules last.world unit.receiver unit.function up_last)
                ∙ offers_all tid unit named_last,
          )

      -- its arrival is taken
      arrives-well : (tid : TidOf) (unit : AleUnit) → committed_unit (meaning now.rules) now tid ≡ Some unit
          → EachIs HoldsNothing (shipment Whole (answer_to (meaning now.rules) now unit) unit)
      arrives-well tid unit named =
          let well = offered-then tid unit named in
          let answers = answered-well (is_up now unit.receiver) (is_among unit.tid (received (log_of now unit.receiver)))
          (is_claimed Direct unit.tid now.claims) (is_empty unit.inq) (offers_now (meaning now.rules) now unit.receiver unit.function) well.0 well.1 in
          shipment-harmless (answer_to (meaning now.rules) now unit) unit answers.0 answers.1

      -- a unit that may be executed is
      executes-well : (system : ℕ) (tid : TidOf) → is_free_inbound (log_of now system) tid ≡ true
          → offers_received_now (meaning now.rules) now system tid ≡ true
      executes-well system tid free =
          let rules = meaning last.world.rules in
          let records = log_of now system in
          let parts = is_free-parts (executed records) (is_marked Incoming tid records) (heads_inbound (executed records) (received records))
          (unit_named tid (received records)) free in
          let unit : AleUnit = parts.0 in
          let found = unit_named-Some tid (received records) unit parts.1 in
          let more = leads.behind system in
          let there : Contains (received (log_of last.world system)) unit =
          subst (λ l. Contains (received l) unit) (sym more.1)
          (subst (λ units. Contains units unit) (sym (filter_map-append taken_by records more.0))
          (Contains-append_left (received records) (received more.0) unit found.0)) in
          let got = received-is rules (is_lawful last.world.rules) last.world is.safe system unit there in
          let well = offered-then unit.tid unit (sym (leads.same unit.tid) ∙ got.1) in
          ap (offers_that_of (offers_now (meaning now.rules) now system)) parts.1
          ∙ subst (λ s. offers_now (meaning now.rules) now s unit.function ≡ true) got.0 well.1

    -- an act by which nothing falls is whole
    acted-whole : {R A T : Type 0} (now after : KeptOf R A T) (added : List Writing) (whole : Bool) → AppendedAs now after added whole
        → ((system : ℕ) → is_up now.world system ≡ true → is_up after.world system ≡ true) → Wholly now.world after.world added
    acted-whole now after added true did stay = did
    acted-whole now after added false did stay =
        let cut = did.4 in
        let next : Writing = did.2 in
        absurd (both_ways (is_up after.world next.system) cut.fell (stay next.system cut.up))

    -- so is a shipment
    shipped-whole : {R A T : Type 0} (now after : KeptOf R A T) (letter : Letter) (given : Answer) (unit : AleUnit) (whole : Bool)
        → ShippedSo now after letter given unit whole → ((system : ℕ) → is_up now.world system ≡ true → is_up after.world system ≡ true)
        → Wholly now.world after.world (shipment letter given unit)
    shipped-whole now after letter given unit true did stay = did.0
    shipped-whole now after letter given unit false did stay = elim did [
      | inl cut ↦ acted-whole now after (shipment letter given unit) false cut stay
      | inr felled ↦
          let fell = felled.1 in absurd (both_ways (is_up after.world unit.receiver) fell.fell (stay unit.receiver fell.up))
    ]

    -- an act holds nothing up, takes no letter but one under which all comes, and loses no confirmation
    record Went (now after : KeptOf ModelRules DocumentTables V) (lines_after : Lines) (act : Act) : Type 0 where
      clear : IsClear after.world
      none : NoneLeft lines_after
      lost : (tid : TidOf) → loses tid act ≡ false

    module _ (now after : KeptOf ModelRules DocumentTables V) (lines lines_after : Lines) (leads : Leads now.world) (clear : IsClear now.world)
        (none : NoneLeft lines) (stay : (system : ℕ) → is_up now.world system ≡ true → is_up after.world system ≡ true) where
      acted-clear : (act : Act) → Acted disk now lines act after lines_after → Went now after lines_after act
      acted-clear (ship tid letter whole) did =
          let was = did.was in
          let unit : AleUnit = was.unit in
          let given = answer_to (meaning now.world.rules) now.world unit in
          let comes : letter ≡ Whole = was.next ∙ ap next_letter (none tid) in
          let grew = shipped-whole now after letter given unit whole was.grew stay in
          record {
            clear = clear-grown now.world after.world (shipment letter given unit) grew.grew
                (subst (λ l. EachIs HoldsNothing (shipment l given unit)) (sym comes) (arrives-well now.world leads tid unit was.committed)) clear;
            none = left-none tid lines lines_after none was.taken;
            lost = λ other. ap (λ l. loses other (ship tid l whole)) comes;
          }
      acted-clear (execute system tid whole) did =
          let executed_so = did.0 in
          let offers_it = offers_received_now (meaning now.world.rules) now.world system tid in
          let up = is_up now.world system in
          let free = is_free_inbound (log_of now.world system) tid in
          let moves = may_move (is_stopped_inbound (log_of now.world system)) (unit_named tid (received (log_of now.world system))) in
          let is_free = (and_parts up free (and_parts (up && free) moves executed_so.may).0).1 in
          let grew = acted-whole now after (execution offers_it system tid) whole executed_so.grew stay in
          record {
            clear = clear-grown now.world after.world (execution offers_it system tid) grew.grew
                (execution-harmless offers_it system tid (executes-well now.world leads system tid is_free)) clear;
            none = subst NoneLeft (sym did.1) none;
            lost = λ other. refl;
          }
      acted-clear (confirm tid letter whole) did =
          let unit : AleUnit = did.unit in
          let comes : letter ≡ Whole = did.next ∙ ap next_letter (none tid) in
          let forgotten = forgot now.world unit in
          let grew = acted-whole now after (confirmation letter forgotten unit) whole did.grew stay in
          record {
            clear = clear-grown now.world after.world (confirmation letter forgotten unit) grew.grew
                (each-confirmed HoldsNothing unit refl refl letter forgotten) clear;
            none = left-none tid lines lines_after none did.taken;
            lost = λ other. ap (λ l. loses other (confirm tid l whole)) comes;
          }

    -- so do lists of acts
    pub acts-clear : (acts : List Act) (now : KeptOf ModelRules DocumentTables V) (lines lines_last : Lines)
        → HaveActed disk now lines acts last lines_last → IsClear now.world → NoneLeft lines
        → ((system : ℕ) → is_up now.world system ≡ true → is_up last.world system ≡ true)
        → IsClear last.world × NoneLeft lines_last × ((tid : TidOf) → list_any (loses tid) acts ≡ false)
    acts-clear [] now lines lines_last did clear none stay = (only-clear now last did.0 clear, subst NoneLeft (sym did.1) none, λ tid. refl)
    acts-clear (act ∷ acts) now lines lines_last did clear none stay =
        let start : KeptOf ModelRules DocumentTables V = did.0 in
        let between : KeptOf ModelRules DocumentTables V = did.1 in
        let back = all-up disk acts between last did.2 lines_last did.5 in
        let stay_start : (system : ℕ) → is_up start.world system ≡ true → is_up last.world system ≡ true =
        λ system up. stay system (sym (only-up now start did.3 system) ∙ up) in
        let leads : Leads start.world = record {
          behind = works-on start.world between.world last.world
              (acted-works start between lines did.2 act did.4)
              (all-works acts between last did.2 lines_last did.5);
          same = λ tid. all-same acts between last did.2 lines_last did.5 tid ∙ acted-same start between lines did.2 act did.4 tid;
          back = λ system up. acted-up disk start between lines did.2 act did.4 system (back system up);
        } in
        let went = acted-clear start between lines did.2 leads (only-clear now start did.3 clear) none (λ system up. back system (stay_start system up)) act
        did.4 in
        let rest = acts-clear acts between did.2 lines_last did.5 went.clear went.none
        (λ system up. stay_start system (acted-up disk start between lines did.2 act did.4 system up)) in
        (rest.0, rest.1, λ tid. or_from (loses tid act) (list_any (loses tid) acts) (went.lost tid) (rest.2 tid))
