-- Where nothing holds units up, no command does but those that stop a queue or give letters; and behind a drain each unit went its whole way.
use Rattle.std.specs.Option.{option_map_or}
use Rattle.std.proofs.Common.{◌≡◌, ◌<◌, ◌&&◌, ℕ, zero, suc, not, Bool, true, false, cond, length, Option, Some, None, Result, Ok, Err, List, [], ◌∷◌, ◌++◌, inl}
use Rattle.std.proofs.Common.{inr, refl, sym, ap, subst, ◌∙◌, append-nil, arith}
use Rattle.std.specs.Prelude.{⊤, slice_get}
use Rattle.std.proofs.lemmas.Bool.{and_parts, cases_Bool}
use Rattle.ale_io.specs.Told.{Told}
use Rattle.ale_volumes.specs.Disk.{Disk}
use Rattle.ale_base.specs.Tid.{TidOf}
use Rattle.ale_base.specs.declared.mark.Mark.{Mark as Cause}
use Rattle.ale_base.specs.declared.out_of_memory.OutOfMemory.{OutOfMemory}
use Rattle.ale_base.specs.declared.way.Way.TheVariants.{Outgoing}
use Rattle.dist_model.specs.declared.lists.Lists.{Lists}
use Rattle.dist_model.specs.Model.{system_named}
use Rattle.std.specs.Arc.{arc_value}
use Rattle.unit_core.specs.declared.records.Record.{Record}
use Rattle.unit_core.specs.declared.records.Record.TheVariants as log
use Rattle.unit_core.specs.Filters.{done_in, mark_of}
use Rattle.unit_core.specs.Queues.{is_listed}
use Rattle.said_models.specs.OfLog.{model_of}
use Rattle.trfc_protocol.specs.declared.event.Event.{Event}
use Rattle.trfc_protocol.specs.declared.event.Event.TheVariants as event
use Rattle.trfc_protocol.specs.declared.event.Action.TheVariants.{Append, Revoke}
use Rattle.trfc_protocol.specs.declared.world.SystemState.{SystemState}
use Rattle.trfc_protocol.specs.declared.world.World.{World}
use Rattle.trfc_protocol.specs.Happens.{happens, written}
use Rattle.trfc_protocol.specs.Keeping.{may_keep}
use Rattle.trfc_protocol.specs.Legal.{is_commit, may_follow}
use Rattle.trfc_protocol.specs.Meaning.{Meaning}
use Rattle.trfc_protocol.specs.RecordOf.{may_operate, record_if}
use Rattle.trfc_protocol.specs.Worlds.{is_up, log_of, up_or_not, with_fall, with_record}
use Rattle.status_log.specs.declared.refusal.Refusal.{Refusal}
use Rattle.status_log.specs.declared.refusal.Refusal.TheVariants as refusal
use Rattle.status_log.specs.declared.show.Show.{Show}
use Rattle.status_log.specs.declared.show.Show.TheVariants as show
use Rattle.unit_landscape.specs.declared.answers.Late.{Late}
use Rattle.unit_landscape.specs.Kept.{IsLandscape}
use Rattle.unit_landscape.specs.Reopening.{IsDown}
use Rattle.unit_landscape.specs.Late.{IsLate, is_of_loss}
use Rattle.landscape.specs.Asked.{Asked, asked_app, asked_dispatch, asked_gather, asked_put, asked_repost, has_inbound, pointers_noted}
use Rattle.unit_landscape.specs.KeptWorlds.{KeptOf}
use Rattle.document_state.specs.declared.document_tables.DocumentTables.{DocumentTables}
use Rattle.document_state.specs.declared.model_rules.ModelRules.{ModelRules}
use Rattle.document_state.specs.Allowed.{stands_at}
use Rattle.document_state.specs.Meaning.{model_meaning}
use Rattle.landscape.specs.Carried.{CarriedAs, asked_at, counts_asked, operator_event, sent_counts, status_at}
use Rattle.landscape.specs.Operator.{asked_queue, asked_retry, start_of, way_at}
use Rattle.landscape.specs.Working.{CameOrRefused}
use Rattle.report_text.specs.declared.reply.Reply.{Reply}
use Rattle.report_text.specs.declared.reply.Reply.TheVariants as reply
use Rattle.script_text.specs.declared.form.Form.{Form}
use Rattle.script_text.specs.declared.form.Form.TheVariants as form
use Rattle.unit_works.specs.Drained.{DrainedAs}
use Rattle.unit_works.specs.Through.{AreOffered, AreThrough, AreUp, IsClear, NoneLeft}
use Rattle.unit_works.specs.Trips.{one_at}
use Rattle.unit_works.proofs.ClearLemmas.{clear-behind, clear-grown, is_harmless, no-mark}
use Rattle.unit_works.proofs.LogLemmas.{grown-record}
use Rattle.unit_works.proofs.StateLemmas.{fall-log}
use Rattle.unit_works.proofs.WorkedLemmas.{meaning}
use Rattle.runs.specs.declared.answered.Answered.{Answered}
use Rattle.runs.specs.declared.inputs.Inputs.{Inputs}
use Rattle.runs.specs.declared.stage.Stage.{Stage}
use Rattle.runs.specs.Complete.{AllGoThrough, HoldsNothing, IsFree, holds_nothing}
use Rattle.runs.specs.Does.{At, Carries, Commits, Done, Drains, Lates, Leads, Opens, Operates, Queues, Remodels, Shows}
use Rattle.runs.specs.Does.{asked_master, numbered, shown_gathered, shown_sent}
use Rattle.runs.specs.Does.{answer_of, drained_as, shown_late}
use Rattle.landscape.specs.Remodelled.{to_remodel}
use Rattle.runs.specs.Remodels.{FailsAt, RemodelledAs, TakeAll}
use Rattle.runs.specs.Turns.{Turn, at_moment, down_from, first_down}
use Rattle.runs.specs.steps.Keeping.{KeepsFree}

-- ---- all systems are up

found-within : {A : Type 0} (xs : List A) (k : ℕ) (x : A) → slice_get xs k ≡ Some x → k < length xs
found-within [] k x is = cc
found-within (first ∷ xs) zero x is = omega arith
found-within (first ∷ xs) (suc k) x is = let less = found-within xs k x is in omega (arith, less)

none-down : (number : ℕ) (systems : List SystemState) → down_from number systems ≡ None → (k : ℕ) → k < length systems
    → up_or_not (slice_get systems k) ≡ true
none-down number [] none k within = absurd (omega (arith, within))
none-down number (state ∷ states) none zero within = elim (cases_Bool state.up) [
  | inl up ↦ up
  | inr down ↦
      let is : down_from number (state ∷ states) ≡ Some number = rw down refl in
      let wrong = sym is ∙ none in cc
]
none-down number (state ∷ states) none (suc k) within = elim (cases_Bool state.up) [
  | inl up ↦
      let is : down_from number (state ∷ states) ≡ down_from (suc number) states = rw up refl in
      none-down (suc number) states (sym is ∙ none) k (omega (arith, within))
  | inr down ↦
      let is : down_from number (state ∷ states) ≡ Some number = rw down refl in
      let wrong = sym is ∙ none in cc
]

-- where none is down no system of the landscape is
none-down-at : (world : World ModelRules) → first_down world ≡ None → (system : ℕ) → IsDown world system → ⊥
none-down-at world none zero is = let lies = is.known in cc
none-down-at world none (suc k) is =
    let known : slice_get world.systems k ≡ Some is.state = is.known in
    let up : is.state.up ≡ true = sym (ap up_or_not known) ∙ none-down 1 world.systems none k (found-within world.systems k is.state known) in
    let wrong = sym up ∙ is.down in cc

-- where none of a landscape is down all are up
pub all-up : (world : World ModelRules) → IsLandscape meaning world → first_down world ≡ None → AreUp world
all-up world is none zero least most = absurd (omega (arith, least))
all-up world is none (suc k) least most = let systems = is.safe.systems in none-down 1 world.systems none k (omega (arith, systems, most))

-- ---- records that are asked for

abbrev Harmless : Record → Type 0
Harmless next = is_harmless next ≡ true

same-next : (one next : Record) → Harmless one → ◌≡◌ {A = Asked} (Ok (Some one)) (Ok (Some next)) → Harmless next
same-next one next is same = subst Harmless (cc) is

if-asked : (met : Bool) (one next : Record) (why : Refusal) → Harmless one → ◌≡◌ {A = Asked} (cond met (Ok (Some one)) (Err why)) (Ok (Some next)) →
    Harmless next
if-asked true one next why is same = same-next one next is same
if-asked false one next why is same = cc

by-model : (asked : Lists → Asked) (next : Record) → ((model : Lists) → asked model ≡ Ok (Some next) → Harmless next) → (found : Option Lists)
    → option_map_or asked found (Err refusal.N12) ≡ Ok (Some next) → Harmless next
by-model asked next each None same = cc
by-model asked next each (Some model) same = each model same

put-harmless : (records : List Record) (change : _) (next : Record) → asked_put records change ≡ Ok (Some next) → Harmless next
put-harmless records change next is =
    by-model _ next (λ model same. if-asked _ (log.Put change.kind change.key change.fields) next refusal.N12 refl same) (model_of records) is

pass-harmless : (here stands : Bool) (one next : Record) → Harmless one
    → ◌≡◌ {A = Asked} (cond here (cond stands (Ok (Some one)) (Err refusal.N8)) (Err refusal.N3)) (Ok (Some next)) → Harmless next
pass-harmless true stands one next is same = if-asked stands one next refusal.N8 is same
pass-harmless false stands one next is same = cc

-- what is asked for at a system is so where it is up
at-up : (world : World ModelRules) (system : ℕ) (asked : List Record → Asked) (next : Record) → asked_at world system asked ≡ Ok (Some next)
    → (is_up world system ≡ true) × (asked (log_of world system) ≡ Ok (Some next))
at-up world system asked next is = by (is_up world system) is
  where
    by : (up : Bool) → cond up (asked (log_of world system)) (Err refusal.N2) ≡ Ok (Some next) → (up ≡ true) × (asked (log_of world system) ≡ Ok (Some next))
    by true same = (refl, same)
    by false same = cc

-- ---- what is appended

written-clear : {R : Type 0} (world : World R) (met : Bool) (system : ℕ) (next : Record) → is_up world system ≡ true → (met ≡ true → Harmless next)
    → IsClear world → IsClear (written (record_if met system next) world)
written-clear world true system next up is clear =
    clear-grown world (with_record world system next) (one_at system next) (grown-record world system next up) (is refl, tt) clear
written-clear world false system next up is clear = clear

commits-plain : (next : Record) → is_commit next ≡ true → Harmless next
commits-plain (log.Commit origin docs) is = refl
commits-plain log.Dispatch is = refl
commits-plain _ is = cc

module _ {R : Type 0} (rules : Meaning) (world : World R) (system : ℕ) (next : Record) (up : is_up world system ≡ true) (clear : IsClear world) where
  commit-clear : IsClear (happens rules world (event.Commit system next))
  commit-clear =
      let met = is_up world system && is_commit next && may_follow rules system (log_of world system) next in
      written-clear world met system next up
      (λ is. commits-plain next
      (and_parts (is_up world system) (is_commit next)
      (and_parts (is_up world system && is_commit next) (may_follow rules system (log_of world system) next) is).0).1) clear

  operate-clear : Harmless next → IsClear (happens rules world (event.Operator (Append system next)))
  operate-clear is =
      written-clear world (is_up world system && may_operate world next && may_follow rules system (log_of world system) next) system next up (λ met.
      is) clear

  fallen-clear : IsClear (happens rules world (event.Fall system (Some next)))
  fallen-clear = by (may_keep rules world system next)
    where
      by : (keeps : Bool) → IsClear (cond keeps (with_fall world system (Some next)) world)
      by true =
          clear-behind world (with_fall world system (Some next)) clear
          (λ other. ([], fall-log world system up (Some next) other ∙ sym (append-nil (log_of world other)), refl))
      by false = clear

-- a record that holds nothing up is appended, or is none that its event appends
append-clear : {R : Type 0} (rules : Meaning) (world : World R) (system : ℕ) (next : Record) → Harmless next → IsClear world
    → IsClear (happens rules world (event.Operator (Append system next)))
append-clear rules world system next is clear = elim (cases_Bool (is_up world system)) [
  | inl up ↦ operate-clear rules world system next up clear is
  | inr down ↦
      let met : (is_up world system && may_operate world next && may_follow rules system (log_of world system) next) ≡ false = rw down refl in
      subst (λ (b : Bool). IsClear (written (record_if b system next) world)) (sym met) clear
]

-- a system fell as it was to append the record that brings a model
failed-clear : {R : Type 0} (rules : Meaning) (world : World R) (system : ℕ) (text : List ℕ) → IsClear world
    → IsClear (happens rules world (event.Fall system (Some (log.Model text))))
failed-clear rules world system text clear = elim (cases_Bool (is_up world system)) [
  | inl up ↦ fallen-clear rules world system (log.Model text) up clear
  | inr down ↦
      let met : may_keep rules world system (log.Model text) ≡ false = rw down refl in
      subst (λ (b : Bool). IsClear (cond b (with_fall world system (Some (log.Model text))) world)) (sym met) clear
]

-- ---- commands

lost-marked : (mark : Option Cause) (done : Bool) → mark ≡ None → (is_of_loss mark && not done) ≡ true → ⊥
lost-marked None done none lost = cc
lost-marked (Some cause) done none lost = cc

module _ {V : Type 0} (disk : Disk V) (before after : Stage V) (answered : Answered) (free : IsFree before)
    (all_up : first_down after.landscape.world ≡ None) where
  free-same : after ≡ before → IsFree after
  free-same same = subst (λ (stage : Stage V). IsFree stage) (sym same) free

  free-still : after.landscape ≡ before.landscape → after.wires ≡ before.wires → IsFree after
  free-still same letters = record {
    up = all_up;
    clear = subst (λ (k : KeptOf ModelRules DocumentTables V). IsClear k.world) (sym same) free.clear;
    none = subst NoneLeft (sym letters) free.none;
  }

  free-so : IsClear after.landscape.world → after.wires ≡ before.wires → IsFree after
  free-so clear letters = record { up = all_up; clear = clear; none = subst NoneLeft (sym letters) free.none }

  carries-free : {T : Type 0} (system : ℕ) (of : Record → Event) (asked : Asked) (answers : T → Type 0) (shown : T → Reply)
      → ((next : Record) → asked ≡ Ok (Some next) → (is_up before.landscape.world system ≡ true)
      × IsClear (happens (model_meaning before.landscape.world.rules.systems) before.landscape.world (of next)))
      → Carries disk before (Ok answered) after system of asked answers shown → IsFree after
  carries-free {T} system of asked answers shown fine did = carried did.result did.carried did.answer_is
    where
      letters : after.wires ≡ before.wires
      letters = did.letters

      carried : (result : Result T Refusal) → CarriedAs disk before.landscape after.landscape system of asked answers result
          → Ok answered ≡ answer_of shown result → IsFree after
      carried (Ok answer) is answer_is = elim is.1 [
        | inl none ↦ free-still none.1 letters
        | inr asks ↦
            let its = fine asks.0 asks.1 in
            let happened = asks.2 in
            free-so (subst (λ (w : World ModelRules). IsClear w) (sym happened.world) its.1) letters
      ]
      carried (Err refusal.Volume) is answer_is =
          let its = fine is.0 is.1 in
          let failed = is.2 in
          free-so (subst (λ (w : World ModelRules). IsClear w) (sym failed.world)
          (fallen-clear (model_meaning before.landscape.world.rules.systems) before.landscape.world system is.0 its.0 free.clear)) letters
      carried (Err (refusal.N10 size)) is answer_is = let full = is.2 in free-still full.same letters
      carried (Err refusal.OutOfMemory) is answer_is = cc
      carried (Err refusal.N1) is answer_is = free-still is.1 letters
      carried (Err refusal.N2) is answer_is = free-still is.1 letters
      carried (Err refusal.N3) is answer_is = free-still is.1 letters
      carried (Err (refusal.N4 fault)) is answer_is = free-still is.1 letters
      carried (Err refusal.N5) is answer_is = free-still is.1 letters
      carried (Err refusal.N6) is answer_is = free-still is.1 letters
      carried (Err refusal.N7) is answer_is = free-still is.1 letters
      carried (Err refusal.N8) is answer_is = free-still is.1 letters
      carried (Err refusal.N9) is answer_is = free-still is.1 letters
      carried (Err (refusal.N11 count)) is answer_is = free-still is.1 letters
      carried (Err refusal.N12) is answer_is = free-still is.1 letters
      carried (Err (refusal.N13 count)) is answer_is = free-still is.1 letters
      carried (Err (refusal.N14 words)) is answer_is = free-still is.1 letters
      carried (Err (refusal.N15 path)) is answer_is = free-still is.1 letters

  -- a record that commits
  commits-free : {T : Type 0} (system : ℕ) (asked : List Record → Asked) (answers : T → Type 0) (shown : T → Reply)
      → Carries disk before (Ok answered) after system (event.Commit system) (asked_at before.landscape.world system asked) answers shown → IsFree after
  commits-free system asked answers shown did =
      carries-free system (event.Commit system) (asked_at before.landscape.world system asked) answers shown
      (λ next is.
      let up = at-up before.landscape.world system asked next is in
      (up.0, commit-clear (model_meaning before.landscape.world.rules.systems) before.landscape.world system next up.0 free.clear)) did

  -- one that an operator or the application asks for
  operates-free : {T : Type 0} (system : ℕ) (asked : List Record → Asked) (answers : T → Type 0) (shown : T → Reply)
      → ((records : List Record) (next : Record) → asked records ≡ Ok (Some next) → Harmless next)
      → Carries disk before (Ok answered) after system (operator_event system) (asked_at before.landscape.world system asked) answers shown → IsFree after
  operates-free system asked answers shown harmless did =
      carries-free system (operator_event system) (asked_at before.landscape.world system asked) answers shown
      (λ next is.
      let up = at-up before.landscape.world system asked next is in (
        up.0,
        operate-clear (model_meaning before.landscape.world.rules.systems) before.landscape.world system next up.0 free.clear
            (harmless (log_of before.landscape.world system) next up.1),
      )) did

  -- a command for the system of a name
  at-free : (inputs : Inputs) (found : Option ℕ) (obeys : ℕ → Type 0) → ((system : ℕ) → obeys system → IsFree after)
      → At disk inputs before (Ok answered) after found obeys → IsFree after
  at-free inputs (Some system) obeys each did = each system did
  at-free inputs None obeys each did = free-same did.1

  module _ (inputs : Inputs) (sys : List ℕ) where
    abbrev Here : Option ℕ
    Here = system_named sys (arc_value inputs.model)

    commits-at : {T : Type 0} (asked : List Record → Asked) (answers : ℕ → Asked → T → Type 0) (shown : T → Reply)
        → At disk inputs before (Ok answered) after Here
        (λ system. Commits disk inputs before (Ok answered) after system asked (answers system) shown) → IsFree after
    commits-at asked answers shown did =
        at-free inputs Here (λ system. Commits disk inputs before (Ok answered) after system asked (answers system) shown)
        (λ system its. commits-free system asked (answers system (asked_at before.landscape.world system asked)) shown its) did

    operates-at : {T : Type 0} (asked : ℕ → List Record → Asked) (answers : ℕ → T → Type 0) (shown : T → Reply)
        → ((system : ℕ) (records : List Record) (next : Record) → asked system records ≡ Ok (Some next) → Harmless next)
        → At disk inputs before (Ok answered) after Here
        (λ system. Operates disk inputs before (Ok answered) after system (asked system) (answers system) shown) → IsFree after
    operates-at asked answers shown harmless did =
        at-free inputs Here (λ system. Operates disk inputs before (Ok answered) after system (asked system) (answers system) shown)
        (λ system its. operates-free system (asked system) (answers system) shown (harmless system) its) did

    shows-at : (what : ℕ → Show) → At disk inputs before (Ok answered) after Here (λ system. Shows disk before (Ok answered) after (what system))
        → IsFree after
    shows-at what did = at-free inputs Here (λ system. Shows disk before (Ok answered) after (what system)) (λ system its. free-same its.3) did

  -- where no unit is marked no request comes late
  late-none : (tid : TidOf) (unit : _) → IsLate (model_meaning before.landscape.world.rules.systems) before.landscape.world tid unit → ⊥
  late-none tid unit late =
      lost-marked (mark_of Outgoing tid (log_of before.landscape.world tid.system))
      (is_listed tid (done_in (log_of before.landscape.world tid.system)))
      (no-mark (mark_of Outgoing tid (log_of before.landscape.world tid.system)) (free.clear.unmarked tid.system Outgoing tid)) late.lost

  lates-free : (tid : TidOf) → Lates disk before (Ok answered) after tid → IsFree after
  lates-free tid did = came did.0 did.1 did.2
    where
      came : (result : Result Late Refusal) → CameOrRefused disk before.landscape after.landscape tid result → Ok answered ≡ answer_of shown_late result
          → IsFree after
      came (Ok given) is answer_is = absurd (late-none tid is.0 is.1)
      came (Err refusal.N2) is answer_is = free-still is.1 did.3
      came (Err refusal.N6) is answer_is = elim is [
        | inl none ↦ free-still none.1 did.3
        | inr none ↦ free-still none.1 did.3
      ]
      came (Err refusal.N7) is answer_is = free-still is.1 did.3
      came (Err (refusal.N10 size)) is answer_is = absurd (late-none tid is.0 is.1)
      came (Err refusal.OutOfMemory) is answer_is = cc
      came (Err refusal.Volume) is answer_is = absurd is
      came (Err refusal.N1) is answer_is = absurd is
      came (Err refusal.N3) is answer_is = absurd is
      came (Err (refusal.N4 fault)) is answer_is = absurd is
      came (Err refusal.N5) is answer_is = absurd is
      came (Err refusal.N8) is answer_is = absurd is
      came (Err refusal.N9) is answer_is = absurd is
      came (Err (refusal.N11 count)) is answer_is = absurd is
      came (Err refusal.N12) is answer_is = absurd is
      came (Err (refusal.N13 count)) is answer_is = absurd is
      came (Err (refusal.N14 words)) is answer_is = absurd is
      came (Err (refusal.N15 path)) is answer_is = absurd is

  queue-harmless : (systems system : ℕ) (destination : Option ℕ) (queue : List ℕ) (next : Record)
      → asked_queue systems system destination queue (start_of destination queue) ≡ Ok (Some next) → Harmless next
  queue-harmless systems system destination queue next is = if-asked _ (start_of destination queue) next refusal.N5 refl is

  retry-harmless : (systems system : ℕ) (tid : TidOf) (records : List Record) (next : Record) → asked_retry systems system tid records ≡ Ok (Some next)
      → Harmless next
  retry-harmless systems system tid records next is = if-asked _ (log.Retry (way_at system tid) tid) next refusal.N6 refl is

  -- a system is opened: where all are up that is refused
  opens-free : (system : ℕ) → Opens disk before (Ok answered) after system → IsFree after
  opens-free system did = elim did [
    | inl unknown ↦ free-same unknown.2
    | inr asked ↦ elim asked.1 [
      | inl refused ↦ free-still refused.same asked.3
      | inr opening ↦ absurd (none-down-at before.landscape.world free.up system opening.down)
    ]
  ]

  -- a drain
  drains-free : AreUp after.landscape.world → AreOffered after.landscape.world → Drains disk before (Ok answered) after
      → IsFree after × AreThrough after.landscape.world
  drains-free ups offers did = drained did.0 did.1 did.2
    where
      drained : (result : Result ℕ OutOfMemory) → DrainedAs disk before.landscape before.wires after.landscape after.wires result
          → Ok answered ≡ drained_as result → IsFree after × AreThrough after.landscape.world
      drained (Ok n) is answer_is =
          let through = is.through free.clear free.none ups offers in
          (record { up = all_up; clear = through.0; none = through.1 }, through.2)
      drained (Err short) is answer_is = cc

  -- the model is replaced: each system that takes it appends a record that holds nothing up
  module _ (text : List ℕ) where
    takes-clear : (systems : List ℕ) (begun ended : KeptOf ModelRules DocumentTables V) → TakeAll disk text systems begun ended → IsClear begun.world
        → IsClear ended.world
    takes-clear [] begun ended same clear = subst (λ (k : KeptOf ModelRules DocumentTables V). IsClear k.world) (sym same) clear
    takes-clear (system ∷ systems) begun ended (next, took, rest) clear =
        takes-clear systems next ended rest
        (subst (λ (w : World ModelRules). IsClear w) (sym took.world)
        (append-clear (model_meaning begun.world.rules.systems) begun.world system (log.Model text) refl clear))

    fails-clear : (left : List ℕ) (between ended : KeptOf ModelRules DocumentTables V) → FailsAt disk text ended left between → IsClear between.world
        → IsClear ended.world
    fails-clear [] between ended fails clear = absurd fails
    fails-clear (system ∷ left) between ended fails clear =
        subst (λ (w : World ModelRules). IsClear w) (sym fails.world)
        (failed-clear (model_meaning between.world.rules.systems) between.world system text clear)

    remodelled-clear : (new : Lists) (begun ended : KeptOf ModelRules DocumentTables V) (result : Result ℕ Refusal)
        → RemodelledAs disk text new begun ended result → Ok answered ≡ answer_of reply.Models result → IsClear begun.world → IsClear ended.world
    remodelled-clear new begun ended (Ok count) did answer_is clear = takes-clear (to_remodel begun.world text) begun ended did.2 clear
    remodelled-clear new begun ended (Err refusal.Volume) did answer_is clear =
        fails-clear did.1.left did.1.between ended did.1.ends (takes-clear did.1.done begun did.1.between did.1.took clear)
    remodelled-clear new begun ended (Err refusal.OutOfMemory) did answer_is clear = cc
    remodelled-clear new begun ended (Err _) did answer_is clear =
        subst (λ (k : KeptOf ModelRules DocumentTables V). IsClear k.world) (sym did.1) clear

  revoked-clear : (rules : Meaning) (world : World ModelRules) → IsClear world → IsClear (happens rules world (event.Operator Revoke))
  revoked-clear rules world clear = record { started = clear.started; unmarked = clear.unmarked }

  remodels-free : (said : Told) (failed failed_after : ℕ)
      → Remodels disk before (Ok answered) after (first_down before.landscape.world) said failed failed_after → IsFree after
  remodels-free said failed failed_after = by (first_down before.landscape.world)
    where
      by : (down : Option ℕ) → Remodels disk before (Ok answered) after down said failed failed_after → IsFree after
      by (Some down) did = free-same did.1
      by None did = elim did [
        | inl unread ↦ free-same unread.4
        | inr brings ↦
            let brought = brings.4 in
            free-so (remodelled-clear brings.0 brings.1 brought.0 after.landscape brought.3 brought.4 brought.5
            (subst (λ (w : World ModelRules). IsClear w) (sym (brought.1).world)
            (revoked-clear (model_meaning before.landscape.world.rules.systems) before.landscape.world free.clear))) brought.6
      ]

  module _ (inputs : Inputs) (ups : AreUp after.landscape.world) (offers : AreOffered after.landscape.world) where
    -- a queue is started
    abbrev Asks : ℕ → List ℕ → Option ℕ → List Record → Asked
    Asks system queue destination log = asked_queue before.landscape.world.rules.systems system destination queue (start_of destination queue)

    starts-to : (system : ℕ) (queue : List ℕ) (destination : Option ℕ)
        → Queues disk inputs before (Ok answered) after system destination queue start_of → IsFree after
    starts-to system queue destination did =
        operates-free system (Asks system queue destination) (λ done. ⊤) (λ done. reply.Carried)
        (λ records next asked. queue-harmless before.landscape.world.rules.systems system destination queue next asked) did

    starts-free : (system : ℕ) (queue : List ℕ) (to : Option (List ℕ))
        → Leads disk inputs before (Ok answered) after to (λ destination. Queues disk inputs before (Ok answered) after system destination queue start_of)
        → IsFree after
    starts-free system queue None did = starts-to system queue None did
    starts-free system queue (Some name) did =
        at-free inputs (system_named name (arc_value inputs.model))
        (λ destination. Queues disk inputs before (Ok answered) after system (Some destination) queue start_of)
        (λ destination its. starts-to system queue (Some destination) its) did

    abbrev Kept : Form → Type 0
    Kept asked = IsFree after × (asked ≡ form.Drain → AreThrough after.landscape.world)

    module _ (told : List ℕ → Told) (failed failed_after : ℕ) where
      does-kept : (asked : Form) → Done disk inputs before (Ok answered) after told failed failed_after asked → holds_nothing asked ≡ true → Kept asked
      does-kept (form.Send sys number) does is = (
        commits-at inputs sys (asked_master (numbered number inputs.masters))
            (λ system asked sent. sent ≡ sent_counts (counts_asked (log_of before.landscape.world system) asked)) shown_sent does.0,
        λ drain. cc,
      )
      does-kept (form.Put sys change) does is = (
        operates-at inputs sys (λ system log. asked_put log change)
            (λ system pointers. pointers ≡ pointers_noted (log_of before.landscape.world system) change) reply.Pointers
            (λ system records next asked. put-harmless records change next asked) does.0,
        λ drain. cc,
      )
      does-kept (form.Gather sys message) does is = (
        commits-at inputs sys (λ log. asked_gather log message)
            (λ system asked made. made ≡ counts_asked (log_of before.landscape.world system) asked) shown_gathered does.0,
        λ drain. cc,
      )
      does-kept (form.Dispatch sys) does is = (
        commits-at inputs sys (λ log. asked_dispatch log)
            (λ system asked units. units ≡ (counts_asked (log_of before.landscape.world system) asked).units) reply.Units does.0,
        λ drain. cc,
      )
      does-kept form.Drain does is = let both = drains-free ups offers does.0 in (both.0, λ drain. both.1)
      does-kept (form.Wire tid letters) does is = cc
      does-kept (form.Stop sys destination queue) does is = cc
      does-kept (form.Start sys destination queue) does is = (
        at-free inputs (system_named sys (arc_value inputs.model))
            (λ system. Leads disk inputs before (Ok answered) after destination
            (λ to. Queues disk inputs before (Ok answered) after system to queue start_of))
            (λ system its. starts-free system queue destination its) does.0,
        λ drain. cc,
      )
      does-kept (form.Retry sys tid) does is = (
        operates-at inputs sys {T = Unit {0}} (λ system. asked_retry before.landscape.world.rules.systems system tid) (λ system done. ⊤)
            (λ done. reply.Carried)
            (λ system records next asked. retry-harmless before.landscape.world.rules.systems system tid records next asked) does.0,
        λ drain. cc,
      )
      does-kept (form.Late tid) does is = (lates-free tid does.0, λ drain. cc)
      does-kept (form.App sys doc) does is = (
        operates-at inputs sys (λ system log. asked_app log doc.0) (λ system status. status ≡ status_at after.landscape.world system doc.0) reply.Posted
            (λ system records next asked. pass-harmless (has_inbound records doc.0) (stands_at records 64 doc.0) (log.App (record { 0 = doc.0 }))
            next refl asked)
            does.0,
        λ drain. cc,
      )
      does-kept (form.Repost sys doc) does is = (
        operates-at inputs sys (λ system log. asked_repost log doc.0) (λ system status. status ≡ status_at after.landscape.world system doc.0) reply.Posted
            (λ system records next asked.
            pass-harmless (has_inbound records doc.0) (stands_at records 51 doc.0) (log.Repost (record { 0 = doc.0 })) next refl asked) does.0,
        λ drain. cc,
      )
      does-kept (form.Crash sys) does is = cc
      does-kept (form.Open sys) does is = (
        at-free inputs (system_named sys (arc_value inputs.model)) (λ system. Opens disk before (Ok answered) after system)
            (λ system its. opens-free system its) does.0,
        λ drain. cc,
      )
      does-kept (form.ShowDocs sys) does is = (shows-at inputs sys (λ system. show.Docs system) does.0, λ drain. cc)
      does-kept (form.ShowDoc sys doc) does is = (shows-at inputs sys (λ system. show.Doc system doc) does.0, λ drain. cc)
      does-kept (form.ShowHistory sys way doc) does is = (shows-at inputs sys (λ system. show.History system way doc) does.0, λ drain. cc)
      does-kept (form.ShowUnits sys) does is = (shows-at inputs sys (λ system. show.Units system) does.0, λ drain. cc)
      does-kept (form.ShowQueues sys) does is = (shows-at inputs sys (λ system. show.Queues system) does.0, λ drain. cc)
      does-kept (form.ShowObjects sys) does is = (shows-at inputs sys (λ system. show.Objects system) does.0, λ drain. cc)
      does-kept (form.Remodel file) does is = (remodels-free (told file) failed failed_after does, λ drain. cc)

-- so a command that was answered keeps units free
pub keeps-free : {V : Type 0} (disk : Disk V) (inputs : Inputs) (told : List ℕ → Told) (failed failed_after moment : ℕ) (before after : Stage V)
    (answered : Answered) (asked : Form) → IsLandscape meaning after.landscape.world
    → Done disk inputs (at_moment moment before) (Ok answered) after told failed failed_after asked → KeepsFree before after asked
keeps-free disk inputs told failed failed_after moment before after answered asked is does holds up offers free =
    does-kept disk (at_moment moment before) after answered (record { up = free.up; clear = free.clear; none = free.none }) up inputs
    (all-up after.landscape.world is up) offers told failed failed_after asked does holds

-- ---- turns

-- none of these turns holds a unit up
abbrev pub AllHoldNothing : {V : Type 0} → List (Turn V) → Type 0
AllHoldNothing [] = ⊤
AllHoldNothing (turn ∷ turns) = HoldsNothing turn × AllHoldNothing turns

module _ {V : Type 0} (next : Turn V) where
  pub hold-first : (turns : List (Turn V)) → AllHoldNothing (turns ++ next ∷ []) → AllHoldNothing turns × HoldsNothing next
  hold-first [] all = (tt, all.0)
  hold-first (turn ∷ turns) all = let rest = hold-first turns all.1 in ((all.0, rest.0), rest.1)

  pub through-last : (turns : List (Turn V)) → AllGoThrough turns
      → (AllHoldNothing turns → HoldsNothing next → next.command.form ≡ form.Drain → AreThrough next.after.landscape.world)
      → AllGoThrough (turns ++ next ∷ [])
  through-last [] all last = λ holds. (last tt holds, tt)
  through-last (turn ∷ turns) all last = λ holds.
      let rest = all holds in (rest.0, through-last turns rest.1 (λ held. last (holds, held)))
