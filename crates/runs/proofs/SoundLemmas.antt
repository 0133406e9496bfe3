-- A command lets logs only grow. So what a crash leaves at any moment of it is sound, and lacks nothing that was there before.
use Rattle.std.proofs.Common.{◌≡◌, ℕ, List, Option, Some, None, Result, Ok, Err, inl, inr, ap}
use Rattle.std.specs.Arc.{arc_value}
use Rattle.std.specs.Prelude.{⊤}
use Rattle.ale_base.specs.Tid.{TidOf}
use Rattle.ale_base.specs.declared.out_of_memory.OutOfMemory.{OutOfMemory}
use Rattle.ale_io.specs.Told.{Told}
use Rattle.ale_volumes.specs.Disk.{Disk}
use Rattle.dist_model.specs.Model.{system_named}
use Rattle.unit_core.specs.declared.records.Record.{Record}
use Rattle.trfc_protocol.specs.declared.event.Event.{Event}
use Rattle.trfc_protocol.specs.declared.event.Event.TheVariants as event
use Rattle.trfc_protocol.specs.Worlds.{log_of}
use Rattle.status_log.specs.declared.show.Show.{Show}
use Rattle.status_log.specs.declared.show.Show.TheVariants as show
use Rattle.unit_landscape.specs.Crashes.{HasGrown}
use Rattle.unit_landscape.specs.Kept.{IsLandscape}
use Rattle.unit_landscape.specs.KeptWorlds.{KeptOf}
use Rattle.unit_landscape.proofs.GrownLemmas.{grown-happened, grown-none}
use Rattle.document_state.specs.declared.document_tables.DocumentTables.{DocumentTables}
use Rattle.document_state.specs.declared.model_rules.ModelRules.{ModelRules}
use Rattle.landscape.specs.Asked.{Asked, asked_app, asked_dispatch, asked_gather, asked_put, asked_repost, pointers_noted}
use Rattle.landscape.specs.Carried.{asked_at, counts_asked, operator_event, sent_counts, status_at}
use Rattle.landscape.specs.Crashes.{GoesSoundly}
use Rattle.landscape.specs.Operator.{asked_queue, asked_retry, start_of, stop_of}
use Rattle.landscape.proofs.BegunLemmas.{is_lawful}
use Rattle.landscape.proofs.ReopenedLemmas.{opens-grown}
use Rattle.landscape.proofs.SoundLemmas.{came-grown, carried-grown, goes-none, goes-one}
use Rattle.report_text.specs.declared.reply.Reply.{Reply}
use Rattle.report_text.specs.declared.reply.Reply.TheVariants as reply
use Rattle.script_text.specs.declared.form.Form.{Form}
use Rattle.script_text.specs.declared.form.Form.TheVariants as form
use Rattle.unit_works.specs.Drained.{DrainedAs}
use Rattle.unit_works.specs.Worked.{Lines}
use Rattle.unit_works.proofs.WorkedLemmas.{meaning}
use Rattle.runs.specs.declared.answered.Answered.{Answered}
use Rattle.runs.specs.declared.halt.Halt.{Halt}
use Rattle.runs.specs.declared.halt.Halt.TheVariants as halt
use Rattle.runs.specs.declared.inputs.Inputs.{Inputs}
use Rattle.runs.specs.declared.stage.Stage.{Stage}
use Rattle.runs.specs.Does.{At, Carries, Commits, Crashes, Done, Goes, IsOneCall, Leads, Opens, Operates, Queues, Shows, Wired, asked_master, numbered}
use Rattle.runs.specs.Does.{shown_gathered, shown_sent}

module _ {V : Type 0} (disk : Disk V) (before : Stage V) (answer : Result Answered Halt) (after : Stage V)
    (is : IsLandscape meaning before.landscape.world) where
  -- logs have only grown
  abbrev Grown : Type 0
  Grown = HasGrown before.landscape.world after.landscape.world

  grown-still : after ≡ before → Grown
  grown-still same = grown-none before.landscape.world after.landscape.world (ap (λ (stage : Stage V). stage.landscape.world) same)

  grown-carries : {T : Type 0} (system : ℕ) (of : Record → Event) (asked : Asked) (answers : T → Type 0) (shown : T → Reply)
      → Carries disk before answer after system of asked answers shown → Grown
  grown-carries system of asked answers shown did =
      carried-grown disk before.landscape after.landscape is system of asked answers did.result did.carried

  grown-wired : (tid : TidOf) (letters : List ℕ) (given : Result Answered Halt) → Wired disk before answer after tid letters given → Grown
  grown-wired tid letters (Ok answered) did =
      grown-none before.landscape.world after.landscape.world (ap (λ (kept : KeptOf ModelRules DocumentTables V). kept.world) did.1)
  grown-wired tid letters (Err halt.OutOfMemory) did = grown-still did
  grown-wired tid letters (Err its) did = absurd did

  grown-crashes : (system : ℕ) → Crashes disk before answer after system → Grown
  grown-crashes system did = elim did [
    | inl fell ↦ grown-happened meaning is_lawful disk before.landscape after.landscape is.safe (event.Fall system None) fell.4
    | inr refused ↦ grown-still refused.2
  ]

  grown-opens : (system : ℕ) → Opens disk before answer after system → Grown
  grown-opens system did = elim did [
    | inl unknown ↦ grown-still unknown.2
    | inr asked ↦ opens-grown disk before.landscape after.landscape system is asked.0 asked.1
  ]

  module _ (inputs : Inputs) where
    -- a command for the system of a name
    grown-at : (found : Option ℕ) (obeys : ℕ → Type 0) → ((system : ℕ) → obeys system → Grown)
        → At disk inputs before answer after found obeys → Grown
    grown-at (Some system) obeys each did = each system did
    grown-at None obeys each did = grown-still did.1

    grown-queues : (system : ℕ) (queue : List ℕ) (of : Option ℕ → List ℕ → Record) (destination : Option ℕ)
        → Queues disk inputs before answer after system destination queue of → Grown
    grown-queues system queue of destination did =
        grown-carries {T = Unit {0}} system (operator_event system)
        (asked_at before.landscape.world system
        (λ (log : List Record). asked_queue before.landscape.world.rules.systems system destination queue (of destination queue)))
        (λ done. ⊤) (λ done. reply.Carried) did

    grown-leads : (system : ℕ) (queue : List ℕ) (of : Option ℕ → List ℕ → Record) (to : Option (List ℕ))
        → Leads disk inputs before answer after to (λ destination. Queues disk inputs before answer after system destination queue of) → Grown
    grown-leads system queue of None did = grown-queues system queue of None did
    grown-leads system queue of (Some name) did =
        grown-at (system_named name (arc_value inputs.model))
        (λ destination. Queues disk inputs before answer after system (Some destination) queue of)
        (λ destination its. grown-queues system queue of (Some destination) its) did

    module _ (sys : List ℕ) where
      abbrev Here : Option ℕ
      Here = system_named sys (arc_value inputs.model)

      grown-commits : {T : Type 0} (asked : List Record → Asked) (answers : ℕ → Asked → T → Type 0) (shown : T → Reply)
          → At disk inputs before answer after Here (λ system. Commits disk inputs before answer after system asked (answers system) shown) → Grown
      grown-commits asked answers shown did =
          grown-at Here (λ system. Commits disk inputs before answer after system asked (answers system) shown)
          (λ system its. grown-carries system (event.Commit system) (asked_at before.landscape.world system asked)
          (answers system (asked_at before.landscape.world system asked)) shown its) did

      grown-operates : {T : Type 0} (asked : ℕ → List Record → Asked) (answers : ℕ → T → Type 0) (shown : T → Reply)
          → At disk inputs before answer after Here
          (λ system. Operates disk inputs before answer after system (asked system) (answers system) shown) → Grown
      grown-operates asked answers shown did =
          grown-at Here (λ system. Operates disk inputs before answer after system (asked system) (answers system) shown)
          (λ system its. grown-carries system (operator_event system) (asked_at before.landscape.world system (asked system)) (answers system) shown its)
          did

      grown-shows : (what : ℕ → Show) → At disk inputs before answer after Here (λ system. Shows disk before answer after (what system)) → Grown
      grown-shows what did = grown-at Here (λ system. Shows disk before answer after (what system)) (λ system its. grown-still its.3) did

    -- a command that goes by one call at most
    by-call : Grown → IsOneCall disk before after → GoesSoundly disk before.landscape after.landscape
    by-call grown call = elim call [
      | inl same ↦
          goes-none disk before.landscape after.landscape (ap (λ (kept : KeptOf ModelRules DocumentTables V). kept.world) same)
          (ap (λ (kept : KeptOf ModelRules DocumentTables V). kept.vols) same)
      | inr leaves ↦ goes-one disk before.landscape after.landscape grown leaves
    ]

    -- so each command goes soundly
    module _ (told : List ℕ → Told) (failed failed_after : ℕ) where
      pub goes-command : (asked : Form) → Done disk inputs before answer after told failed failed_after asked → Goes disk inputs before answer after asked
          → GoesSoundly disk before.landscape after.landscape
      goes-command (form.Send sys number) does goes =
          by-call (grown-commits sys (asked_master (numbered number inputs.masters))
          (λ system asked sent. sent ≡ sent_counts (counts_asked (log_of before.landscape.world system) asked)) shown_sent does.0) goes
      goes-command (form.Put sys change) does goes =
          by-call (grown-operates sys (λ system log. asked_put log change)
          (λ system pointers. pointers ≡ pointers_noted (log_of before.landscape.world system) change) reply.Pointers does.0) goes
      goes-command (form.Gather sys message) does goes =
          by-call (grown-commits sys (λ log. asked_gather log message)
          (λ system asked made. made ≡ counts_asked (log_of before.landscape.world system) asked) shown_gathered does.0) goes
      goes-command (form.Dispatch sys) does goes =
          by-call (grown-commits sys (λ log. asked_dispatch log)
          (λ system asked units. units ≡ (counts_asked (log_of before.landscape.world system) asked).units) reply.Units does.0) goes
      goes-command form.Drain does goes = goes
      goes-command (form.Remodel file) does goes = goes
      goes-command (form.Wire tid letters) does goes = by-call (grown-wired tid letters answer does.0) goes
      goes-command (form.Stop sys destination queue) does goes =
          by-call (grown-at (system_named sys (arc_value inputs.model))
          (λ system. Leads disk inputs before answer after destination
          (λ to. Queues disk inputs before answer after system to queue stop_of))
          (λ system its. grown-leads system queue stop_of destination its) does.0) goes
      goes-command (form.Start sys destination queue) does goes =
          by-call (grown-at (system_named sys (arc_value inputs.model))
          (λ system. Leads disk inputs before answer after destination
          (λ to. Queues disk inputs before answer after system to queue start_of))
          (λ system its. grown-leads system queue start_of destination its) does.0) goes
      goes-command (form.Retry sys tid) does goes =
          by-call (grown-operates sys {T = Unit {0}} (λ system. asked_retry before.landscape.world.rules.systems system tid) (λ system done. ⊤)
          (λ done. reply.Carried) does.0) goes
      goes-command (form.Late tid) does goes = by-call (came-grown disk before.landscape after.landscape is tid does.0.0 does.0.1) goes
      goes-command (form.App sys doc) does goes =
          by-call (grown-operates sys (λ system log. asked_app log doc.0)
          (λ system status. status ≡ status_at after.landscape.world system doc.0) reply.Posted does.0) goes
      goes-command (form.Repost sys doc) does goes =
          by-call (grown-operates sys (λ system log. asked_repost log doc.0)
          (λ system status. status ≡ status_at after.landscape.world system doc.0) reply.Posted does.0) goes
      goes-command (form.Crash sys) does goes =
          by-call (grown-at (system_named sys (arc_value inputs.model)) (λ system. Crashes disk before answer after system) (λ system its.
          grown-crashes system its)
          does.0) goes
      goes-command (form.Open sys) does goes =
          by-call (grown-at (system_named sys (arc_value inputs.model)) (λ system. Opens disk before answer after system) (λ system its. grown-opens
          system its)
          does.0) goes
      goes-command (form.ShowDocs sys) does goes = by-call (grown-shows sys (λ system. show.Docs system) does.0) goes
      goes-command (form.ShowDoc sys doc) does goes = by-call (grown-shows sys (λ system. show.Doc system doc) does.0) goes
      goes-command (form.ShowHistory sys way doc) does goes = by-call (grown-shows sys (λ system. show.History system way doc) does.0) goes
      goes-command (form.ShowUnits sys) does goes = by-call (grown-shows sys (λ system. show.Units system) does.0) goes
      goes-command (form.ShowQueues sys) does goes = by-call (grown-shows sys (λ system. show.Queues system) does.0) goes
      goes-command (form.ShowObjects sys) does goes = by-call (grown-shows sys (λ system. show.Objects system) does.0) goes

-- however a drain ends, it goes soundly
pub drained-goes : {V : Type 0} (disk : Disk V) (before : KeptOf ModelRules DocumentTables V) (lines : Lines) (after : KeptOf ModelRules DocumentTables V)
    (lines_after : Lines) (result : Result ℕ OutOfMemory) → DrainedAs disk before lines after lines_after result → GoesSoundly disk before after
drained-goes disk before lines after lines_after (Ok count) did = did.worked.went.sound
drained-goes disk before lines after lines_after (Err short) did = did.sound
