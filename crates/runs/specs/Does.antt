-- What one command of a script does: how it is answered, and what becomes of the systems and of the letters. This project's own.
use Rattle.std.specs.Prelude.{◌≡◌, ◌⊎◌, ⊤, ℕ, suc, ◌-◌, ◌^◌, ◌<◌, ◌==◌, true, false, List, Option, Some}
use Rattle.std.specs.Prelude.{None, Result, Ok, Err, length, slice_get, if◌then◌else◌}
use Rattle.std.specs.Arc.{arc_value}
use Rattle.ale_base.specs.Faults.{Rose}
use Rattle.ale_io.specs.Told.{Told}
use Rattle.ale_volumes.specs.Disk.{Disk}
use Rattle.ale_base.specs.Tid.{TidOf}
use Rattle.ale_base.specs.declared.out_of_memory.OutOfMemory.{OutOfMemory}
use Rattle.dist_model.specs.declared.lists.Lists.{Lists}
use Rattle.dist_model.specs.Model.{system_named}
use Rattle.model_files.specs.declared.end.ModelFileEnd.{ModelFileEnd}
use Rattle.model_files.specs.ModelFile.{EndsModelFile, IsStillAt, SaysModelFile}
use Rattle.model_files.specs.Words.{words_of}
use Rattle.unit_core.specs.declared.raw_unit_doc.RawUnitDoc.{RawUnitDoc}
use Rattle.unit_core.specs.declared.records.Record.{Record}
use Rattle.trfc_protocol.specs.declared.event.Event.{Event}
use Rattle.trfc_protocol.specs.declared.event.Event.TheVariants as event
use Rattle.trfc_protocol.specs.declared.event.Action.TheVariants.{Revoke}
use Rattle.trfc_protocol.specs.Worlds.{is_up, log_of}
use Rattle.status_log.specs.declared.listing.Listing.{Listing}
use Rattle.status_log.specs.declared.listing.Listing.TheVariants as listing
use Rattle.status_log.specs.declared.refusal.Refusal.{Refusal}
use Rattle.status_log.specs.declared.refusal.Refusal.TheVariants as refusal
use Rattle.status_log.specs.declared.show.Show.{Show}
use Rattle.status_log.specs.declared.show.Show.TheVariants as show
use Rattle.unit_landscape.specs.Ends.{Happened}
use Rattle.unit_landscape.specs.KeptWorlds.{KeptOf}
use Rattle.unit_landscape.specs.LogAnswers.{KeepsDisk, KeepsVolumes}
use Rattle.unit_landscape.specs.OnVolumes.{AreOnVolumes}
use Rattle.document_state.specs.declared.document_tables.DocumentTables.{DocumentTables}
use Rattle.document_state.specs.declared.model_rules.ModelRules.{ModelRules}
use Rattle.document_state.specs.Meaning.{model_meaning}
use Rattle.unit_landscape.specs.declared.answers.Late.{Late}
use Rattle.unit_landscape.specs.declared.answers.Late.TheVariants as late
use Rattle.landscape.specs.Asked.{Asked, asked_send, asked_put, asked_gather, asked_dispatch, asked_app, asked_repost, pointers_noted}
use Rattle.landscape.specs.declared.counts.Gathered.{Gathered}
use Rattle.landscape.specs.declared.counts.Sent.{Sent}
use Rattle.landscape.specs.Carried.{CarriedAs, asked_at, counts_asked, operator_event, sent_counts, status_at}
use Rattle.landscape.specs.Crashes.{GoesSoundly, LeavesSoundLogs}
use Rattle.landscape.specs.Operator.{asked_queue, asked_retry, start_of, stop_of}
use Rattle.landscape.specs.declared.reopen_end.ReopenEnd.{ReopenEnd}
use Rattle.landscape.specs.declared.reopen_end.ReopenEnd.TheVariants as reopen
use Rattle.landscape.specs.Reopened.{OpensAs}
use Rattle.landscape.specs.Shown.{ShownAs}
use Rattle.landscape.specs.Working.{CameOrRefused}
use Rattle.report_text.specs.declared.reply.Reply.{Reply}
use Rattle.report_text.specs.declared.reply.Reply.TheVariants as reply
use Rattle.script_text.specs.declared.form.Form.{Form}
use Rattle.script_text.specs.declared.form.Form.TheVariants as form
use Rattle.unit_works.specs.Drained.{DrainedAs}
use Rattle.unit_works.specs.Wires.{after_add, letters_left, letters_said}
use Rattle.runs.specs.declared.answered.Answered.{Answered}
use Rattle.runs.specs.declared.halt.Halt.{Halt}
use Rattle.runs.specs.declared.halt.Halt.TheVariants as halt
use Rattle.runs.specs.declared.inputs.Inputs.{Inputs}
use Rattle.runs.specs.declared.stage.Stage.{Stage}
use Rattle.runs.specs.Remodels.{RemodelledAs}
use Rattle.runs.specs.Turns.{first_down}

-- ---- answers

-- a reply with nothing listed
abbrev pub plain : Reply → Result Answered Halt
plain its = Ok (record { reply = its; listing = None })

-- how a refusal is answered: by its number, or as the fault of a volume; with no memory there is no answer
abbrev pub refused_as : Refusal → Result Answered Halt
refused_as refusal.Volume = plain reply.Fault
refused_as refusal.OutOfMemory = Err halt.OutOfMemory
refused_as why = plain (reply.Refused why)

-- how a command is answered that was carried out, or refused
abbrev pub answer_of : {T : Type 0} → (T → Reply) → Result T Refusal → Result Answered Halt
answer_of shown (Ok done) = plain (shown done)
answer_of shown (Err why) = refused_as why

-- one more than a number of 64 bits, where it has 64 bits
abbrev pub one_more : ℕ → Option ℕ
one_more n = if n == 2 ^ 64 - 1 then None else Some (suc n)

-- how many lines a listing has; of a document the line of its control record counts too. None where the number has over 64 bits, which
-- no list comes to
abbrev pub count_of : Listing → Option ℕ
count_of (listing.Docs lines) = Some (length lines)
count_of (listing.Doc control lines) = one_more (length lines)
count_of (listing.History lines) = Some (length lines)
count_of (listing.Units lines) = Some (length lines)
count_of (listing.Queues lines) = Some (length lines)
count_of (listing.Objects lines) = Some (length lines)

-- how a listing of so many lines is answered
abbrev pub counted_as : Listing → Option ℕ → Result Answered Halt
counted_as lines (Some count) = Ok (record { reply = reply.Lines count; listing = Some lines })
counted_as lines None = Err halt.OutOfMemory

-- how a listing is answered
abbrev pub listed_as : Result Listing Refusal → Result Answered Halt
listed_as (Ok lines) = counted_as lines (count_of lines)
listed_as (Err why) = refused_as why

-- how a drain is answered
abbrev pub drained_as : Result ℕ OutOfMemory → Result Answered Halt
drained_as (Ok count) = plain (reply.Finished count)
drained_as (Err short) = Err halt.OutOfMemory

-- how the opening of a system is answered: 9 refuses where it is up; where its volume holds another log there is no answer
abbrev pub opened_as : {T : Type 0} → ℕ → Result T ReopenEnd → Result Answered Halt
opened_as system (Ok done) = plain reply.Carried
opened_as system (Err reopen.Refused) = refused_as refusal.N9
opened_as system (Err reopen.Volume) = plain reply.Fault
opened_as system (Err (reopen.Changed number)) = Err (halt.Changed system number)
opened_as system (Err reopen.OutOfMemory) = Err halt.OutOfMemory

-- it is told why a file says no model, or memory ran out for that
abbrev pub ToldUnread : Option (List ℕ) → Result Answered Halt → Type 0
ToldUnread words (Err halt.OutOfMemory) = ⊤
ToldUnread (Some words) (Ok answered) = plain (reply.Refused (refusal.N14 words)) ≡ Ok answered
ToldUnread words answer = ⊥

-- ---- what commands speak of

-- the document of a number, from 1; none where there is none
abbrev pub numbered : ℕ → List RawUnitDoc → Option RawUnitDoc
numbered number masters = if number == 0 then None else slice_get masters (number - 1)

-- a master is sent; 3 refuses where there is none
abbrev pub asked_master : Option RawUnitDoc → List Record → Asked
asked_master (Some master) log = asked_send log master
asked_master None log = Err refusal.N3

-- what is shown of a late request
abbrev pub shown_late : Late → Reply
shown_late late.New = reply.New
shown_late late.Known = reply.Known
shown_late late.SysFail = reply.SysFail
shown_late late.Down = reply.Down

abbrev pub shown_sent : Sent → Reply
shown_sent sent = reply.Sent sent.documents sent.units

abbrev pub shown_gathered : Gathered → Reply
shown_gathered made = reply.Gathered made.masters made.documents made.units

-- ---- what commands do

-- nothing is done to a landscape, or a crash leaves no more of it than of one call, and that is sound
abbrev pub IsOneCall : {V : Type 0} → Disk V → Stage V → Stage V → Type 0
IsOneCall disk before after = (after.landscape ≡ before.landscape) ⊎ LeavesSoundLogs disk before.landscape after.landscape

module _ {V : Type 0} (disk : Disk V) where
  -- a system carries a command out, by the record that it asks for, or refuses it; and the letters of units stay
  pub record Carries {T : Type 0} (before : Stage V) (answer : Result Answered Halt) (after : Stage V) (system : ℕ) (of : Record → Event) (asked : Asked)
      (answers : T → Type 0) (shown : T → Reply) : Type 0 where
    pub result : Result T Refusal
    pub carried : CarriedAs disk before.landscape after.landscape system of asked answers result
    pub answer_is : answer ≡ answer_of shown result
    pub letters : after.wires ≡ before.wires

  module _ (before : Stage V) (answer : Result Answered Halt) (after : Stage V) where
    -- something is listed, and nothing changes
    abbrev pub Shows : Show → Type 0
    Shows what = (result : Result Listing Refusal) × ShownAs before.landscape what result × (answer ≡ listed_as result) × (after ≡ before)

    -- a late request of a unit comes, or is refused; and the letters of units stay
    abbrev pub Lates : TidOf → Type 0
    Lates tid = (result : Result Late Refusal) × CameOrRefused disk before.landscape after.landscape tid result
        × (answer ≡ answer_of shown_late result) × (after.wires ≡ before.wires)

    -- letters are given to a unit, after those that it has; or memory ran out, and nothing changes
    abbrev pub Wired : TidOf → List ℕ → Result Answered Halt → Type 0
    Wired tid letters (Ok answered) =
        (answer ≡ plain reply.Carried) × (after.landscape ≡ before.landscape)
        × ((other : TidOf) → letters_left after.wires other ≡ after_add tid (letters_said letters) (letters_left before.wires) other)
    Wired tid letters (Err halt.OutOfMemory) = after ≡ before
    Wired tid letters (Err its) = ⊥

    -- a system that is up falls, with nothing to be found at its opening; 2 refuses where it is down, and nothing changes
    abbrev pub Crashes : ℕ → Type 0
    Crashes system =
        ((is_up before.landscape.world system ≡ true) × (answer ≡ plain reply.Carried) × (after.wires ≡ before.wires)
        × KeepsDisk before.landscape after.landscape
        × Happened (model_meaning before.landscape.world.rules.systems) disk before.landscape after.landscape (event.Fall system None))
        ⊎ ((is_up before.landscape.world system ≡ false) × (answer ≡ refused_as refusal.N2) × (after ≡ before))

    -- a system that is down is opened over its volume, or not; 9 refuses where it is up, and 1 where the landscape has none of its number;
    -- and the letters of units stay
    abbrev pub Opens : ℕ → Type 0
    Opens system =
        ((before.landscape.world.rules.systems < system) × (answer ≡ refused_as refusal.N1) × (after ≡ before))
        ⊎ ((result : Result (Unit {0}) ReopenEnd) × OpensAs disk before.landscape after.landscape system result × (answer ≡ opened_as system result)
        × (after.wires ≡ before.wires))

    -- the file says no model: it is told why, and nothing changes
    abbrev pub Unreads : Told → ℕ → ℕ → Type 0
    Unreads said failed failed_after = (why : ModelFileEnd) × EndsModelFile said (Rose failed failed_after) why × IsStillAt why failed failed_after
        × ToldUnread (words_of why) answer × (after ≡ before)

    -- this model comes into force at all systems, once no claim stands, for which no volume is called; and the letters of units stay
    abbrev pub IsBrought : List ℕ → Lists → Type 0
    IsBrought text new =
        (unclaimed : KeptOf ModelRules DocumentTables V)
        × Happened (model_meaning before.landscape.world.rules.systems) disk before.landscape unclaimed (event.Operator Revoke)
        × KeepsVolumes before.landscape unclaimed
        × (result : Result ℕ Refusal) × RemodelledAs disk text new unclaimed after.landscape result
        × (answer ≡ answer_of reply.Models result) × (after.wires ≡ before.wires)

    -- the file says a model, which does
    abbrev pub Brings : Told → ℕ → ℕ → Type 0
    Brings said failed failed_after =
        (text : List ℕ) × (new : Lists) × SaysModelFile said text new × (failed_after ≡ failed) × IsBrought text new

    -- the model is replaced by that of a file, which is read where all systems are up; else 2 refuses, and nothing changes. So many calls on
    -- the files had failed before and have failed after
    abbrev pub Remodels : Option ℕ → Told → ℕ → ℕ → Type 0
    Remodels (Some down) said failed failed_after = (answer ≡ refused_as refusal.N2) × (after ≡ before) × (failed_after ≡ failed)
    Remodels None said failed failed_after = Unreads said failed failed_after ⊎ Brings said failed failed_after

    -- units are shipped, executed and confirmed, until none is offered
    abbrev pub Drains : Type 0
    Drains = (result : Result ℕ OutOfMemory) × DrainedAs disk before.landscape before.wires after.landscape after.wires result
        × (answer ≡ drained_as result)

  module _ (inputs : Inputs) (before : Stage V) (answer : Result Answered Halt) (after : Stage V) where
    -- a command is for the system of a name; 1 refuses where there is none, and nothing changes
    abbrev pub At : Option ℕ → (ℕ → Type 0) → Type 0
    At (Some system) obeys = obeys system
    At None obeys = (answer ≡ refused_as refusal.N1) × (after ≡ before)

    abbrev pub named : List ℕ → (ℕ → Type 0) → Type 0
    named name = At (system_named name (arc_value inputs.model))

    -- what a record is asked for by a log, at a system
    abbrev pub Commits : {T : Type 0} → ℕ → (List Record → Asked) → (Asked → T → Type 0) → (T → Reply) → Type 0
    Commits system asked answers shown =
        Carries before answer after system (event.Commit system) (asked_at before.landscape.world system asked)
        (answers (asked_at before.landscape.world system asked)) shown

    abbrev pub Operates : {T : Type 0} → ℕ → (List Record → Asked) → (T → Type 0) → (T → Reply) → Type 0
    Operates system asked answers shown =
        Carries before answer after system (operator_event system) (asked_at before.landscape.world system asked) answers shown

    -- a queue is stopped or started: of the units for the system of a name, or of those that came in
    abbrev pub Queues : ℕ → Option ℕ → List ℕ → (Option ℕ → List ℕ → Record) → Type 0
    Queues system destination queue of =
        Operates {T = Unit {0}} system (λ log. asked_queue before.landscape.world.rules.systems system destination queue (of destination queue)) (λ done. ⊤)
        (λ done. reply.Carried)

    abbrev pub Leads : Option (List ℕ) → (Option ℕ → Type 0) → Type 0
    Leads None obeys = obeys None
    Leads (Some name) obeys = named name (λ destination. obeys (Some destination))

    -- what a command does, by what it asks for, that reads no file
    abbrev pub Does : Form → Type 0
    Does (form.Send sys number) = named sys (λ system. Commits system (asked_master (numbered number inputs.masters))
        (λ asked sent. sent ≡ sent_counts (counts_asked (log_of before.landscape.world system) asked)) shown_sent)
    Does (form.Put sys change) = named sys (λ system. Operates system (λ log. asked_put log change)
        (λ pointers. pointers ≡ pointers_noted (log_of before.landscape.world system) change) reply.Pointers)
    Does (form.Gather sys message) = named sys (λ system. Commits system (λ log. asked_gather log message)
        (λ asked made. made ≡ counts_asked (log_of before.landscape.world system) asked) shown_gathered)
    Does (form.Dispatch sys) = named sys (λ system. Commits system (λ log. asked_dispatch log)
        (λ asked units. units ≡ (counts_asked (log_of before.landscape.world system) asked).units) reply.Units)
    Does form.Drain = Drains before answer after
    Does (form.Wire tid letters) = Wired before answer after tid letters answer
    Does (form.Stop sys destination queue) = named sys (λ system. Leads destination (λ to. Queues system to queue stop_of))
    Does (form.Start sys destination queue) = named sys (λ system. Leads destination (λ to. Queues system to queue start_of))
    Does (form.Retry sys tid) = named sys (λ system. Operates {T = Unit {0}} system (asked_retry before.landscape.world.rules.systems system tid) (λ done. ⊤)
        (λ done. reply.Carried))
    Does (form.Late tid) = Lates before answer after tid
    Does (form.App sys doc) = named sys (λ system. Operates system (λ log. asked_app log doc.0)
        (λ status. status ≡ status_at after.landscape.world system doc.0) reply.Posted)
    Does (form.Repost sys doc) = named sys (λ system. Operates system (λ log. asked_repost log doc.0)
        (λ status. status ≡ status_at after.landscape.world system doc.0) reply.Posted)
    Does (form.Crash sys) = named sys (λ system. Crashes before answer after system)
    Does (form.Open sys) = named sys (λ system. Opens before answer after system)
    Does (form.Remodel file) = ⊥
    Does (form.ShowDocs sys) = named sys (λ system. Shows before answer after (show.Docs system))
    Does (form.ShowDoc sys doc) = named sys (λ system. Shows before answer after (show.Doc system doc))
    Does (form.ShowHistory sys way doc) = named sys (λ system. Shows before answer after (show.History system way doc))
    Does (form.ShowUnits sys) = named sys (λ system. Shows before answer after (show.Units system))
    Does (form.ShowQueues sys) = named sys (λ system. Shows before answer after (show.Queues system))
    Does (form.ShowObjects sys) = named sys (λ system. Shows before answer after (show.Objects system))

    -- how a command goes: a drain, and one that replaces the model, so that what a crash leaves at each moment after its first is sound; any
    -- other command as one call at most
    abbrev pub Goes : Form → Type 0
    Goes form.Drain = GoesSoundly disk before.landscape after.landscape
    Goes (form.Remodel file) = GoesSoundly disk before.landscape after.landscape
    Goes asked = IsOneCall disk before after

    module _ (told : List ℕ → Told) (failed failed_after : ℕ) where
      -- what a command does: one reads a file, and no other makes a call on the files
      abbrev pub Done : Form → Type 0
      Done (form.Remodel file) = Remodels before answer after (first_down before.landscape.world) (told file) failed failed_after
      Done asked = Does asked × (failed_after ≡ failed)

      -- a command does what it asks for, and goes so; and behind it the volumes hold all logs, with one moment for each record
      pub record IsCarriedOut (asked : Form) : Type 0 where
        pub does : Done asked
        pub calls : Goes asked
        pub on_volumes : AreOnVolumes disk after.landscape.vols after.landscape.world.systems after.landscape.journals
