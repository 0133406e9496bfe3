-- A record that is ready to be appended at a system, and how its appending ends.
use Rattle.std.specs.Prelude.{◌≡◌, ◌⊎◌, ℕ, Bool, true, Option, Some, Result, Ok, Err}
use Rattle.ale_volumes.specs.Disk.{Disk}
use Rattle.unit_codec.specs.Condition.{IsWritable}
use Rattle.unit_core.specs.declared.records.Record.{Record}
use Rattle.status_log.specs.declared.refusal.Refusal.{Refusal}
use Rattle.status_log.specs.declared.refusal.Refusal.TheVariants.{N2, N10, Volume, OutOfMemory}
use Rattle.trfc_protocol.specs.declared.event.Event.{Event}
use Rattle.trfc_protocol.specs.declared.world.World.{World}
use Rattle.trfc_protocol.specs.Legal.{is_commit, is_model}
use Rattle.trfc_protocol.specs.Worlds.{is_up, log_of}
use Rattle.unit_landscape.specs.declared.append_end.AppendEnd.{AppendEnd}
use Rattle.unit_landscape.specs.declared.append_end.AppendEnd.TheVariants as end
use Rattle.unit_landscape.specs.declared.answers.OperatorEnd.{OperatorEnd}
use Rattle.unit_landscape.specs.declared.answers.OperatorEnd.TheVariants as operator
use Rattle.unit_landscape.specs.KeptWorlds.{KeptOf}
use Rattle.unit_landscape.specs.Ends.{Happened, Failed, IsFull, Stays, FellBehind}
use Rattle.unit_landscape.specs.Appending.{at}
use Rattle.document_state.specs.declared.made.Made.{Made}
use Rattle.document_state.specs.declared.made.Made.TheVariants.{Nothing, Brought, Sent}
use Rattle.document_state.specs.Made.{GoesWith}
use Rattle.document_state.specs.declared.document_tables.DocumentTables.{DocumentTables}
use Rattle.document_state.specs.declared.model_rules.ModelRules.{ModelRules}
use Rattle.document_state.specs.Allowed.{allowed}
use Rattle.document_state.specs.Meaning.{model_meaning}
use Rattle.landscape.specs.declared.wanted.Brings.{Brings}
use Rattle.landscape.specs.declared.wanted.Changes.{Changes}
use Rattle.landscape.specs.declared.wanted.Commits.{Commits}
use Rattle.landscape.specs.Asked.{Asked}
use Rattle.landscape.specs.steps.Judged.{IsOrNone, JudgedAs, is_applications}

module _ (world : World ModelRules) (system : ℕ) where
  -- a record of a kind may follow the log of a system that is up, what was made goes with it, and it can be written
  pub record IsReady (kind : Record → Bool) (next : Record) (made : Made) : Type 0 where
    pub up : is_up world system ≡ true
    pub its_kind : kind next ≡ true
    pub may : allowed world.rules.systems (log_of world system) next ≡ true
    pub goes : GoesWith (log_of world system) next made
    pub writable : IsWritable next

  module _ (asked : Asked) where
    -- a record is asked for, and is ready
    pub record IsAsked (kind : Record → Bool) (next : Record) (made : Made) : Type 0 where
      pub record_asked : asked ≡ Ok (Some next)
      pub ready : IsReady kind next made

    -- documents are asked to be committed, and are ready
    abbrev pub AsksCommits : Commits → Type 0
    AsksCommits wanted = IsAsked is_commit wanted.next (Sent wanted.added)

    -- a change of the application is asked for, and is ready
    abbrev pub AsksChanges : Changes → Type 0
    AsksChanges wanted = IsAsked is_applications wanted.next Nothing

    -- a model is asked for, and is ready
    abbrev pub AsksModel : Brings → Type 0
    AsksModel wanted = IsAsked is_model wanted.next (Brought (Some wanted.model))

    -- a command that commits documents was judged as it asks
    abbrev pub ReadyCommits : Result Commits Refusal → Type 0
    ReadyCommits judged = JudgedAs AsksCommits asked judged

    -- the same of one that may ask for nothing
    abbrev pub ReadyCommitsOrNone : Result (Option Commits) Refusal → Type 0
    ReadyCommitsOrNone judged = JudgedAs (IsOrNone AsksCommits asked) asked judged

    -- the same of one that may bring a model
    abbrev pub ReadyModelOrNone : Result (Option Brings) Refusal → Type 0
    ReadyModelOrNone judged = JudgedAs (IsOrNone AsksModel asked) asked judged

    -- the same of one that changes the application
    abbrev pub ReadyChanges : Result Changes Refusal → Type 0
    ReadyChanges judged = JudgedAs AsksChanges asked judged

-- why a command is refused whose record was not appended, or its system is down although it was
abbrev pub ended_of : {T : Type 0} → Result T AppendEnd → Result T Refusal
ended_of (Ok done) = Ok done
ended_of (Err end.Volume) = Err Volume
ended_of (Err (end.Full size)) = Err (N10 size)
ended_of (Err end.Before) = Err OutOfMemory
ended_of (Err end.After) = Err OutOfMemory

-- why an operator is refused, by why his record was not appended; where it may not be, this refusal comes
abbrev pub refused_of : {T : Type 0} → Refusal → Result T OperatorEnd → Result T Refusal
refused_of not_allowed (Ok done) = Ok done
refused_of not_allowed (Err operator.Down) = Err N2
refused_of not_allowed (Err operator.NotAllowed) = Err not_allowed
refused_of not_allowed (Err (operator.Full size)) = Err (N10 size)
refused_of not_allowed (Err operator.Volume) = Err Volume
refused_of not_allowed (Err operator.OutOfMemory) = Err OutOfMemory

module _ {V : Type 0} (disk : Disk V) (before after : KeptOf ModelRules DocumentTables V) (system : ℕ) (event : Record → Event) where
  -- how a record was not appended, or its system fell behind it
  abbrev pub FailedAs : Record → Refusal → Type 0
  FailedAs next Volume = Failed (model_meaning before.world.rules.systems) disk before after (at system next)
  FailedAs next (N10 size) = IsFull (model_meaning before.world.rules.systems) disk before after (at system next) size
  FailedAs next OutOfMemory =
      Stays (model_meaning before.world.rules.systems) disk before after
      ⊎ FellBehind (model_meaning before.world.rules.systems) disk before after (event next) (at system next)
  FailedAs next refusal = ⊥

  -- the record of a command was appended for its event, or how else it ended
  abbrev pub EndedAs : {T : Type 0} → Record → Result T Refusal → Type 0
  EndedAs next (Ok done) = Happened (model_meaning before.world.rules.systems) disk before after (event next)
  EndedAs next (Err why) = FailedAs next why
