-- How `run` ends whose files were read: the systems are opened over the volumes, the commands are carried out, and the text of each is
-- put. This project's own.
use Rattle.std.specs.Prelude.{◌≡◌, ◌⊎◌, ⊤, ℕ, ◌-◌, ◌≤◌, List, [], ◌∷◌, ◌++◌, Some, Ok, length, map, codes}
use Rattle.std.specs.Arc.{arc_value}
use Rattle.ale_base.specs.Tid.{TidOf}
use Rattle.ale_io.specs.Told.{Told, IsFileWithin}
use Rattle.ale_volumes.specs.Disk.{Disk}
use Rattle.idoc_file.specs.declared.raw_doc.RawDoc.{RawDoc}
use Rattle.dist_model.specs.declared.lists.Lists.{Lists}
use Rattle.model_text.specs.declared.reading.TheConstants as text_limit
use Rattle.model_text.specs.Text.{answer_to}
use Rattle.script_text.specs.declared.command.Command.{Command}
use Rattle.unit_core.specs.declared.raw_unit_doc.RawUnitDoc.{RawUnitDoc}
use Rattle.dist_model.specs.Named.{system_name}
use Rattle.document_state.specs.declared.document_tables.DocumentTables.{DocumentTables}
use Rattle.document_state.specs.declared.model_rules.ModelRules.{ModelRules}
use Rattle.document_state.specs.Meaning.{model_meaning}
use Rattle.unit_landscape.specs.KeptWorlds.{KeptOf}
use Rattle.unit_landscape.specs.OnVolumes.{AreOnVolumes}
use Rattle.unit_landscape.specs.Causes.{AreCausesOf}
use Rattle.unit_landscape.specs.Kept.{IsLandscape}
use Rattle.landscape.specs.declared.open_end.OpenWhy.{OpenWhy}
use Rattle.landscape.specs.declared.open_end.OpenWhy.TheVariants as open_why
use Rattle.landscape.specs.declared.counts.Counts.{Counts}
use Rattle.landscape.specs.Counted.{held_by}
use Rattle.landscape.specs.Crashes.{OpeningLeavesOpenable}
use Rattle.landscape.specs.Opened.{EndedByFault, HasOpened, HoldSoundLogs, LeavesOpening, MayBegin, NoneFailed, WhyEnded, bytes_in}
use Rattle.status_log.specs.declared.cause.Cause.TheVariants as cause
use Rattle.report_text.specs.declared.faults.FaultLine.TheVariants as last
use Rattle.report_text.specs.FaultLine.{fault_line}
use Rattle.runs.specs.declared.inputs.Inputs.{Inputs}
use Rattle.runs.specs.declared.run_end.RunEnd.{RunEnd}
use Rattle.runs.specs.declared.run_end.RunEnd.TheVariants as end
use Rattle.runs.specs.declared.stage.Stage.{Stage}
use Rattle.runs.specs.Complete.{AllGoThrough}
use Rattle.runs.specs.Run.{AreAsked, Run}
use Rattle.runs.specs.Turns.{Turn, text_of}
use Rattle.unit_works.specs.Through.{IsClear}
use Rattle.unit_works.specs.Wires.{letters_left}
use Rattle.ale_host.specs.LoadModel.{load_model}
use Rattle.ale_host.specs.Refusals.{refusal_of}
use Rattle.ale_host.specs.declared.running.Report.{Report}
use Rattle.ale_host.specs.declared.running.Report.TheVariants as report
use Rattle.ale_host.specs.declared.words.Form.TheVariants.{Load, Run as RunForm}
use Rattle.ale_host.specs.Inputs.{SaysDocuments, SaysScript}
use Rattle.ale_host.specs.Loading.{LoadSays, load_line}
use Rattle.ale_host.specs.Words.{form_of, documents_file, model_file, script_file}

-- the files of a run say this, as far as they are told: a model, with the text that says it, documents, and commands
pub record Say (told : List ℕ → Told) (model_name documents_name script_name : List ℕ) (text : List ℕ) (model : Lists) (documents : List RawDoc)
    (commands : List Command) : Type 0 where
  pub in_file : IsFileWithin text_limit.MAX_BYTES (told model_name) text
  pub says_model : answer_to text ≡ Ok model
  pub says_documents : SaysDocuments (told documents_name) documents
  pub says_script : SaysScript (told script_name) commands

-- the words ask for this to be carried out, and for such a report: a run of what its files say, or a load
abbrev pub AskFor : List (List ℕ) → (List ℕ → Told) → Report → List ℕ → Lists → List RawDoc → List Command → Type 0
AskFor words told report.Commands text model documents commands =
    (form_of words ≡ Some RunForm) × Say told (model_file words) (documents_file words) (script_file words) text model documents commands
AskFor words told report.Counts text model documents commands =
    (masters : ℕ) × (form_of words ≡ Some (Load masters)) × (text ≡ load_model) × LoadSays masters model documents commands

-- the masters of a run: the documents of its document file
abbrev pub masters_of : List RawDoc → List RawUnitDoc
masters_of documents = map (λ (document : RawDoc). record { control = document.control; segments = document.segments }) documents

-- ---- status and last line

abbrev pub short_line : List ℕ
short_line = codes "out of memory\n"

-- The exit status where the systems were not opened, and what is printed: where journals are refused memory may be wanting for the line,
-- which names a system.
abbrev pub EndsUnopened : Lists → OpenWhy → ℕ → List ℕ → Type 0
EndsUnopened model open_why.Volume status line = (status ≡ 8) × (line ≡ fault_line last.Volumes)
EndsUnopened model (open_why.Refused refused) status line =
    ((status ≡ 7) × (line ≡ fault_line (refusal_of model refused))) ⊎ ((status ≡ 9) × (line ≡ short_line))
EndsUnopened model open_why.OutOfMemory status line = (status ≡ 9) × (line ≡ short_line)

-- the exit status at the end of a run
abbrev pub status_at : RunEnd → ℕ
status_at end.Whole = 0
status_at (end.DownByFault system) = 11
status_at (end.DownFull system size) = 12
status_at (end.Changed system number) = 7
status_at end.WriteFailed = 6
status_at end.OutOfMemory = 9

-- the line that is due at the end of a run
abbrev pub IsLine : Lists → RunEnd → List ℕ → Type 0
IsLine model end.Whole line = line ≡ []
IsLine model (end.DownByFault system) line = line ≡ fault_line (last.DownByFault (system_name model system))
IsLine model (end.DownFull system size) line = line ≡ fault_line (last.DownFull (system_name model system) size)
IsLine model (end.Changed system number) line = line ≡ fault_line (last.Journals (system_name model system) number cause.Changed)
IsLine model end.WriteFailed line = line ≡ []
IsLine model end.OutOfMemory line = line ≡ short_line

-- memory may be wanting for the line of an ending that names a system
abbrev pub MayBeShort : RunEnd → Type 0
MayBeShort (end.DownByFault system) = ⊤
MayBeShort (end.DownFull system size) = ⊤
MayBeShort (end.Changed system number) = ⊤
MayBeShort its = ⊥

-- the status of an ending and its line are these; or memory was wanting for the line
abbrev pub EndsWith : Lists → RunEnd → ℕ → List ℕ → Type 0
EndsWith model its status line =
    ((status ≡ status_at its) × IsLine model its line) ⊎ (MayBeShort its × (status ≡ 9) × (line ≡ short_line))

-- the status of a load that did all that it asks for, and the line that reports these counts; or memory was wanting for the line
abbrev pub IsCountLine : Counts → ℕ → List ℕ → Type 0
IsCountLine counts status line = ((status ≡ 0) × (line ≡ load_line counts)) ⊎ ((status ≡ 9) × (line ≡ short_line))

-- the same of a load, which reports these counts where it did all that it asks for; of its commands nothing is put, so no such put fails
abbrev pub EndsCounting : Counts → Lists → RunEnd → ℕ → List ℕ → Type 0
EndsCounting counts model end.Whole status line = IsCountLine counts status line
EndsCounting counts model end.WriteFailed status line = ⊥
EndsCounting counts model its status line = EndsWith model its status line

-- The status of an ending and its line are these, by what is reported. Of a load that did all that it asks for the line is the report, for
-- which memory may be wanting.
abbrev pub EndsReporting : {V : Type 0} → Report → Stage V → Lists → RunEnd → ℕ → List ℕ → Type 0
EndsReporting report.Commands left model its status line = EndsWith model its status line
EndsReporting report.Counts left model its status line = EndsCounting (held_by left.landscape.world) model its status line

-- the text of the turns, where it is reported
abbrev pub reported : {V : Type 0} → Report → List (Turn V) → List ℕ
reported report.Commands turns = text_of turns
reported report.Counts turns = []

-- what was put whole wherever a write failed: the text of each turn but the last, where that was not taken, and else of all
abbrev pub IsSure : {V : Type 0} → RunEnd → List (Turn V) → List ℕ → Type 0
IsSure {V} end.WriteFailed turns sure = (done : List (Turn V)) × ((last : Turn V) × (turns ≡ done ++ last ∷ []) × (sure ≡ text_of done))
IsSure its turns sure = sure ≡ text_of turns

-- the same by what is reported: of a load nothing is
abbrev pub IsSureOf : {V : Type 0} → Report → RunEnd → List (Turn V) → List ℕ → Type 0
IsSureOf report.Commands its turns sure = IsSure its turns sure
IsSureOf report.Counts its turns sure = sure ≡ []

-- ---- the run

-- Commands were carried out from systems that had begun, over files of which so many calls had failed before and have failed after. The report is
-- that of the turns, or of a load that of the logs that it leaves;
-- the volumes hold the logs that the last turn left, these are safe, and a system is down exactly where its cause says so.
pub record RanFrom {V : Type 0} (disk : Disk V) (report : Report) (model : Lists) (inputs : Inputs) (told : List ℕ → Told) (commands : List Command)
    (begun : KeptOf ModelRules DocumentTables V) (after : V) (failed failed_after : ℕ)
    (clock : Type 0) (given given_after : List ℕ) (status : ℕ) (printed sure : List ℕ) : Type 0 where
  pub first : Stage V
  pub begins : first.landscape ≡ begun
  pub no_letters : (tid : TidOf) → letters_left first.wires tid ≡ []
  pub turns : List (Turn V)
  pub its_end : RunEnd
  pub left : Stage V
  pub run : Run disk inputs told commands first left failed failed_after its_end turns
  pub line : List ℕ
  pub ends : EndsReporting report left model its_end status line
  pub printed_is : printed ≡ reported report turns ++ line
  pub sure_is : IsSureOf report its_end turns sure
  pub volumes : after ≡ left.landscape.vols
  pub safe : IsLandscape (λ (rules : ModelRules). model_meaning rules.systems) left.landscape.world
  pub on_volumes : AreOnVolumes disk left.landscape.vols left.landscape.world.systems left.landscape.journals
  pub causes : AreCausesOf left.landscape.world.systems left.landscape.causes
  pub asked : AreAsked clock given given_after turns run.halted

-- Whatever a crash leaves of the volumes of so many systems, at any one moment since they were opened, holds sound logs of the text, and so does
-- what a read gives of them now: an opening with that text does not refuse it.
pub record KeepsSoundLogs {V : Type 0} (disk : Disk V) (many : ℕ) (text : List ℕ) (begun : KeptOf ModelRules DocumentTables V) (after : V) : Type 0 where
  pub since : disk.told → (moment : ℕ) → disk.moment begun.vols ≤ moment → moment ≤ disk.moment after → (images : ℕ → List ℕ)
      → ((system : ℕ) → 1 ≤ system → system ≤ many → disk.left_at after (system - 1) moment (images system))
      → HoldSoundLogs many text images
  pub now : disk.told → HoldSoundLogs many text (bytes_in disk after)

module _ {V : Type 0} (disk : Disk V) (text : List ℕ) (model : Lists) (masters : List RawUnitDoc) (commands : List Command) (before after : V) where
  abbrev many : ℕ
  many = length model.systems

  -- the systems were not opened; volumes that hold sound logs of these systems and of this text are not refused
  pub record NotOpened (moment : ℕ) (why : OpenWhy) : Type 0 where
    pub whys : WhyEnded disk many text (Some moment) before after why
    pub faulted : EndedByFault disk many text before after why
    pub left : disk.told → LeavesOpening disk many text (Some moment) before after (MayBegin why × HoldSoundLogs many text (bytes_in disk before)) ⊤
    pub opens : OpeningLeavesOpenable disk many text before after
    pub judged : disk.told → HoldSoundLogs many text (bytes_in disk before) → MayBegin why

  -- The systems were opened: all are up, and the log of each is the one that its volume held, or, where that was empty, its Genesis. These
  -- logs are legal and keep the exactly-once law.
  pub record Opened (moment : ℕ) (begun : KeptOf ModelRules DocumentTables V) : Type 0 where
    pub world : HasOpened disk many text (Some moment) before begun
    pub still : NoneFailed disk before begun.vols
    pub left : disk.told → LeavesOpening disk many text (Some moment) before begun.vols (⊤ × HoldSoundLogs many text (bytes_in disk before)) ⊥
    pub opens : OpeningLeavesOpenable disk many text before begun.vols

  module _ (report : Report) (told : List ℕ → Told) (failed failed_after : ℕ) (clock : Type 0) (given given_after : List ℕ) (status : ℕ)
      (printed sure : List ℕ) where
    -- the systems were not opened, and no command was carried out
    pub record Unopened : Type 0 where
      pub moment : ℕ
      pub why : OpenWhy
      pub not_opened : NotOpened moment why
      pub ends : EndsUnopened model why status printed
      pub sure_is : sure ≡ []
      pub files : failed_after ≡ failed
      pub asked : clock → given_after ≡ given ++ moment ∷ []

    -- The systems were opened, and the commands carried out; the volumes hold sound logs of the text all along. Where no queue was stopped at
    -- the start and no unit marked, each unit that was committed, in this run or before it, went its whole way behind each drain up to which no
    -- command stops a queue, gives letters or crashes a system, all systems are up, and receivers offer the functions of all units.
    pub record Ran : Type 0 where
      pub moment : ℕ
      pub begun : KeptOf ModelRules DocumentTables V
      pub opened : Opened moment begun
      pub inputs : Inputs
      pub names : arc_value inputs.model ≡ model
      pub masters_are : inputs.masters ≡ masters
      pub given_then : List ℕ
      pub asked : clock → given_then ≡ given ++ moment ∷ []
      pub from : RanFrom disk report model inputs told commands begun after failed failed_after clock given_then given_after status printed sure
      pub keeps : KeepsSoundLogs disk many text begun after
      pub complete : IsClear begun.world → AllGoThrough from.turns

    -- what became of a run
    abbrev pub RunsTo : Type 0
    RunsTo = Unopened ⊎ Ran
