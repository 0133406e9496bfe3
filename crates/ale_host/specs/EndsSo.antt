-- What the program does for its words, from the files that it reads to the text that it puts and the volumes that it leaves.
use Rattle.std.specs.Prelude.{◌≡◌, ◌⊎◌, ℕ, ◌≤◌, List, [], Option, length, take}
use Rattle.std.specs.Io.KnownBytes.{Appends}
use Rattle.ale_volumes.specs.Disk.{Disk}
use Rattle.ale_base.specs.Faults.{Rose}
use Rattle.ale_io.specs.Told.{Told}
use Rattle.idoc_file.specs.declared.raw_doc.RawDoc.{RawDoc}
use Rattle.dist_model.specs.declared.lists.Lists.{Lists}
use Rattle.script_text.specs.declared.command.Command.{Command}
use Rattle.ale_host.specs.declared.ending.Ending.{Ending}
use Rattle.ale_host.specs.declared.running.Report.{Report}
use Rattle.ale_host.specs.Ending.{Ends, IsQuiet, status_of, text_of}
use Rattle.ale_host.specs.Running.{AskFor, RunsTo, masters_of}

-- a write failed: a front of a text was put, and of that at least a front that is sure
pub record IsFront (before after : Option (List ℕ)) (faults faults_after : ℕ) (printed sure : List ℕ) : Type 0 where
  pub count : ℕ
  pub least : length sure ≤ count
  pub appends : Appends before after (take count printed)
  pub rose : Rose faults faults_after

module _ {V : Type 0} (disk : Disk V) (words : List (List ℕ)) (told : List ℕ → Told) (files files_after : ℕ) (before after : V) (clock : Type 0)
    (given given_after : List ℕ)
    (status : ℕ) (printed sure : List ℕ) where
  -- the words, or a file, or want of memory, end it before a system is opened: the volumes and the clock are as before
  pub record EndsEarly : Type 0 where
    pub ending : Ending
    pub ends : Ends words told (Rose files files_after) ending
    pub quiet : IsQuiet ending files files_after
    pub status_is : status ≡ status_of ending
    pub printed_is : printed ≡ text_of ending
    pub sure_is : sure ≡ []
    pub volumes : after ≡ before
    pub asked : given_after ≡ given

  -- a run whose files were read, or a load
  pub record EndsAsRun : Type 0 where
    pub report : Report
    pub text : List ℕ
    pub model : Lists
    pub documents : List RawDoc
    pub commands : List Command
    pub asks : AskFor words told report text model documents commands
    pub runs : RunsTo disk text model (masters_of documents) commands before after report told files files_after clock given given_after status printed sure

  -- what became of these words
  abbrev pub EndsSo : Type 0
  EndsSo = EndsEarly ⊎ EndsAsRun
