-- What `run` reads: a model, documents and a script, each from a file of its own, in this order. The first file that is not
-- read, or says nothing that is built on, ends the run.
use Rattle.std.specs.Prelude.{◌≡◌, ◌≢◌, ℕ, ◌⊎◌, List, Ok, Err, ⊤}
use Rattle.ale_io.specs.Told.{Told, MayLack, IsFileWithin, IsFileOver}
use Rattle.ale_io.specs.declared.file_end.FileEnd.{FileEnd}
use Rattle.ale_io.specs.declared.file_end.FileEnd.TheVariants as file_end
use Rattle.ale_base.specs.Lines.{lines_of}
use Rattle.idoc_file.specs.declared.raw_doc.RawDoc.{RawDoc}
use Rattle.idoc_file.specs.declared.reader.TheConstants.Reader.{MOST_BYTES}
use Rattle.idoc_file.specs.DocumentFile.{AreDocuments, IsFirstBad}
use Rattle.dist_model.specs.declared.lists.Lists.{Lists}
use Rattle.model_text.specs.declared.reading.TheConstants as model
use Rattle.model_files.specs.declared.end.ModelFileEnd.{ModelFileEnd}
use Rattle.model_files.specs.declared.end.ModelFileEnd.TheVariants as model_end
use Rattle.model_files.specs.ModelFile.{SaysModelFile, SaysNoModel}
use Rattle.script_text.specs.declared.command.Command.{Command}
use Rattle.script_text.specs.declared.fault.ScriptFault.TheVariants as script_fault
use Rattle.script_text.specs.declared.script.TheConstants as script
use Rattle.script_text.specs.Script.{script_of}
use Rattle.ale_host.specs.declared.ending.NotRead.{NotRead}
use Rattle.ale_host.specs.declared.ending.NotRead.TheVariants.{Missing, TooLong, Failed}
use Rattle.ale_host.specs.declared.ending.Ending.{Ending}
use Rattle.ale_host.specs.declared.ending.Ending.TheVariants as ending

-- why a file of this limit is not read; faults is that a fault of the files came in this call
abbrev pub EndsUnread : ℕ → Told → Type 0 → NotRead → Type 0
EndsUnread most told faults Missing = MayLack told
EndsUnread most told faults TooLong = IsFileOver most told
EndsUnread most told faults Failed = faults

-- a file of this name and limit is not read
abbrev pub IsUnread : ℕ → List ℕ → Told → Type 0 → List ℕ → NotRead → Type 0
IsUnread most name told faults its_name why = (its_name ≡ name) × EndsUnread most told faults why

-- the file says this model
abbrev pub SaysLists : Told → Lists → Type 0
SaysLists told lists = (text : List ℕ) × SaysModelFile told text lists

-- the run ends at the file of the model
abbrev pub StopsAtModel : List ℕ → Told → Type 0 → Ending → Type 0
StopsAtModel name told faults (ending.Unread its_name why) = IsUnread model.MAX_BYTES name told faults its_name why
StopsAtModel name told faults (ending.ModelRefused fault) = SaysNoModel told fault
StopsAtModel name told faults ending.OutOfMemory = ⊤
StopsAtModel name told faults _ = ⊥

-- the file says these documents
abbrev pub SaysDocuments : Told → List RawDoc → Type 0
SaysDocuments told documents = (bytes : List ℕ) × IsFileWithin MOST_BYTES told bytes × AreDocuments (lines_of bytes) documents

-- the run ends at the file of the documents
abbrev pub StopsAtDocuments : List ℕ → Told → Type 0 → Ending → Type 0
StopsAtDocuments name told faults (ending.Unread its_name why) = IsUnread MOST_BYTES name told faults its_name why
StopsAtDocuments name told faults (ending.Refused fault) = (bytes : List ℕ) × IsFileWithin MOST_BYTES told bytes × IsFirstBad (lines_of bytes) fault
StopsAtDocuments name told faults ending.OutOfMemory = ⊤
StopsAtDocuments name told faults _ = ⊥

-- the file says these commands
abbrev pub SaysScript : Told → List Command → Type 0
SaysScript told commands = (bytes : List ℕ) × IsFileWithin script.MAX_BYTES told bytes × (script_of bytes ≡ Ok commands)

-- the run ends at the file of the script
abbrev pub StopsAtScript : List ℕ → Told → Type 0 → Ending → Type 0
StopsAtScript name told faults (ending.Unread its_name why) = IsUnread script.MAX_BYTES name told faults its_name why
StopsAtScript name told faults (ending.ScriptRefused fault) = (fault ≢ script_fault.OutOfMemory)
    × ((bytes : List ℕ) × IsFileWithin script.MAX_BYTES told bytes × (script_of bytes ≡ Err fault))
StopsAtScript name told faults ending.OutOfMemory = ⊤
StopsAtScript name told faults _ = ⊥

-- why `run` ends at one of its files whose model and documents were read
abbrev pub EndsBehindDocuments : (List ℕ → Told) → Type 0 → List ℕ → Ending → Type 0
EndsBehindDocuments told faults script end = StopsAtScript script (told script) faults end

-- why `run` ends at one of its files whose model was read
abbrev pub EndsBehindModel : (List ℕ → Told) → Type 0 → List ℕ → List ℕ → Ending → Type 0
EndsBehindModel told faults documents script end =
    StopsAtDocuments documents (told documents) faults end ⊎
    ((all : List RawDoc) × SaysDocuments (told documents) all × EndsBehindDocuments told faults script end)

-- why `run` of files of these names ends at one of them: the first in order that stops it
abbrev pub EndsRun : (List ℕ → Told) → Type 0 → List ℕ → List ℕ → List ℕ → Ending → Type 0
EndsRun told faults model documents script end =
    StopsAtModel model (told model) faults end ⊎ ((lists : Lists) × SaysLists (told model) lists × EndsBehindModel told faults documents script end)

-- ---- what only private functions cite

-- such a file ends the run, or memory ran out
abbrev pub IsUnreadEnd : ℕ → List ℕ → Told → Type 0 → Ending → Type 0
IsUnreadEnd most name told faults (ending.Unread its_name why) = IsUnread most name told faults its_name why
IsUnreadEnd most name told faults ending.OutOfMemory = ⊤
IsUnreadEnd most name told faults _ = ⊥

-- the ending is that of a file of this name that was not read for this cause, or memory ran out
abbrev pub IsUnreadBecause : List ℕ → NotRead → Ending → Type 0
IsUnreadBecause name why (ending.Unread its_name its_why) = (its_name ≡ name) × (its_why ≡ why)
IsUnreadBecause name why ending.OutOfMemory = ⊤
IsUnreadBecause name why _ = ⊥

-- the same of the answer of a read
abbrev pub IsUnreadSo : List ℕ → FileEnd → Ending → Type 0
IsUnreadSo name file_end.Missing end = IsUnreadBecause name Missing end
IsUnreadSo name file_end.TooLong end = IsUnreadBecause name TooLong end
IsUnreadSo name file_end.Failed end = IsUnreadBecause name Failed end
IsUnreadSo name file_end.OutOfMemory end = end ≡ ending.OutOfMemory

-- the same of the answer of a read of a model
abbrev pub IsNoModelSo : List ℕ → ModelFileEnd → Ending → Type 0
IsNoModelSo name model_end.Missing end = IsUnreadBecause name Missing end
IsNoModelSo name model_end.TooLong end = IsUnreadBecause name TooLong end
IsNoModelSo name model_end.Failed end = IsUnreadBecause name Failed end
IsNoModelSo name (model_end.Refused fault) end = end ≡ ending.ModelRefused fault
IsNoModelSo name model_end.OutOfMemory end = end ≡ ending.OutOfMemory
