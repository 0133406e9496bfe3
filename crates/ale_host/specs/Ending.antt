-- How a call ends that is no run: why it ends so, with which status, and what it prints.
use Rattle.std.specs.Prelude.{◌≡◌, ℕ, ◌≤◌, ◌⊎◌, List, ◌++◌, length, codes, Some, None, ⊤}
use Rattle.std.specs.Fmt.{decimal}
use Rattle.ale_io.specs.Told.{Told, IsFileWithin}
use Rattle.ale_host.specs.declared.words.Form.TheVariants.{Pass, Run, Load}
use Rattle.model_text.specs.declared.fault.ModelFault.{ModelFault}
use Rattle.model_text.specs.Words.{fault_words}
use Rattle.script_text.specs.declared.fault.ScriptFault.{ScriptFault}
use Rattle.script_text.specs.declared.fault.ScriptFault.TheVariants as script_fault
use Rattle.ale_host.specs.declared.ending.NotRead.{NotRead}
use Rattle.ale_host.specs.declared.ending.NotRead.TheVariants.{Missing, TooLong, Failed}
use Rattle.ale_host.specs.declared.ending.Ending.{Ending}
use Rattle.ale_host.specs.declared.ending.Ending.TheVariants as ending
use Rattle.idoc_record.specs.ControlField.{name_of}
use Rattle.idoc_record.specs.declared.fault.RecordFault.{RecordFault}
use Rattle.idoc_record.specs.declared.fault.RecordFault.TheVariants as record_fault
use Rattle.idoc_file.specs.declared.file_fault.FileFault.{FileFault}
use Rattle.idoc_file.specs.declared.file_fault.FileFault.TheVariants as file_fault
use Rattle.idoc_file.specs.declared.file_fault.Quantity.{Quantity}
use Rattle.idoc_file.specs.declared.file_fault.Quantity.TheVariants.{Documents, Records, Segments}
use Rattle.idoc_file.specs.declared.reader.TheConstants.Reader.{MOST_BYTES}
use Rattle.idoc_file.specs.declared.documents.TheConstants.{MAX_DOCUMENTS}
use Rattle.ale_base.specs.Lines.{lines_of}
use Rattle.idoc_file.specs.DocumentFile.{AreDocuments, IsFirstBad}
use Rattle.ale_host.specs.Inputs.{EndsRun, IsUnread}
use Rattle.ale_host.specs.Words.{form_of, document_file, documents_file, model_file, script_file}
use Rattle.ale_host.specs.Loading.{EndsLoad}
use Rattle.ale_host.specs.PassText.{pass_text}

-- as far as it is told, the document file has these bytes, within the limit
abbrev pub IsFile : Told → List ℕ → Type 0
IsFile told bytes = IsFileWithin MOST_BYTES told bytes

-- why `pass` over a file of these bytes ends so
abbrev pub EndsFile : List ℕ → Ending → Type 0
EndsFile bytes (ending.Passed documents) = AreDocuments (lines_of bytes) documents
EndsFile bytes (ending.Refused fault) = IsFirstBad (lines_of bytes) fault
EndsFile bytes _ = ⊥

-- why `pass` over the file of this name ends so
abbrev pub EndsPass : List ℕ → Told → Type 0 → Ending → Type 0
EndsPass name told faults (ending.Unread its_name why) = IsUnread MOST_BYTES name told faults its_name why
EndsPass name told faults end = (bytes : List ℕ) × IsFile told bytes × EndsFile bytes end

-- why these words end so: they are no `run` whose files were all read, and no `load` whose texts were
abbrev pub Ends : List (List ℕ) → (List ℕ → Told) → Type 0 → Ending → Type 0
Ends words told faults ending.Usage = form_of words ≡ None
Ends words told faults ending.OutOfMemory = ⊤
Ends words told faults end =
    ((form_of words ≡ Some Pass) × EndsPass (document_file words) (told (document_file words)) faults end)
    ⊎ ((form_of words ≡ Some Run) × EndsRun told faults (model_file words) (documents_file words) (script_file words) end)
    ⊎ ((masters : ℕ) × (form_of words ≡ Some (Load masters)) × EndsLoad masters end)

-- the exit status where a document file has this fault: that of a limit, or that of a bad line. No file has want of memory
-- for a fault
abbrev pub fault_status : FileFault → ℕ
fault_status (file_fault.TooMany line quantity) = 10
fault_status file_fault.OutOfMemory = 9
fault_status _ = 3

-- the exit status where a script has this fault: that of a limit, or that of a line that is no command. No script has want
-- of memory for a fault
abbrev pub script_status : ScriptFault → ℕ
script_status (script_fault.Line line) = 4
script_status (script_fault.TooMany line) = 10
script_status script_fault.OutOfMemory = 9

-- the exit status of an ending, where no write failed
abbrev pub status_of : Ending → ℕ
status_of (ending.Passed documents) = 0
status_of ending.Usage = 1
status_of (ending.ModelRefused fault) = 2
status_of (ending.Refused fault) = fault_status fault
status_of (ending.ScriptRefused fault) = script_status fault
status_of (ending.Unread name why) = 5
status_of ending.OutOfMemory = 9

-- why a file was not read, as it is printed
abbrev pub shown_reason : NotRead → List ℕ
shown_reason Missing = codes "missing\n"
shown_reason TooLong = codes "too long\n"
shown_reason Failed = codes "fault\n"

-- why a line is no record, as it is printed
abbrev pub shown_record_fault : RecordFault → List ℕ
shown_record_fault (record_fault.TooLong n) = codes "TooLong " ++ decimal n
shown_record_fault record_fault.WrongTable = codes "WrongTable"
shown_record_fault (record_fault.BadNumber field) = codes "BadNumber " ++ name_of field
shown_record_fault record_fault.OutOfMemory = codes "OutOfMemory"

-- the line of a bad line and its fault
abbrev pub shown_fault : ℕ → List ℕ → List ℕ
shown_fault line fault = codes "documents refused: " ++ (decimal line ++ (codes " " ++ (fault ++ codes "\n")))

-- the line of a limit, with the count that passed it
abbrev pub shown_quantity : Quantity → List ℕ
shown_quantity Documents = codes "limit: documents 4097\n"
shown_quantity Records = codes "limit: records 1000001\n"
shown_quantity Segments = codes "limit: segments 10001\n"

-- what is printed where a document file has this fault
abbrev pub fault_text : FileFault → List ℕ
fault_text (file_fault.LineTooLong line) = shown_fault line (codes "LineTooLong")
fault_text (file_fault.NoControl line) = shown_fault line (codes "NoControl")
fault_text (file_fault.Record line fault) = shown_fault line (shown_record_fault fault)
fault_text (file_fault.TooMany line quantity) = shown_quantity quantity
fault_text file_fault.OutOfMemory = codes "out of memory\n"

-- the line of a model that is refused
abbrev pub model_text : ModelFault → List ℕ
model_text fault = codes "model refused: " ++ (fault_words fault ++ codes "\n")

-- the line of a script that is refused, or of its limit
abbrev pub script_text : ScriptFault → List ℕ
script_text (script_fault.Line line) = codes "script refused: " ++ (decimal line ++ codes "\n")
script_text (script_fault.TooMany line) = codes "limit: lines 100001\n"
script_text script_fault.OutOfMemory = codes "out of memory\n"

-- what is printed at an ending
abbrev pub text_of : Ending → List ℕ
text_of (ending.Passed documents) = pass_text documents
text_of ending.Usage = codes "usage: aleflow run MODEL DOCS SCRIPT WORKERS, pass DOCS, load N WORKERS\n"
text_of (ending.ModelRefused fault) = model_text fault
text_of (ending.Refused fault) = fault_text fault
text_of (ending.ScriptRefused fault) = script_text fault
text_of (ending.Unread name why) = codes "cannot read " ++ (name ++ (codes ": " ++ shown_reason why))
text_of ending.OutOfMemory = codes "out of memory\n"

-- there are as many documents as units at most
abbrev pub IsPrintable : Ending → Type 0
IsPrintable (ending.Passed documents) = length documents ≤ MAX_DOCUMENTS
IsPrintable end = ⊤

-- no fault of the files came in the call, by their count before and after it, unless the ending may be one of a fault
abbrev pub IsQuiet : Ending → ℕ → ℕ → Type 0
IsQuiet (ending.Unread name why) before after = ⊤
IsQuiet ending.OutOfMemory before after = ⊤
IsQuiet end before after = after ≡ before
