-- Which documents a file holds, and what is wrong with a line.
use Rattle.std.specs.Prelude.{◌≡◌, ℕ, ◌+◌, ◌-◌, ◌<◌, ◌≤◌, ◌==◌, nat_le, nat_lt, List, [], ◌∷◌, ◌++◌, length, map, take, slice_get, sum_by, Bool, codes, Option}
use Rattle.std.specs.Prelude.{Some, None, Result, Ok, Err, if◌then◌else◌}
use Rattle.std.specs.Option.{option_map_or}
use Rattle.std.specs.List.{AllZip, AllByRecursion, list_all, flat_map}
use Rattle.ale_base.specs.Blanks.{trimmed}
use Rattle.ale_base.specs.Text.{is_text}
use Rattle.idoc_record.specs.declared.fault.RecordFault.{RecordFault}
use Rattle.idoc_record.specs.Data.{DataRecord, IsDataLine, data_read}
use Rattle.idoc_record.specs.Control.{IsControlLine, control_read}
use Rattle.idoc_file.specs.declared.documents.TheConstants.{MAX_LINE, MAX_DOCUMENTS, MAX_SEGMENTS, MAX_RECORDS}
use Rattle.idoc_file.specs.declared.raw_doc.RawDoc.{RawDoc}
use Rattle.idoc_file.specs.declared.file_fault.Quantity.TheVariants.{Documents, Records, Segments}
use Rattle.idoc_file.specs.declared.file_fault.FileFault.{FileFault}
use Rattle.idoc_file.specs.declared.file_fault.FileFault.TheVariants.{LineTooLong, NoControl, Record, TooMany}

-- blanks alone, or no bytes
abbrev pub is_blank : List ℕ → Bool
is_blank line = list_all (λ b. b == 32) line

-- the lines that are not skipped, with their numbers: blank lines are skipped and counted
abbrev pub filled_from : ℕ → List (List ℕ) → List (ℕ × List ℕ)
filled_from n [] = []
filled_from n (line ∷ lines) = if is_blank line then filled_from (n + 1) lines else (n, line) ∷ filled_from (n + 1) lines

-- a record of a document file; a control record has the number of its line
pub data FileRecord : Type 0 where
  control : ℕ → List ℕ → FileRecord
  segment : DataRecord → FileRecord

-- a document is its control record, and the data records of its segments behind it
abbrev pub records_of : RawDoc → List FileRecord
records_of document = control document.line document.control ∷ map segment document.segments

-- the line of this number is this record
abbrev pub IsLineOf : ℕ × List ℕ → FileRecord → Type 0
IsLineOf line (control number bytes) = (line.0 ≡ number) × IsControlLine line.1 bytes
IsLineOf line (segment data_record) = IsDataLine line.1 data_record

-- how many data records a document has
abbrev pub segment_count : RawDoc → ℕ
segment_count document = length document.segments

-- how many the last of these documents has
abbrev pub last_count : List RawDoc → ℕ
last_count documents = option_map_or segment_count (slice_get documents (length documents - 1)) 0

-- the lines that are not blank are, one for one, the records of the documents, no line is too long, and no limit is passed
pub record AreDocuments (lines : List (List ℕ)) (documents : List RawDoc) : Type 0 where
  pub spelled : AllZip IsLineOf (filled_from 1 lines) (flat_map records_of documents)
  pub short : AllByRecursion (λ line. length line ≤ MAX_LINE) lines
  pub few : length documents ≤ MAX_DOCUMENTS
  pub each : AllByRecursion (λ document. segment_count document ≤ MAX_SEGMENTS) documents
  pub within : sum_by segment_count documents ≤ MAX_RECORDS

-- the first ten bytes tell the kind of a line: where they are `EDI_DC40` and blanks it is a control line, and else a
-- data line
abbrev pub is_control_kind : List ℕ → Bool
is_control_kind line = is_text (trimmed (take 10 line)) (codes "EDI_DC40")

-- what is wrong with a control line behind these documents: it is no control record, or it is one document too many
abbrev pub control_fault : ℕ → List RawDoc → Result (List ℕ) RecordFault → Option FileFault
control_fault n read (Err fault) = Some (Record n fault)
control_fault n read (Ok bytes) = if nat_le MAX_DOCUMENTS (length read) then Some (TooMany n Documents) else None

-- what is wrong with a data line behind these documents: it is no data record, or one too many of its document or of the
-- file
abbrev pub data_fault : ℕ → List RawDoc → Result DataRecord RecordFault → Option FileFault
data_fault n read (Err fault) = Some (Record n fault)
data_fault n read (Ok new) =
    if nat_le MAX_SEGMENTS (last_count read) then Some (TooMany n Segments)
    else (if nat_le MAX_RECORDS (sum_by segment_count read) then Some (TooMany n Records) else None)

-- the first fault of the line of this number behind these documents
abbrev pub first_fault : ℕ → List RawDoc → List ℕ → Option FileFault
first_fault n read line =
    if nat_lt MAX_LINE (length line) then Some (LineTooLong n)
    else (if is_blank line then None
    else (if is_control_kind line then control_fault n read (control_read line)
    else (if length read == 0 then Some (NoControl n) else data_fault n read (data_read line))))

-- the first bad line has this fault: the lines before it are those of documents, and behind these it has the fault
pub record IsFirstBad (lines : List (List ℕ)) (fault : FileFault) : Type 0 where
  pub before : List (List ℕ)
  pub line : List ℕ
  pub behind : List (List ℕ)
  pub stands : lines ≡ before ++ line ∷ behind
  pub read : List RawDoc
  pub are : AreDocuments before read
  pub why : first_fault (length before + 1) read line ≡ Some fault

-- the answer to the lines of a file: its documents, or the fault of its first bad line
abbrev pub IsAnswer : List (List ℕ) → Result (List RawDoc) FileFault → Type 0
IsAnswer lines (Ok documents) = AreDocuments lines documents
IsAnswer lines (Err fault) = IsFirstBad lines fault

-- a document of which the control record alone is read, on the line of this number
abbrev pub begun : ℕ → List ℕ → RawDoc
begun number bytes = record { control = bytes; segments = []; line = number }

-- the document with one more segment
abbrev pub with_segment : RawDoc → DataRecord → RawDoc
with_segment document new = record document { segments = document.segments ++ new ∷ [] }

-- for `AreDocuments`: the last document has one more segment
pub record AddsToLast (before after : List RawDoc) (new : DataRecord) : Type 0 where
  pub front : List RawDoc
  pub document : RawDoc
  pub was : before ≡ front ++ document ∷ []
  pub becomes : after ≡ front ++ with_segment document new ∷ []

-- for `AreDocuments`: the line is a control record that begins one more document
pub record BeginsDocument (number : ℕ) (before after : List RawDoc) (line : List ℕ) : Type 0 where
  pub bytes : List ℕ
  pub is : IsControlLine line bytes
  pub room : length before < MAX_DOCUMENTS
  pub becomes : after ≡ before ++ begun number bytes ∷ []

-- for `AreDocuments`: the line is a data record of one more segment of the last document
pub record GoesOn (before after : List RawDoc) (line : List ℕ) : Type 0 where
  pub new : DataRecord
  pub is : IsDataLine line new
  pub room : last_count before < MAX_SEGMENTS
  pub within : sum_by segment_count before < MAX_RECORDS
  pub adds : AddsToLast before after new
