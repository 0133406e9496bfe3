-- What a reader of a document file stands for.
use Rattle.std.specs.Prelude.{◌≡◌, ℕ, ◌≤◌, List, ◌++◌, length, Option, Some, None}
use Rattle.std.specs.List.{AllByRecursion}
use Rattle.idoc_file.specs.declared.file_fault.FileFault.{FileFault}
use Rattle.idoc_file.specs.declared.file_fault.FileFault.TheVariants.{OutOfMemory}
use Rattle.idoc_file.specs.declared.lines_read.LinesRead.{LinesRead}
use Rattle.idoc_file.specs.declared.reader.TheConstants.Reader.{MOST_BYTES}
use Rattle.idoc_file.specs.declared.reader.Reader.{Reader}
use Rattle.ale_base.specs.Lines.{lines_of, IsNoEnd}
use Rattle.idoc_file.specs.DocumentFile.{AreDocuments, IsFirstBad}

-- with no fault the lines are those of the documents, and else one of them is the first bad line, with this fault
abbrev pub AreReadWith : Option FileFault → LinesRead → List (List ℕ) → Type 0
AreReadWith None read lines = AreDocuments lines read.documents × (read.count ≡ length lines)
AreReadWith (Some fault) read lines = IsFirstBad lines fault

-- these lines were read
abbrev pub AreRead : LinesRead → List (List ℕ) → Type 0
AreRead read lines = AreReadWith read.fault read lines

-- of these bytes the lines that have ended were read, and the unfinished line is kept
pub record IsReading (read : LinesRead) (unfinished bytes : List ℕ) : Type 0 where
  pub lines : List (List ℕ)
  pub goes_on : (more : List ℕ) → lines_of (bytes ++ more) ≡ lines ++ lines_of (unfinished ++ more)
  pub no_end : AllByRecursion IsNoEnd unfinished
  pub are : AreRead read lines

-- the reader stands for the bytes that it was fed, of which there are `MOST_BYTES` at most
pub record Stands (reader : Reader) (bytes : List ℕ) : Type 0 where
  pub within : length bytes ≤ MOST_BYTES
  pub fed : reader.fed ≡ length bytes
  pub reading : IsReading reader.read reader.unfinished.items bytes

-- how many bytes a reader was fed
abbrev pub fed_of : Reader → ℕ
fed_of reader = reader.fed

-- memory ran out, and the reader stands for nothing
abbrev pub IsGone : Reader → Type 0
IsGone reader = reader.read.fault ≡ Some OutOfMemory
