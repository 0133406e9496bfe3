-- What the file of a model says, and how a read of it ends that gives none.
use Rattle.std.specs.Prelude.{◌≡◌, ◌≢◌, ◌≤◌, ℕ, List, Ok, Err, ⊤}
use Rattle.ale_io.specs.declared.file_end.FileEnd.{FileEnd}
use Rattle.ale_io.specs.declared.file_end.FileEnd.TheVariants as file_end
use Rattle.ale_io.specs.Told.{Told, MayLack, IsFileWithin, IsFileOver}
use Rattle.dist_model.specs.declared.lists.Lists.{Lists}
use Rattle.model_text.specs.declared.fault.ModelFault.{ModelFault}
use Rattle.model_text.specs.declared.fault.ModelFault.TheVariants as model_fault
use Rattle.model_text.specs.declared.reading.TheConstants.{MAX_BYTES}
use Rattle.model_text.specs.Text.{answer_to}
use Rattle.model_files.specs.declared.end.ModelFileEnd.{ModelFileEnd}
use Rattle.model_files.specs.declared.end.ModelFileEnd.TheVariants.{Missing, TooLong, Failed, Refused, OutOfMemory}

-- as far as it is told, the file has this text, and the text says this model
abbrev pub SaysModelFile : Told → List ℕ → Lists → Type 0
SaysModelFile told text lists = IsFileWithin MAX_BYTES told text × (answer_to text ≡ Ok lists)

-- as far as it is told, the file has a text of this first fault
abbrev pub SaysNoModel : Told → ModelFault → Type 0
SaysNoModel told fault = (fault ≢ model_fault.OutOfMemory) × ((text : List ℕ) × IsFileWithin MAX_BYTES told text × (answer_to text ≡ Err fault))

-- why no model is read of a file; faults is that a fault of the files came in this call
abbrev pub EndsModelFile : Told → Type 0 → ModelFileEnd → Type 0
EndsModelFile told faults Missing = MayLack told
EndsModelFile told faults TooLong = IsFileOver MAX_BYTES told
EndsModelFile told faults Failed = faults
EndsModelFile told faults (Refused fault) = SaysNoModel told fault
EndsModelFile told faults OutOfMemory = ⊤

-- what becomes of the count of the files' faults: it is as before where the file was read and its text refused, and it never falls
abbrev pub IsStillAt : ModelFileEnd → ℕ → ℕ → Type 0
IsStillAt (Refused fault) before after = after ≡ before
IsStillAt why before after = before ≤ after

-- ---- what only private functions cite

-- the end where a file was not read so
abbrev pub end_of : FileEnd → ModelFileEnd
end_of file_end.Missing = Missing
end_of file_end.TooLong = TooLong
end_of file_end.Failed = Failed
end_of file_end.OutOfMemory = OutOfMemory

-- a text says no model, or memory ran out
abbrev pub IsNotSaid : List ℕ → ModelFileEnd → Type 0
IsNotSaid text (Refused fault) = (fault ≢ model_fault.OutOfMemory) × (answer_to text ≡ Err fault)
IsNotSaid text OutOfMemory = ⊤
IsNotSaid text why = ⊥
