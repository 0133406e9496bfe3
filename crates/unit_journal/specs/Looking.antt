-- What looking at the volume of a system that is down finds of the log that is kept of it, and of the record that it was
-- writing as it fell.
use Rattle.std.specs.Prelude.{◌≡◌, ◌≢◌, ◌⊎◌, ℕ, ◌+◌, ◌-◌, Bool, true, false, Option, Some, None, List, [], ◌∷◌, ◌++◌, length, slice_set, Result, Ok, Err}
use Rattle.ale_volumes.specs.Disk.{Disk}
use Rattle.ale_volumes.specs.declared.volume.Volume.{Volume as VolumeOf}
use Rattle.ale_volumes.specs.Volume.{settled}
use Rattle.byte_journal.specs.Bytes.{IsAsBeforeButForTheGate, IsAsBeforeButForATornGate}
use Rattle.byte_journal.specs.Log.{DamagedAt}
use Rattle.unit_core.specs.declared.records.Record.{Record}
use Rattle.unit_codec.specs.declared.entry.Entry.{Entry}
use Rattle.unit_codec.specs.Entries.{entry_with}
use Rattle.unit_journal.specs.declared.fault.LookFault.{LookFault}
use Rattle.unit_journal.specs.declared.fault.LookFault.TheVariants.{Volume, Changed, OutOfMemory}
use Rattle.unit_journal.specs.declared.looked.Looked.{Looked}
use Rattle.unit_journal.specs.Log.{Stands, UnreadAt}
use Rattle.unit_journal.specs.declared.journals.SystemJournals.{SystemJournals}
use Rattle.unit_journal.specs.OnDisk.{moments_at, rest_at, IsOnDisk}

-- the system that was looked at, which `Looked::system` tells
abbrev pub system_of : Looked → ℕ
system_of looked = looked.system

-- whether the record was found, which `Looked::is_found` tells
abbrev pub is_found : Looked → Bool
is_found looked = looked.found

-- a record that was found was being written
abbrev pub WasWritten : Bool → Option Record → Type 0
WasWritten false rest = Unit {0}
WasWritten true None = ⊥
WasWritten true (Some next) = Unit {0}

-- the entries of a log, and behind them that of the record that was being written, where there is one
abbrev pub with_left : List Entry → Option ℕ → Option Record → List Entry
with_left entries moment None = entries
with_left entries moment (Some next) = entries ++ entry_with moment next ∷ []

-- the same where the record was found
abbrev pub entries_found : Bool → List Entry → Option ℕ → Option Record → List Entry
entries_found false entries moment rest = entries
entries_found true entries moment rest = with_left entries moment rest

-- the log, with the record where it was found
abbrev pub log_found : Bool → List Record → Option Record → List Record
log_found false log rest = log
log_found true log None = log
log_found true log (Some next) = log ++ next ∷ []

-- the moments of the log, with that of the record where it was found
abbrev pub moments_found : Bool → List (Option ℕ) → Option ℕ → List (Option ℕ)
moments_found false moments moment = moments
moments_found true moments moment = moments ++ moment ∷ []

-- one of these lists has no entry, and the other has, or their first entries differ
abbrev pub BeginApart : List Entry → List Entry → Type 0
BeginApart [] [] = ⊥
BeginApart [] (other ∷ others) = Unit {0}
BeginApart (entry ∷ entries) [] = Unit {0}
BeginApart (entry ∷ entries) (other ∷ others) = entry ≢ other

-- The entry of this number, counted from 1, is the first of those that were found that differs from those that are kept, is
-- missing, or is one too many.
pub record IsFirstApart (found kept : List Entry) (number : ℕ) : Type 0 where
  pub front : List Entry
  pub behind : List Entry
  pub other : List Entry
  pub found_whole : found ≡ front ++ behind
  pub kept_whole : kept ≡ front ++ other
  pub apart : BeginApart behind other
  pub here : number ≡ length front + 1

-- The bytes stand for entries that are not those of the log, and the one of this number is the first that differs from those
-- of the log and the record, is missing, or is one too many.
pub record DiffersAt (bytes : List ℕ) (entries : List Entry) (moment : Option ℕ) (rest : Option Record) (number : ℕ) : Type 0 where
  pub found : List Entry
  pub stands : Stands bytes found
  pub other : found ≢ entries
  pub first : IsFirstApart found (with_left entries moment rest) number

-- The bytes stand neither for the log nor for the log and the record: the number is 0 where they are damaged, else that of the
-- first record that is no entry, else that of the first entry that differs, is missing, or is one too many.
abbrev pub ChangedAt : List ℕ → List Entry → Option ℕ → Option Record → ℕ → Type 0
ChangedAt bytes entries moment rest number =
    ((number ≡ 0) × (place : ℕ) × DamagedAt bytes place) ⊎ (UnreadAt bytes number ⊎ DiffersAt bytes entries moment rest number)

-- What a look answers: whether the bytes stand for the log with the record or without, or where they stand for neither. The
-- volume may fail, and memory may run out.
abbrev pub Answers : List ℕ → List Entry → Option ℕ → Option Record → Result Looked LookFault → Type 0
Answers bytes entries moment rest (Ok looked) = Stands bytes (entries_found (is_found looked) entries moment rest)
Answers bytes entries moment rest (Err (Changed number)) = ChangedAt bytes entries moment rest number
Answers bytes entries moment rest (Err Volume) = Unit {0}
Answers bytes entries moment rest (Err OutOfMemory) = Unit {0}

-- What a look leaves of its volume, by its answer: the bytes are as before, but for a gate that is their last byte: it is closed,
-- or after a fault perhaps any byte. After every answer but a fault all of them are on the disk for good.
abbrev pub LeavesLooked : VolumeOf → VolumeOf → Result Looked LookFault → Type 0
LeavesLooked old new (Ok looked) = IsAsBeforeButForTheGate old.contents new.contents × (new ≡ settled new.contents)
LeavesLooked old new (Err (Changed number)) = IsAsBeforeButForTheGate old.contents new.contents × (new ≡ settled new.contents)
LeavesLooked old new (Err OutOfMemory) = IsAsBeforeButForTheGate old.contents new.contents × (new ≡ settled new.contents)
LeavesLooked old new (Err Volume) = IsAsBeforeButForATornGate old.contents new.contents

-- the journals with what was looked at entered at its place, and no moment of a record whose write failed there
abbrev pub with_looked : Looked → SystemJournals → SystemJournals
with_looked looked all = record all {
  journals = slice_set all.journals (system_of looked - 1) looked.journal;
  moments = slice_set all.moments (system_of looked - 1) looked.moments;
  rests = slice_set all.rests (system_of looked - 1) None;
}

-- What a look found: entered at the place of its system, that system is up with the log, or with the log and the record, which
-- has the moment that was kept of it.
pub record IsLooked {D : Type 0} (disk : Disk D) (vols : D) (system : ℕ) (all : SystemJournals) (log : List Record)
    (rest : Option Record) (looked : Looked) : Type 0 where
  pub is_of : system_of looked ≡ system
  pub written : WasWritten (is_found looked) rest
  pub moments : moments_at (with_looked looked all) (system - 1) ≡ moments_found (is_found looked) (moments_at all (system - 1)) (rest_at all (system - 1))
  pub on_disk : IsOnDisk disk vols (system - 1) (with_looked looked all) (log_found (is_found looked) log rest)
