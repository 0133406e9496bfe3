-- A journal of entries that is ready for appends, and what opening and appending do.
use Rattle.std.specs.Prelude.{◌≡◌, ◌⊎◌, ℕ, List, [], ◌∷◌, ◌++◌, Result, Ok, Err}
use Rattle.ale_volumes.specs.Disk.{Disk}
use Rattle.ale_volumes.specs.declared.volume.Volume.{Volume}
use Rattle.ale_volumes.specs.Volume.{settled}
use Rattle.byte_journal.specs.declared.journal.Journal.{Journal}
use Rattle.byte_journal.specs.declared.fault.AppendFault.{AppendFault}
use Rattle.byte_journal.specs.Log.{DamagedAt}
use Rattle.byte_journal.specs.Settled.{IsSettled as IsSettledForBodies, IsAtEnd as IsAtEndOfBodies}
use Rattle.byte_journal.specs.Bytes.{IsAsBeforeButForTheGate, IsAsBeforeButForATornGate}
use Rattle.unit_codec.specs.declared.entry.Entry.{Entry}
use Rattle.unit_journal.specs.declared.journal.UnitJournal.{UnitJournal}
use Rattle.unit_journal.specs.declared.fault.LogFault.{LogFault}
use Rattle.unit_journal.specs.declared.fault.LogFault.TheVariants.{Volume as VolumeFault, Damaged, Unread, OutOfMemory}
use Rattle.unit_journal.specs.Log.{AreEntries, bodies_of, Stands, UnreadAt}

-- the journal of the entries' spellings, whose volume and gate are told by `UnitJournal::volume` and `UnitJournal::gate`
abbrev pub bodies : UnitJournal → Journal
bodies journal = journal.bodies

-- the journal's gate is the one behind the records of this log
abbrev pub IsAtEnd : UnitJournal → List Entry → Type 0
IsAtEnd journal log = IsAtEndOfBodies (bodies journal) (bodies_of log)

-- the journal is on volume n, at the end of this log, whose entries have spellings
pub record IsOn (journal : UnitJournal) (n : ℕ) (log : List Entry) : Type 0 where
  pub volume : (bodies journal).volume ≡ n
  pub at_end : IsAtEnd journal log
  pub entries : AreEntries log

-- The journal stands at the end of this log, whose last gate is closed, and all of it is on the disk for good.
pub record IsSettled {D : Type 0} (disk : Disk D) (vols : D) (journal : UnitJournal) (log : List Entry) : Type 0 where
  pub settled : IsSettledForBodies disk vols (bodies journal) (bodies_of log)
  pub entries : AreEntries log

-- What opening these bytes answers: the log that they stand for, the place where they are damaged, or the number of the
-- first record that is no entry. The volume may fail, and memory may run out.
abbrev pub Answers : List ℕ → Result (UnitJournal × List Entry) LogFault → Type 0
Answers bytes (Ok opened) = Stands bytes opened.1
Answers bytes (Err (Damaged place)) = DamagedAt bytes place
Answers bytes (Err (Unread number)) = UnreadAt bytes number
Answers bytes (Err VolumeFault) = Unit {0}
Answers bytes (Err OutOfMemory) = Unit {0}

-- What an opening leaves of its volume, by its answer. Where the bytes are damaged nothing was written. Where a record is no
-- entry, or memory ran out, perhaps over the entries, the last gate may have been closed; what a read gives is on the disk
-- for good.
abbrev pub LeavesOpened : Volume → Volume → Result (UnitJournal × List Entry) LogFault → Type 0
LeavesOpened old new (Ok opened) = IsAsBeforeButForTheGate old.contents new.contents
LeavesOpened old new (Err (Damaged place)) = new ≡ settled old.contents
LeavesOpened old new (Err (Unread number)) = IsAsBeforeButForTheGate old.contents new.contents × (new ≡ settled new.contents)
LeavesOpened old new (Err OutOfMemory) = IsAsBeforeButForTheGate old.contents new.contents × (new ≡ settled new.contents)
LeavesOpened old new (Err VolumeFault) = IsAsBeforeButForATornGate old.contents new.contents

-- the bytes stand for the log from before an append, or for that log and the new entry
abbrev pub IsBeforeOrAfter : List Entry → Entry → List ℕ → Type 0
IsBeforeOrAfter log entry bytes = Stands bytes log ⊎ Stands bytes (log ++ entry ∷ [])

-- Where an append succeeded the journal is on the same volume, at the end of the log with the entry; otherwise it is as
-- before.
abbrev pub MovesOn : UnitJournal → UnitJournal → Entry → Result (Unit {0}) AppendFault → Type 0
MovesOn old new entry (Ok done) = ((bodies new).volume ≡ (bodies old).volume) × ((log : List Entry) → IsAtEnd old log → IsAtEnd new (log ++ entry ∷ []))
MovesOn old new entry (Err fault) = new ≡ old
