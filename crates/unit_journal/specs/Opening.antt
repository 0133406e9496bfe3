-- What the opening of a system's journal answers, and what it leaves of the volume.
use Rattle.std.specs.Prelude.{◌≡◌, ℕ, List, Result, Ok, Err}
use Rattle.ale_volumes.specs.declared.volume.Volume.{Volume}
use Rattle.ale_volumes.specs.Volume.{settled}
use Rattle.byte_journal.specs.Bytes.{IsAsBeforeButForTheGate, IsAsBeforeButForATornGate}
use Rattle.byte_journal.specs.Log.{DamagedAt}
use Rattle.unit_core.specs.declared.records.Record.{Record}
use Rattle.unit_journal.specs.declared.fault.LogFault.{LogFault}
use Rattle.unit_journal.specs.declared.fault.LogFault.TheVariants.{Volume as VolumeFault, Damaged, Unread, OutOfMemory}
use Rattle.unit_journal.specs.Log.{Stands, UnreadAt}
use Rattle.unit_journal.specs.declared.journals.SystemJournals.{SystemJournals}
use Rattle.unit_journal.specs.OnDisk.{entries_at}

-- The records that the bytes stand for, with the moments that are kept of them; or the place where they are damaged, or the
-- number of the first record that is no entry. The volume may fail, and memory may run out.
abbrev pub Answers : List ℕ → SystemJournals → ℕ → Result (List Record) LogFault → Type 0
Answers bytes all place (Ok log) = Stands bytes (entries_at all place log)
Answers bytes all place (Err (Damaged at)) = DamagedAt bytes at
Answers bytes all place (Err (Unread number)) = UnreadAt bytes number
Answers bytes all place (Err VolumeFault) = Unit {0}
Answers bytes all place (Err OutOfMemory) = Unit {0}

-- What an opening leaves of its volume, by its answer. Where the bytes are damaged nothing was written. After every other
-- answer they are as before, but for a gate that is their last byte: it is closed, or after a fault perhaps any byte. After
-- every answer but a fault all of them are on the disk for good.
abbrev pub LeavesOpened : Volume → Volume → Result (List Record) LogFault → Type 0
LeavesOpened old new (Ok log) = IsAsBeforeButForTheGate old.contents new.contents × (new ≡ settled new.contents)
LeavesOpened old new (Err (Damaged place)) = new ≡ settled old.contents
LeavesOpened old new (Err (Unread number)) = IsAsBeforeButForTheGate old.contents new.contents × (new ≡ settled new.contents)
LeavesOpened old new (Err OutOfMemory) = IsAsBeforeButForTheGate old.contents new.contents × (new ≡ settled new.contents)
LeavesOpened old new (Err VolumeFault) = IsAsBeforeButForATornGate old.contents new.contents
