-- (a step of `IsOnDisk`, `Answers` and `LeavesOpened`) What the opening of one volume gave.
use Rattle.std.specs.Prelude.{◌≡◌, ℕ, List, length, Result, Ok, Err}
use Rattle.ale_volumes.specs.Disk.{Disk}
use Rattle.unit_core.specs.declared.records.Record.{Record}
use Rattle.unit_codec.specs.declared.entry.Entry.{Entry}
use Rattle.unit_journal.specs.declared.journal.UnitJournal.{UnitJournal}
use Rattle.unit_journal.specs.declared.fault.LogFault.{LogFault}
use Rattle.unit_journal.specs.Settled.{IsOn, IsSettled}
use Rattle.unit_journal.specs.declared.volume.Opened.{Opened}
use Rattle.unit_journal.specs.OnDisk.{entries_of}

-- the journal and the entries that a volume gave, or why it gave none
abbrev pub entries_in : Result Opened LogFault → Result (UnitJournal × List Entry) LogFault
entries_in (Ok opened) = Ok (opened.journal, entries_of opened.moments opened.log)
entries_in (Err fault) = Err fault

-- the records that a volume gave, or why it gave none
abbrev pub log_in : Result Opened LogFault → Result (List Record) LogFault
log_in (Ok opened) = Ok opened.log
log_in (Err fault) = Err fault

-- a journal with the moments and the records of these entries
pub record IsOf (journal : UnitJournal) (entries : List Entry) (opened : Opened) : Type 0 where
  pub same : opened.journal ≡ journal
  pub each : length opened.moments ≡ length opened.log
  pub are : entries_of opened.moments opened.log ≡ entries

-- there is a moment for each record; the journal of volume n is at the end of their entries, and all of them are on the disk for good
pub record IsOpened {D : Type 0} (disk : Disk D) (vols : D) (n : ℕ) (opened : Opened) : Type 0 where
  pub each : length opened.moments ≡ length opened.log
  pub on : IsOn opened.journal n (entries_of opened.moments opened.log)
  pub settled : disk.told → IsSettled disk vols opened.journal (entries_of opened.moments opened.log)
