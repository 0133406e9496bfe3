-- (a step of `LeavesOpened`) What closing the last gate of a log leaves of a volume, by how it ended.
use Rattle.std.specs.Prelude.{◌≡◌, Result, Ok, Err}
use Rattle.ale_volumes.specs.declared.volume.Volume.{Volume}
use Rattle.ale_volumes.specs.declared.volume_end.VolumeEnd.{VolumeEnd}
use Rattle.ale_volumes.specs.declared.volume_end.VolumeEnd.TheVariants.{Failed, OutOfMemory as NoMemory}
use Rattle.byte_journal.specs.Bytes.{IsAsBeforeButForTheGate, IsAsBeforeButForATornGate}

-- the gate is closed, or its write is torn, or all is as before
abbrev pub LeavesClosed : Volume → Volume → Result (Unit {0}) VolumeEnd → Type 0
LeavesClosed old new (Ok done) = IsAsBeforeButForTheGate old.contents new.contents
LeavesClosed old new (Err Failed) = IsAsBeforeButForATornGate old.contents new.contents
LeavesClosed old new (Err NoMemory) = new ≡ old
