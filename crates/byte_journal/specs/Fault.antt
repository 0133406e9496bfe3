-- The faults of a journal, by those of its volume.
use Rattle.ale_volumes.specs.declared.volume_end.VolumeEnd.{VolumeEnd}
use Rattle.ale_volumes.specs.declared.volume_end.VolumeEnd.TheVariants.{Failed, OutOfMemory as NoMemory}
use Rattle.byte_journal.specs.declared.fault.OpenFault.{OpenFault}
use Rattle.byte_journal.specs.declared.fault.OpenFault.TheVariants.{Volume as OpenVolume, OutOfMemory as OpenMemory}
use Rattle.byte_journal.specs.declared.fault.AppendFault.{AppendFault}
use Rattle.byte_journal.specs.declared.fault.AppendFault.TheVariants.{Volume as AppendVolume, OutOfMemory as AppendMemory}

-- why an opening failed where a write ended so
abbrev pub open_fault_of : VolumeEnd → OpenFault
open_fault_of Failed = OpenVolume
open_fault_of NoMemory = OpenMemory

-- why an append failed where a write ended so
abbrev pub append_fault_of : VolumeEnd → AppendFault
append_fault_of Failed = AppendVolume
append_fault_of NoMemory = AppendMemory
