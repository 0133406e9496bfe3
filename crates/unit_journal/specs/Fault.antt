-- Why a log was not opened, by why its bodies were not, and what that is for a log that is known.
use Rattle.byte_journal.specs.declared.fault.OpenFault.{OpenFault}
use Rattle.byte_journal.specs.declared.fault.OpenFault.TheVariants.{Volume as BytesVolume, Damaged as BytesDamaged, OutOfMemory as BytesMemory}
use Rattle.unit_journal.specs.declared.fault.LogFault.{LogFault}
use Rattle.unit_journal.specs.declared.fault.LogFault.TheVariants.{Volume, Damaged, Unread, OutOfMemory}
use Rattle.unit_journal.specs.declared.fault.LookFault.{LookFault}
use Rattle.unit_journal.specs.declared.fault.LookFault.TheVariants.{Volume as LookVolume, Changed, OutOfMemory as LookMemory}

-- the same fault
abbrev pub log_fault_of : OpenFault → LogFault
log_fault_of BytesVolume = Volume
log_fault_of (BytesDamaged place) = Damaged place
log_fault_of BytesMemory = OutOfMemory

-- what it is for a log that is known: damage is a change before its first record, and a record that is no entry one of that record
abbrev pub look_fault_of : LogFault → LookFault
look_fault_of Volume = LookVolume
look_fault_of (Damaged place) = Changed 0
look_fault_of (Unread number) = Changed number
look_fault_of OutOfMemory = LookMemory
