-- Volumes that are opened for a landscape.
use Rattle.std.specs.Prelude.{◌≡◌, ℕ, List, [], ◌∷◌, ◌++◌, map, Result, Ok, Err}
use Rattle.ale_volumes.specs.Disk.{Disk}
use Rattle.ale_volumes.specs.declared.volume.Volume.{Volume as OneVolume}
use Rattle.ale_volumes.specs.Volume.{settled}
use Rattle.byte_journal.specs.Bytes.{IsAsBeforeButForTheGate, IsAsBeforeButForATornGate}
use Rattle.unit_core.specs.declared.records.Record.{Record}
use Rattle.unit_journal.specs.declared.fault.LogFault.{LogFault}
use Rattle.unit_journal.specs.declared.fault.LogFault.TheVariants as log
use Rattle.trfc_protocol.specs.declared.world.World.{World}
use Rattle.trfc_protocol.specs.declared.world.SystemState.{SystemState}
use Rattle.trfc_protocol.specs.Meaning.{Meaning}
use Rattle.trfc_protocol.specs.Legal.{IsLegal}
use Rattle.trfc_protocol.specs.Worlds.{log_of}
use Rattle.trfc_protocol.specs.Start.{first_state, first_world}
use Rattle.unit_landscape.specs.KeptWorlds.{KeptOf, IsKept}
use Rattle.unit_landscape.specs.declared.opening.fault.OpenFault.{OpenFault}
use Rattle.unit_landscape.specs.declared.opening.fault.OpenFault.TheVariants.{Volume, Damaged, Unread, OutOfMemory}
use Rattle.unit_landscape.specs.declared.opening.fault.NotOpened.{NotOpened}

-- the same fault
abbrev pub open_fault_of : LogFault → OpenFault
open_fault_of log.Volume = Volume
open_fault_of (log.Damaged place) = Damaged place
open_fault_of (log.Unread number) = Unread number
open_fault_of log.OutOfMemory = OutOfMemory

-- ---- worlds that begin

-- the world in which one system more is up with this log, behind all others
abbrev pub with_log : {R : Type 0} → World R → List Record → World R
with_log world log = record world { systems = world.systems ++ first_state log ∷ [] }

-- the logs of all systems, that of the first one first
abbrev pub logs_of : {R : Type 0} → World R → List (List Record)
logs_of world = map (λ (state : SystemState). state.log) world.systems

-- a world begins with the logs of its systems, each of which is legal; it may be empty
pub record BeginsLegal {R : Type 0} (meaning : R → Meaning) (now : World R) : Type 0 where
  pub world : now ≡ first_world now.rules (logs_of now)
  pub legal : (system : ℕ) → IsLegal (meaning now.rules) system (log_of now system)

-- what is opened so far is kept, and the world begins with the logs of its systems, which are legal
pub record IsOpening {R A V : Type 0} (meaning : R → Meaning) (stands : A → List Record → Type 0) (disk : Disk V)
    (now : KeptOf R A V) : Type 0 where
  pub kept : IsKept meaning stands disk now
  pub begins : BeginsLegal meaning now.world

-- ---- the volume of one system

-- the bytes are as before, but for a gate that is their last byte, which is closed; and all of them are on the disk for good
abbrev pub LeavesSettled : OneVolume → OneVolume → Type 0
LeavesSettled old new = IsAsBeforeButForTheGate old.contents new.contents × (new ≡ settled new.contents)

-- what an opening that failed leaves of its volume: where the bytes are damaged nothing was written, and after a fault any byte may be
-- in place of the gate
abbrev pub LeavesFailed : OneVolume → OneVolume → OpenFault → Type 0
LeavesFailed old new (Damaged place) = new ≡ settled old.contents
LeavesFailed old new (Unread number) = LeavesSettled old new
LeavesFailed old new OutOfMemory = LeavesSettled old new
LeavesFailed old new Volume = IsAsBeforeButForATornGate old.contents new.contents

-- what an opening leaves of its volume, by its answer
abbrev pub LeavesOpened : {T : Type 0} → OneVolume → OneVolume → Result T OpenFault → Type 0
LeavesOpened old new (Ok done) = LeavesSettled old new
LeavesOpened old new (Err why) = LeavesFailed old new why

-- ---- the same of an answer that gives the volumes back

-- the volumes after an opening
abbrev pub vols_of : {R A V : Type 0} → Result (KeptOf R A V) (NotOpened V) → V
vols_of (Ok next) = next.vols
vols_of (Err failed) = failed.vols

-- a call on the volume failed
abbrev pub HasFailed : {T V : Type 0} → Result T (NotOpened V) → Type 0
HasFailed (Ok next) = ⊥
HasFailed (Err failed) = failed.why ≡ Volume

-- what an opening leaves of its volume, by its answer
abbrev pub LeavesAs : {T V : Type 0} → OneVolume → OneVolume → Result T (NotOpened V) → Type 0
LeavesAs old new (Ok next) = LeavesSettled old new
LeavesAs old new (Err failed) = LeavesFailed old new failed.why
