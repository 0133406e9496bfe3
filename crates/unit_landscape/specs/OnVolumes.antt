-- What the volumes of all systems hold of their logs.
use Rattle.std.specs.Prelude.{◌≡◌, ℕ, ◌≤◌, true, false, Some, List, length, slice_get}
use Rattle.ale_volumes.specs.Disk.{Disk}
use Rattle.trfc_protocol.specs.declared.world.SystemState.{SystemState}
use Rattle.unit_journal.specs.declared.journals.SystemJournals.{SystemJournals}
use Rattle.unit_journal.specs.OnDisk.{count_of, HaveMoments, moments_at, AreInOrder, IsOnDisk, IsLeftOnDisk}

-- the log of each system that is up is on the disk for good; of one that is down, a crash leaves the log, perhaps with the record that
-- it was writing as it fell; of both the moments of the log are in order
pub record AreOnVolumes {D : Type 0} (disk : Disk D) (vols : D) (systems : List SystemState)
    (journals : SystemJournals) : Type 0 where
  pub count : count_of journals ≡ length systems
  pub moments : HaveMoments journals
  pub order : (place : ℕ) → AreInOrder (moments_at journals place)
  pub few : length systems ≤ 16
  pub up : (place : ℕ) (state : SystemState) → slice_get systems place ≡ Some state → state.up ≡ true
      → IsOnDisk disk vols place journals state.log
  pub down : (place : ℕ) (state : SystemState) → slice_get systems place ≡ Some state → state.up ≡ false
      → IsLeftOnDisk disk vols place journals state.log state.rest
