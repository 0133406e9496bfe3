-- How a call ends that is an event.
use Rattle.std.specs.Prelude.{◌≡◌, ◌≢◌, ◌⊎◌, ℕ, ◌-◌, Some, None, Result, Ok, Err}
use Rattle.ale_volumes.specs.Disk.{Disk}
use Rattle.ale_base.specs.Faults.{Rose}
use Rattle.trfc_protocol.specs.declared.event.Event.{Event}
use Rattle.trfc_protocol.specs.declared.event.Event.TheVariants.{Fall}
use Rattle.trfc_protocol.specs.Meaning.{Meaning}
use Rattle.trfc_protocol.specs.RecordOf.{Writing, record_of}
use Rattle.trfc_protocol.specs.Happens.{happens}
use Rattle.unit_journal.specs.OnDisk.{next_moment}
use Rattle.unit_journal.specs.Changes.{with_rest}
use Rattle.unit_landscape.specs.declared.append_end.AppendEnd.{AppendEnd}
use Rattle.unit_landscape.specs.declared.append_end.AppendEnd.TheVariants.{Volume, Full, Before, After}
use Rattle.unit_landscape.specs.KeptWorlds.{KeptOf}
use Rattle.unit_landscape.specs.declared.cause.Cause.TheVariants.{Faulted, Overran, Short}
use Rattle.unit_landscape.specs.Causes.{cause_in, with_cause, causes_after}
use Rattle.unit_landscape.specs.AppendEnds.{HasOneMore}
use Rattle.unit_landscape.specs.Writes.{IsTooLong, MomentsAs}

module _ {R A V : Type 0} (rules : Meaning) (disk : Disk V) (before after : KeptOf R A V) where
  -- no volume failed
  abbrev pub NoFaults : Type 0
  NoFaults = (place : ℕ) → disk.faults after.vols place ≡ disk.faults before.vols place

  -- a record fits on the volume of its system
  abbrev pub Fits : Writing → Type 0
  Fits it = (size : ℕ) → ¬ IsTooLong before it size

  -- the event happened: the world is that of the event, and its record fits and has its moment
  pub record Happened (e : Event) : Type 0 where
    pub world : after.world ≡ happens rules before.world e
    pub moments : MomentsAs before.journals after.journals (record_of rules before.world e)
    pub fits : (it : Writing) → record_of rules before.world e ≡ Some it → Fits it
    pub no_faults : NoFaults
    pub causes : after.causes ≡ causes_after e before.causes

  -- a volume failed as it was to take a record that fits: the count of its faults rose, and its system fell by that, and may find the
  -- record, whose moment is kept
  pub record Failed (it : Writing) : Type 0 where
    pub world : after.world ≡ happens rules before.world (Fall it.system (Some it.next))
    pub journals : after.journals ≡ with_rest (it.system - 1) (next_moment before.journals (it.system - 1)) before.journals
    pub fits : Fits it
    pub rose : Rose (disk.faults before.vols (it.system - 1)) (disk.faults after.vols (it.system - 1))
    pub others : (place : ℕ) → place ≢ it.system - 1 → disk.faults after.vols place ≡ disk.faults before.vols place
    pub causes : after.causes ≡ with_cause before.causes it.system Faulted
    pub told : cause_in after.causes it.system ≡ Faulted

  -- a record does not fit, and its system fell by that; no volume was called
  pub record Overflowed (it : Writing) : Type 0 where
    pub world : after.world ≡ happens rules before.world (Fall it.system None)
    pub journals : after.journals ≡ before.journals
    pub vols : after.vols ≡ before.vols
    pub size : ℕ
    pub long : IsTooLong before it size
    pub causes : after.causes ≡ with_cause before.causes it.system (Overran size)
    pub told : cause_in after.causes it.system ≡ Overran size

  -- a record does not fit, and nothing has changed; this long the volume would be
  pub record IsFull (it : Writing) (size : ℕ) : Type 0 where
    pub same : after ≡ before
    pub long : IsTooLong before it size

  -- memory was wanting, and the world, the tables and the journals are as before
  pub record Stays : Type 0 where
    pub world : after.world ≡ before.world
    pub tables : after.tables ≡ before.tables
    pub journals : after.journals ≡ before.journals
    pub no_faults : NoFaults
    pub causes : after.causes ≡ before.causes

  -- memory was wanting behind the record of an event, and its system fell there
  pub record FellBehind (e : Event) (it : Writing) : Type 0 where
    pub world : after.world ≡ happens rules (happens rules before.world e) (Fall it.system None)
    pub moments : HasOneMore (it.system - 1) before.journals after.journals
    pub fits : Fits it
    pub no_faults : NoFaults
    pub causes : after.causes ≡ with_cause before.causes it.system Short

  -- the system that was to append the record of an event fell in its place
  abbrev pub FellInstead : Event → Type 0
  FellInstead e = (it : Writing) × (record_of rules before.world e ≡ Some it) × (Failed it ⊎ Overflowed it)

  -- memory was wanting: nothing has changed, or the system of the event's record fell behind it
  abbrev pub IsShort : Event → Type 0
  IsShort e = Stays ⊎ ((it : Writing) × (record_of rules before.world e ≡ Some it) × FellBehind e it)

  -- how a record of an event is appended
  abbrev pub AppendsAs : {T : Type 0} → Event → Writing → Result T AppendEnd → Type 0
  AppendsAs e it (Ok done) = Happened e
  AppendsAs e it (Err Volume) = Failed it
  AppendsAs e it (Err (Full size)) = IsFull it size
  AppendsAs e it (Err Before) = Stays
  AppendsAs e it (Err After) = FellBehind e it
