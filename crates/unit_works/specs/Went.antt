-- A landscape goes on by events.
use Rattle.std.specs.Prelude.{◌≡◌, ◌≤◌, ◌<◌, ◌⊎◌, ◌-◌, ◌^◌, ℕ, zero, suc, Bool, true, false, Option, Some, None, List, [], ◌∷◌, ◌++◌}
use Rattle.std.specs.List.{list_all}
use Rattle.ale_volumes.specs.Disk.{Disk}
use Rattle.ale_base.specs.Tid.{TidOf}
use Rattle.unit_core.specs.declared.ale_unit.AleUnit.{AleUnit}
use Rattle.unit_core.specs.declared.records.Record.{Record}
use Rattle.unit_core.specs.Filters.{taken_by}
use Rattle.trfc_protocol.specs.declared.event.Event.{Event}
use Rattle.trfc_protocol.specs.declared.world.World.{World}
use Rattle.trfc_protocol.specs.Happens.{run}
use Rattle.trfc_protocol.specs.Meaning.{Meaning}
use Rattle.trfc_protocol.specs.Legal.{may_follow}
use Rattle.trfc_protocol.specs.Worlds.{committed_unit, is_up, log_of, rest_of}
use Rattle.unit_journal.specs.OnDisk.{last_moment, later, moment_of, moments_at, next_moment, rest_at}
use Rattle.unit_landscape.specs.declared.cause.Cause.TheVariants.{Crashed, Faulted, Overran}
use Rattle.unit_landscape.specs.Crashes.{StaysSound}
use Rattle.unit_landscape.specs.KeptWorlds.{KeptOf, cause_at}
use Rattle.unit_landscape.specs.Writes.{IsTooLong}
use Rattle.unit_works.specs.Events.{is_works_record}

-- a count of faults has not fallen, or it stands at its end
abbrev pub HasNotFallen : ℕ → ℕ → Type 0
HasNotFallen before after = (before ≤ after) ⊎ (2 ^ 64 - 1 ≤ after)

-- a count of faults has risen, or it stands at its end
abbrev pub HasRisen : ℕ → ℕ → Type 0
HasRisen before after = (before < after) ⊎ (2 ^ 64 - 1 ≤ after)

module _ {R A V : Type 0} (meaning : R → Meaning) (disk : Disk V) (before after : KeptOf R A V) (system : ℕ) where
  -- A record that a work appends is too long for the volume of a system: it may follow the log there, and a unit that it takes in was
  -- committed. The landscape tells that, and how long the volume would have been.
  pub record IsUnfit : Type 0 where
    pub next : Record
    pub works : is_works_record next ≡ true
    pub may : may_follow (meaning after.world.rules) system (log_of after.world system) next ≡ true
    pub sent : (unit : AleUnit) → taken_by next ≡ Some unit → committed_unit (meaning after.world.rules) after.world unit.tid ≡ Some unit
    pub size : ℕ
    pub long : IsTooLong after (record { system = system; next = next }) size
    pub told : cause_at after system ≡ Overran size

  -- Why a system is down that was up: its volume failed as it was to write a record, which it may find; or it finds nothing, since a record did
  -- not fit on it, or since it was felled, which the landscape tells.
  abbrev pub HasCause : Option Record → Type 0
  HasCause (Some next) = HasRisen (disk.faults before.vols (system - 1)) (disk.faults after.vols (system - 1)) × (cause_at after system ≡ Faulted)
  HasCause None = IsUnfit ⊎ (cause_at after system ≡ Crashed)

-- a system is down as it was before, with its log and the moments of that, what it may find and with which moment, and why it is down
pub record StaysDown {R A V : Type 0} (before after : KeptOf R A V) (system : ℕ) : Type 0 where
  pub down : is_up after.world system ≡ false
  pub rest : rest_of after.world system ≡ rest_of before.world system
  pub log : log_of after.world system ≡ log_of before.world system
  pub moments : moments_at after.journals (system - 1) ≡ moments_at before.journals (system - 1)
  pub moment : next_moment after.journals (system - 1) ≡ next_moment before.journals (system - 1)
  pub rest_moment : rest_at after.journals (system - 1) ≡ rest_at before.journals (system - 1)
  pub cause : cause_at after system ≡ cause_at before system

-- each log is the one before with records behind it that works append
abbrev pub HaveWorksBehind : {R : Type 0} → World R → World R → Type 0
HaveWorksBehind before after = (system : ℕ)
    → (added : List Record) × (log_of after system ≡ log_of before system ++ added) × (list_all is_works_record added ≡ true)

-- the moments of a log with so many more behind them, each the one that is set, or the last before it where that is later
abbrev pub with_more : Option ℕ → ℕ → List (Option ℕ) → List (Option ℕ)
with_more set zero moments = moments
with_more set (suc n) moments = with_more set n (moments ++ later set (last_moment moments) ∷ [])

-- The records that were added to a log have such moments. That there are as many moments as records is kept by the journals (`IsOnDisk`).
abbrev pub AreStamped : Option ℕ → List (Option ℕ) → List (Option ℕ) → Type 0
AreStamped set before after = (n : ℕ) × (after ≡ with_more set n before)

-- A landscape went on by events that may happen: its world is the one that these make of the one before, by the same rules. Each log is the
-- one before with records of works behind it, and the units that are committed are those that were. The moment that is set is as before,
-- and the records behind have it, or the last of their log where that is later. No count of faults fell, and that of a system that is up has
-- not changed. Systems that were down stay so; and where the work is whole, those that fell had a cause. What a crash leaves of all volumes at one
-- moment after the first is sound, and has all records from before.
pub record WentOn {R A V : Type 0} (meaning : R → Meaning) (disk : Disk V) (may : Event → Bool) (whole : Bool) (before after : KeptOf R A V) : Type 0
  where
    pub events : List Event
    pub each : list_all may events ≡ true
    pub world : after.world ≡ run meaning before.world events
    pub rules : after.world.rules ≡ before.world.rules
    pub logs : HaveWorksBehind before.world after.world
    pub committed : (tid : TidOf) → committed_unit (meaning after.world.rules) after.world tid ≡ committed_unit (meaning before.world.rules) before.world tid
    pub moment : moment_of after.journals ≡ moment_of before.journals
    pub moments : (place : ℕ) → AreStamped (moment_of before.journals) (moments_at before.journals place) (moments_at after.journals place)
    pub counts : (place : ℕ) → HasNotFallen (disk.faults before.vols place) (disk.faults after.vols place)
    pub unharmed : (system : ℕ) → 1 ≤ system → is_up after.world system ≡ true → disk.faults after.vols (system - 1) ≡ disk.faults before.vols (system - 1)
    pub stays : (system : ℕ) → 1 ≤ system → is_up before.world system ≡ false → StaysDown before after system
    pub falls : whole ≡ true → (system : ℕ) → is_up before.world system ≡ true → is_up after.world system ≡ false
        → HasCause meaning disk before after system (rest_of after.world system)
    pub sound : disk.told → StaysSound meaning disk before after
