-- What a crash leaves of a landscape: inside a call, of each volume an image of some moment of the call, and no clause ties the moment of one
-- volume to that of another; and over any number of calls, of all volumes at one moment.
use Rattle.std.specs.Prelude.{◌≡◌, ◌<◌, ◌≤◌, ◌-◌, ℕ, Option, List, [], length, map}
use Rattle.ale_base.specs.Prefix.{IsPrefix}
use Rattle.ale_volumes.specs.Disk.{Disk, LeftSince}
use Rattle.ale_volumes.specs.Clock.{PastStays}
use Rattle.unit_core.specs.declared.records.Record.{Record}
use Rattle.unit_codec.specs.declared.entry.Entry.{Entry}
use Rattle.unit_journal.specs.Log.{Stands}
use Rattle.unit_journal.specs.OnDisk.{AreInOrder, moments_of}
use Rattle.trfc_protocol.specs.Meaning.{Meaning}
use Rattle.trfc_protocol.specs.Safe.{Sound}
use Rattle.trfc_protocol.specs.declared.world.World.{World}
use Rattle.trfc_protocol.specs.Worlds.{log_of, log_with}
use Rattle.unit_landscape.specs.KeptWorlds.{KeptOf}

-- bytes stand for a log, each record of which has some moment, or none, and these moments are in order
abbrev pub StandsForLog : List ℕ → List Record → Type 0
StandsForLog image log =
    (entries : List Entry) × Stands image entries × (map (λ (entry : Entry). entry.what) entries ≡ log) × AreInOrder (moments_of entries)

-- bytes stand for the log of a system from before, perhaps with one record more: no record that stood in it is lost
abbrev pub StandsFor : {R A V : Type 0} → KeptOf R A V → ℕ → List ℕ → Type 0
StandsFor before system image = (more : Option Record) × StandsForLog image (log_with (log_of before.world system) more)

-- there are logs of the systems alone that the rules have
abbrev pub AreOfSystems : Meaning → (ℕ → List Record) → Type 0
AreOfSystems rules logs = (system : ℕ) → (1 ≤ system → system ≤ rules.systems → ⊥) → logs system ≡ []

-- Bytes, one row of them a system, stand for logs. Each is the log from before, perhaps with one record more; and together they are sound: each is
-- legal, and no unit is executed twice, or out of its turn.
pub record AreFound {R A V : Type 0} (meaning : R → Meaning) (before : KeptOf R A V) (images : ℕ → List ℕ) : Type 0 where
  pub logs : ℕ → List Record
  pub stand : (system : ℕ) → 1 ≤ system → system ≤ length before.world.systems → StandsForLog (images system) (logs system)
  pub whole : (system : ℕ) → (more : Option Record) × (logs system ≡ log_with (log_of before.world system) more)
  pub within : AreOfSystems (meaning before.world.rules) logs
  pub sound : Sound (meaning before.world.rules) logs

-- A world went on by the same rules: it has as many systems, and each log is the one before with records behind it, or none.
pub record HasGrown {R : Type 0} (before after : World R) : Type 0 where
  pub rules : after.rules ≡ before.rules
  pub many : length after.systems ≡ length before.systems
  pub logs : (system : ℕ) → IsPrefix (log_of before system) (log_of after system)

-- a log begins with that of a system from before, and is one with which the log from after begins, perhaps with one record more
abbrev pub IsBetween : {R : Type 0} → World R → World R → ℕ → List Record → Type 0
IsBetween before after system log =
    (front : List Record) × (more : Option Record) × IsPrefix (log_of before system) front × IsPrefix front (log_of after system)
    × (log ≡ log_with front more)

-- Bytes, one row of them a system, stand for logs. Each is between the log from before and the one from after; and together they are sound.
pub record AreFoundSince {R A V : Type 0} (meaning : R → Meaning) (before after : KeptOf R A V) (images : ℕ → List ℕ) : Type 0 where
  pub logs : ℕ → List Record
  pub stand : (system : ℕ) → 1 ≤ system → system ≤ length before.world.systems → StandsForLog (images system) (logs system)
  pub between : (system : ℕ) → IsBetween before.world after.world system (logs system)
  pub within : AreOfSystems (meaning before.world.rules) logs
  pub sound : Sound (meaning before.world.rules) logs

-- what an earlier crash left of the volume of each system stays
abbrev pub EachPastStays : {R A V : Type 0} → Disk V → KeptOf R A V → KeptOf R A V → Type 0
EachPastStays disk before after = (system : ℕ) → 1 ≤ system → system ≤ length before.world.systems → PastStays disk before.vols after.vols (system - 1)

-- Whatever a crash leaves of the volume of each system, each at any moment of a call, these stand for logs that are sound. Each volume by itself
-- stands for its system's log from before, perhaps with one record more; and what an earlier crash left stays.
pub record LeavesSound {R A V : Type 0} (meaning : R → Meaning) (disk : Disk V) (before after : KeptOf R A V) : Type 0 where
  pub later : disk.moment before.vols ≤ disk.moment after.vols
  pub past : EachPastStays disk before after
  pub each : (images : ℕ → List ℕ)
      → ((system : ℕ) → 1 ≤ system → system ≤ length before.world.systems
      → LeftSince disk after.vols (system - 1) (disk.moment before.vols) (images system))
      → AreFound meaning before images
  pub alone : (system : ℕ) (image : List ℕ) → 1 ≤ system → system ≤ length before.world.systems
      → LeftSince disk after.vols (system - 1) (disk.moment before.vols) image → StandsFor before system image

-- A landscape went on by calls, or by none. What a crash leaves of all volumes at any moment after the first stands for logs that are sound: each
-- has all records from before and, but for one perhaps, none that the log from after lacks. So does each volume by itself; and what an earlier
-- crash left stays.
pub record StaysSound {R A V : Type 0} (meaning : R → Meaning) (disk : Disk V) (before after : KeptOf R A V) : Type 0 where
  pub grown : HasGrown before.world after.world
  pub later : disk.moment before.vols ≤ disk.moment after.vols
  pub past : EachPastStays disk before after
  pub each : (moment : ℕ) → disk.moment before.vols < moment → moment ≤ disk.moment after.vols → (images : ℕ → List ℕ)
      → ((system : ℕ) → 1 ≤ system → system ≤ length before.world.systems → disk.left_at after.vols (system - 1) moment (images system))
      → AreFoundSince meaning before after images
  pub alone : (system moment : ℕ) (image : List ℕ) → 1 ≤ system → system ≤ length before.world.systems
      → disk.moment before.vols < moment → moment ≤ disk.moment after.vols → disk.left_at after.vols (system - 1) moment image
      → (log : List Record) × IsBetween before.world after.world system log × StandsForLog image log
