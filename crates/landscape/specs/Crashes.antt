-- What a crash inside a call leaves of a landscape that works by models.
use Rattle.std.specs.Prelude.{◌<◌, ◌≤◌, ◌-◌, ℕ, List, length}
use Rattle.ale_volumes.specs.Disk.{Disk, LeftSince}
use Rattle.ale_volumes.specs.Volume.{IsImage}
use Rattle.unit_landscape.specs.Crashes.{LeavesSound, StaysSound}
use Rattle.unit_landscape.specs.KeptWorlds.{KeptOf}
use Rattle.document_state.specs.declared.document_tables.DocumentTables.{DocumentTables}
use Rattle.document_state.specs.declared.model_rules.ModelRules.{ModelRules}
use Rattle.document_state.specs.Meaning.{model_meaning}
use Rattle.landscape.specs.Begun.{AreBegun}
use Rattle.landscape.specs.Opened.{HoldSoundLogs}

-- where the disk tells what it holds, whatever a crash inside a call leaves is sound
abbrev pub LeavesSoundLogs : {V : Type 0} → Disk V → KeptOf ModelRules DocumentTables V → KeptOf ModelRules DocumentTables V → Type 0
LeavesSoundLogs disk before after = disk.told → LeavesSound (λ (rules : ModelRules). model_meaning rules.systems) disk before after

-- so it is at each moment while a landscape goes from one to another
abbrev pub GoesSoundly : {V : Type 0} → Disk V → KeptOf ModelRules DocumentTables V → KeptOf ModelRules DocumentTables V → Type 0
GoesSoundly disk before after = disk.told → StaysSound (λ (rules : ModelRules). model_meaning rules.systems) disk before after

-- whatever a crash inside a call leaves of the volumes of all systems, each at any moment of it, holds sound logs of the text with which all
-- logs begin: an opening with that text does not refuse it
abbrev pub LeavesOpenable : {V : Type 0} → Disk V → KeptOf ModelRules DocumentTables V → KeptOf ModelRules DocumentTables V → Type 0
LeavesOpenable disk before after =
    disk.told → (begun : AreBegun before.world) → (images : ℕ → List ℕ)
    → ((system : ℕ) → 1 ≤ system → system ≤ length before.world.systems
    → LeftSince disk after.vols (system - 1) (disk.moment before.vols) (images system))
    → HoldSoundLogs before.world.rules.systems begun.text images

-- so it is of what a crash leaves of them at one moment while a landscape goes from one to another
abbrev pub StaysOpenable : {V : Type 0} → Disk V → KeptOf ModelRules DocumentTables V → KeptOf ModelRules DocumentTables V → Type 0
StaysOpenable disk before after =
    disk.told → (begun : AreBegun before.world) → (moment : ℕ) → disk.moment before.vols < moment → moment ≤ disk.moment after.vols
    → (images : ℕ → List ℕ)
    → ((system : ℕ) → 1 ≤ system → system ≤ length before.world.systems → disk.left_at after.vols (system - 1) moment (images system))
    → HoldSoundLogs before.world.rules.systems begun.text images

-- whatever a crash may leave now of the volumes of so many systems holds sound logs of the text
abbrev pub AreOpenable : {V : Type 0} → Disk V → ℕ → List ℕ → V → Type 0
AreOpenable disk many text vols =
    (images : ℕ → List ℕ) → ((system : ℕ) → 1 ≤ system → system ≤ many → IsImage (disk.volume vols (system - 1)) (images system))
    → HoldSoundLogs many text images

-- so does whatever a crash inside an opening leaves of them, each at any moment of it, where whatever one left before does: another opening with
-- that text does not refuse it
abbrev pub OpeningLeavesOpenable : {V : Type 0} → Disk V → ℕ → List ℕ → V → V → Type 0
OpeningLeavesOpenable disk many text before after =
    disk.told → AreOpenable disk many text before → (images : ℕ → List ℕ)
    → ((system : ℕ) → 1 ≤ system → system ≤ many → LeftSince disk after (system - 1) (disk.moment before) (images system))
    → HoldSoundLogs many text images
