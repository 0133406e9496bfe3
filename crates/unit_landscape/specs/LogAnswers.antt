-- What is answered by the logs and the claims of a world.
use Rattle.std.specs.Prelude.{List, Option, find, ◌≡◌, ℕ, Bool, false}
use Rattle.std.specs.Option.{option_map, option_map_or}
use Rattle.ale_base.specs.Tid.{TidOf}
use Rattle.ale_base.specs.declared.way.Way.{Way}
use Rattle.unit_core.specs.declared.ale_unit.AleUnit.{AleUnit}
use Rattle.unit_core.specs.Queues.{unit_named}
use Rattle.plain_queues.specs.LogQueues.{units_of, may_go}
use Rattle.unit_core.specs.declared.records.Record.{Record}
use Rattle.system_tables.specs.Tables.{TablesOf}
use Rattle.system_tables.specs.OfLog.{AreTablesOf}
use Rattle.trfc_protocol.specs.declared.held.HeldKind.TheVariants.{Out, In}
use Rattle.trfc_protocol.specs.declared.world.World.{World}
use Rattle.trfc_protocol.specs.Meaning.{Meaning}
use Rattle.trfc_protocol.specs.Worlds.{log_of, committed_by}
use Rattle.unit_landscape.specs.Claims.{claim_at, kind_of}
use Rattle.unit_landscape.specs.KeptWorlds.{KeptOf}

-- whether the unit of an id waits in the queues of a direction at a system and may go, by its log and the claims
abbrev pub may_go_at : {R : Type 0} → Meaning → World R → ℕ → Way → TidOf → Bool
may_go_at rules world system way tid =
    option_map_or (may_go way (units_of way (committed_by rules world system) (log_of world system)) (log_of world system)
    (claim_at (kind_of way) system world.claims))
    (unit_named tid (units_of way (committed_by rules world system) (log_of world system))) false

-- tables are those of the log of a system, and of the claims at it
abbrev pub AreTablesNow : {R A : Type 0} → (A → List Record → Type 0) → Meaning → World R → ℕ → TablesOf A → Type 0
AreTablesNow stands rules world system tables =
    AreTablesOf stands (committed_by rules world system) (log_of world system) (claim_at Out system world.claims) (claim_at In system world.claims) tables

-- the id of the first unit that waits in the queues of a direction at a system and may go
abbrev pub first_to_go : {R : Type 0} → Meaning → World R → ℕ → Way → Option TidOf
first_to_go rules world system way =
    option_map (λ (unit : AleUnit). unit.tid)
    (find (may_go way (units_of way (committed_by rules world system) (log_of world system)) (log_of world system) (claim_at (kind_of way) system world.claims))
    (units_of way (committed_by rules world system) (log_of world system)))

-- the journals and the volumes are as before
pub record KeepsDisk {R A V : Type 0} (before after : KeptOf R A V) : Type 0 where
  pub journals : after.journals ≡ before.journals
  pub vols : after.vols ≡ before.vols

-- the same, and so is why systems are down
pub record KeepsVolumes {R A V : Type 0} (before after : KeptOf R A V) : Type 0 where
  pub journals : after.journals ≡ before.journals
  pub vols : after.vols ≡ before.vols
  pub causes : after.causes ≡ before.causes
