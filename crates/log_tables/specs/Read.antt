-- What is asked of the rules of a log and of its records, beside that each record may follow.
use Rattle.std.specs.Prelude.{ℕ, ⊤, Option, None, List, Contains}
use Rattle.ale_base.specs.declared.way.Way.TheVariants.{Outgoing, Incoming}
use Rattle.unit_core.specs.declared.ale_unit.AleUnit.{AleUnit}
use Rattle.unit_core.specs.declared.records.Record.{Record}
use Rattle.unit_core.specs.declared.records.Record.TheVariants.{Accept, Execute}
use Rattle.unit_core.specs.Filters.{received}
use Rattle.unit_core.specs.Queues.{unit_named}
use Rattle.system_tables.specs.Joins.{HasQueues}
use Rattle.trfc_protocol.specs.Meaning.{Meaning}
use Rattle.trfc_protocol.specs.Legal.{IsLegal}

-- each unit that a legal log commits has few outbound queues, which differ
pub record CommitFew (rules : Meaning) : Type 0 where
  pub each : (system : ℕ) (log : List Record) → IsLegal rules system log → (unit : AleUnit) → Contains (rules.committed system log) unit
      → HasQueues Outgoing unit

-- the unit that a record accepts has few inbound queues, which differ: so has one that can be written
abbrev pub IsProper : Record → Type 0
IsProper (Accept unit) = HasQueues Incoming unit
IsProper _ = ⊤

-- the unit that a record executes, which was received before
abbrev pub executed_unit : List Record → Record → Option AleUnit
executed_unit log (Execute tid) = unit_named tid (received log)
executed_unit log _ = None
