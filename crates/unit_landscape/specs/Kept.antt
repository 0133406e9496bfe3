-- What a landscape keeps.
use Rattle.std.specs.Prelude.{ℕ, List, Contains}
use Rattle.unit_core.specs.declared.ale_unit.AleUnit.{AleUnit}
use Rattle.unit_core.specs.declared.records.Record.{Record}
use Rattle.unit_codec.specs.Condition.{IsUnit}
use Rattle.trfc_protocol.specs.declared.world.World.{World}
use Rattle.trfc_protocol.specs.Meaning.{Meaning}
use Rattle.trfc_protocol.specs.Legal.{IsLegal}
use Rattle.trfc_protocol.specs.Safe.{Safe}

-- each unit that a legal log commits can be written in the log of its receiver
pub record CommitWritable (rules : Meaning) : Type 0 where
  pub each : (system : ℕ) (log : List Record) → IsLegal rules system log → (unit : AleUnit) → Contains (rules.committed system log) unit → IsUnit unit

-- the world of a landscape is safe by its own rules, and what they commit can be written
pub record IsLandscape {R : Type 0} (meaning : R → Meaning) (world : World R) : Type 0 where
  pub safe : Safe (meaning world.rules) world
  pub writable : CommitWritable (meaning world.rules)
