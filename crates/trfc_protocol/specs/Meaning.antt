-- What the rules of a landscape say of its systems' logs.
use Rattle.std.specs.Prelude.{ℕ, Bool, List}
use Rattle.unit_core.specs.declared.ale_unit.AleUnit.{AleUnit}
use Rattle.unit_core.specs.declared.records.Record.{Record}

-- the number of systems, and of each system: the units that a log commits, whether a record that commits, one of the
-- application or a Model may follow a log, and whether a function is offered at the end of a log
pub record Meaning : Type 0 where
  pub systems : ℕ
  pub committed : ℕ → List Record → List AleUnit
  pub allows : ℕ → List Record → Record → Bool
  pub offers : ℕ → List Record → List ℕ → Bool
