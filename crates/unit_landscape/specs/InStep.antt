-- Tables that are in step with a world.
use Rattle.std.specs.Prelude.{◌≡◌, ℕ, suc, true, Some, List, length, slice_get}
use Rattle.unit_core.specs.declared.records.Record.{Record}
use Rattle.trfc_protocol.specs.declared.held.Held.{Held}
use Rattle.trfc_protocol.specs.declared.held.HeldKind.TheVariants.{Out, In}
use Rattle.trfc_protocol.specs.declared.world.SystemState.{SystemState}
use Rattle.trfc_protocol.specs.declared.world.World.{World}
use Rattle.trfc_protocol.specs.Meaning.{Meaning}
use Rattle.system_tables.specs.Tables.{TablesOf}
use Rattle.system_tables.specs.OfLog.{AreTablesOf}
use Rattle.unit_landscape.specs.Claims.{claim_at}

-- the tables of a system have the units that its log commits; where it is up they are those of its log and of the claims at it
pub record AreTablesAt {A : Type 0} (stands : A → List Record → Type 0) (rules : Meaning) (claims : List Held) (system : ℕ) (state : SystemState)
    (tables : TablesOf A) : Type 0 where
  pub units : tables.units ≡ rules.committed system state.log
  pub up : state.up ≡ true
      → AreTablesOf stands (rules.committed system state.log) state.log (claim_at Out system claims) (claim_at In system claims) tables

-- there are tables for each system, and they are its tables. The system at a place from 0 has the number that is one more
pub record AreInStep {A : Type 0} (stands : A → List Record → Type 0) (rules : Meaning) (systems : List SystemState) (claims : List Held)
    (tables : List (TablesOf A)) : Type 0 where
  pub all : length tables ≡ length systems
  pub each : (place : ℕ) (state : SystemState) (its : TablesOf A) → slice_get systems place ≡ Some state → slice_get tables place ≡ Some its
      → AreTablesAt stands rules claims (suc place) state its

-- the tables are in step with a world, by its own rules
abbrev pub AreInStepWith : {R A : Type 0} → (A → List Record → Type 0) → (R → Meaning) → World R → List (TablesOf A) → Type 0
AreInStepWith stands meaning world tables = AreInStep stands (meaning world.rules) world.systems world.claims tables

-- a claim stands among some claims that the tables are in step with, and is the first of its kind on its unit at its system
pub record IsHeldIn {A : Type 0} (stands : A → List Record → Type 0) (rules : Meaning) (systems : List SystemState) (tables : List (TablesOf A))
    (held : Held) : Type 0 where
  pub claims : List Held
  pub in_step : AreInStep stands rules systems claims tables
  pub found : claim_at held.kind held.system claims held.tid ≡ Some held.number
