-- The tables of a system that is up.
use Rattle.std.specs.Prelude.{◌≡◌, ℕ, ◌-◌, true, false, Option, Some, List, slice_get, MatchOption}
use Rattle.unit_core.specs.declared.records.Record.{Record}
use Rattle.system_tables.specs.Tables.{TablesOf}
use Rattle.trfc_protocol.specs.Meaning.{Meaning}
use Rattle.trfc_protocol.specs.Worlds.{is_up}
use Rattle.unit_landscape.specs.KeptWorlds.{KeptOf}
use Rattle.unit_landscape.specs.LogAnswers.{AreTablesNow}

-- tables are those that are kept of a system, which is up, and they are those of its log and of the claims at it
pub record AreItsTables {R A V : Type 0} (stands : A → List Record → Type 0) (rules : Meaning) (kept : KeptOf R A V) (system : ℕ)
    (its : TablesOf A) : Type 0 where
  pub up : is_up kept.world system ≡ true
  pub kept_there : slice_get kept.tables (system - 1) ≡ Some its
  pub agree : AreTablesNow stands rules kept.world system its

-- a system has tables exactly where it is up
abbrev pub AreTablesUp : {R A V : Type 0} → (A → List Record → Type 0) → Meaning → KeptOf R A V → ℕ → Option (TablesOf A) → Type 0
AreTablesUp stands rules kept system found = MatchOption found (is_up kept.world system ≡ false) (AreItsTables stands rules kept system)
