-- The tables of a log that is read, record by record: those of its system with no claims, and the places of the units that it received.
use Rattle.std.specs.Prelude.{ℕ, Option, None, List, [], ◌≡◌, ◌≤◌, Some, length, take, slice_get, false}
use Rattle.ale_base.specs.Tid.{TidOf}
use Rattle.unit_core.specs.declared.records.Record.{Record}
use Rattle.unit_core.specs.Filters.{done_in, forgotten_in}
use Rattle.unit_core.specs.Queues.{is_listed}
use Rattle.tid_table.specs.Tids.{Enters}
use Rattle.system_tables.specs.Tables.{TablesOf, no_tables}
use Rattle.system_tables.specs.OfLog.{AreTablesOf}
use Rattle.trfc_protocol.specs.Meaning.{Meaning}
use Rattle.trfc_protocol.specs.Legal.{IsLegal, may_follow}
use Rattle.log_tables.specs.Places.{ArePlaces, place_of}

-- what is seen of the tables of a log
pub record LogTablesOf (A : Type 0) : Type 0 where
  pub tables : TablesOf A
  pub places : List ((ℕ × ℕ) × ℕ)
  pub done : List TidOf
  pub forgotten : List TidOf

-- no claims: a log has none
abbrev pub no_claims : TidOf → Option ℕ
no_claims tid = None

-- empty tables, but for those of the application
abbrev pub no_log_tables : {A : Type 0} → A → LogTablesOf A
no_log_tables application = record { tables = no_tables application; places = []; done = []; forgotten = [] }

-- ids are those of a list, whose order says nothing
pub record AreListed (all tids : List TidOf) : Type 0 where
  pub each : (tid : TidOf) → is_listed tid tids ≡ is_listed tid all

-- what a record does to ids: the one that it tells enters them
abbrev pub Listed : Option TidOf → List TidOf → List TidOf → Type 0
Listed None before after = after ≡ before
Listed (Some tid) before after = Enters tid before after

-- a legal log of a system was read, and the tables are those of it
pub record IsRead {A : Type 0} (rules : Meaning) (stands : A → List Record → Type 0) (system : ℕ) (log : List Record) (its : LogTablesOf A) : Type 0 where
  pub legal : IsLegal rules system log
  pub tables : AreTablesOf stands (rules.committed system log) log no_claims no_claims its.tables
  pub places : ArePlaces log (place_of its.places)
  pub done : AreListed (done_in log) its.done
  pub forgotten : AreListed (forgotten_in log) its.forgotten

-- the first records of a log were read, as many as this: they are legal, and the next one, where there is one, may not follow
pub record IsReadTo {A : Type 0} (rules : Meaning) (stands : A → List Record → Type 0) (system : ℕ) (log : List Record) (count : ℕ) (its : LogTablesOf A)
    : Type 0 where
  pub within : count ≤ length log
  pub read : IsRead rules stands system (take count log) its
  pub stops : (next : Record) → slice_get log count ≡ Some next → may_follow rules system (take count log) next ≡ false
