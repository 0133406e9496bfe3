-- The tables that a log stands for.
use Rattle.std.specs.Prelude.{◌≡◌, ℕ, Bool, not, ◌&&◌, Option, List}
use Rattle.ale_base.specs.Tid.{TidOf}
use Rattle.ale_base.specs.declared.way.Way.{Way}
use Rattle.ale_base.specs.declared.way.Way.TheVariants.{Outgoing, Incoming}
use Rattle.unit_core.specs.declared.ale_unit.AleUnit.{AleUnit}
use Rattle.unit_core.specs.declared.records.Record.{Record}
use Rattle.unit_core.specs.Filters.{done_in, ended_in}
use Rattle.unit_core.specs.Filters.{received as received_in}
use Rattle.unit_core.specs.Queues.{is_listed, tids_of}
use Rattle.tid_table.specs.LogTids.{AreTidsOf}
use Rattle.plain_queues.specs.LogQueues.{AreQueuesOf}
use Rattle.system_tables.specs.Tables.{TablesOf}

-- whether a log says of an id that its unit is done and not ended
abbrev pub is_unconfirmed : TidOf → List Record → Bool
is_unconfirmed tid log = is_listed tid (done_in log) && not (is_listed tid (ended_in log))

-- ids are those that are done and not ended by a log
pub record AreUnconfirmedIn (log : List Record) (tids : List TidOf) : Type 0 where
  pub each : (tid : TidOf) → is_listed tid tids ≡ is_unconfirmed tid log

-- tables are those of a log, of the units that it commits, and of the claims on outgoing and on incoming units, by their ids
pub record AreTablesOf {A : Type 0} (stands : A → List Record → Type 0) (committed : List AleUnit) (log : List Record)
    (sent arrived : TidOf → Option ℕ) (tables : TablesOf A) : Type 0 where
  pub units : tables.units ≡ committed
  pub received : tables.received ≡ tids_of (received_in log)
  pub seen : AreTidsOf log tables.seen
  pub unconfirmed : AreUnconfirmedIn log tables.unconfirmed
  pub outgoing : AreQueuesOf Outgoing committed log sent tables.outgoing
  pub incoming : AreQueuesOf Incoming committed log arrived tables.incoming
  pub application : stands tables.application log

-- the claims of a direction
abbrev pub claims_of : Way → (TidOf → Option ℕ) → (TidOf → Option ℕ) → TidOf → Option ℕ
claims_of Outgoing sent arrived = sent
claims_of Incoming sent arrived = arrived
