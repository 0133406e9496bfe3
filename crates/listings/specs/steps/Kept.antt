-- Lines of units as the tables of a system tell them, for `unit_lines` of `UnitLines`.
use Rattle.std.specs.Prelude.{false, not, is_some, List, if◌then◌else◌}
use Rattle.ale_base.specs.Tid.{TidOf}
use Rattle.ale_base.specs.declared.way.Way.TheVariants.{Outgoing, Incoming}
use Rattle.unit_core.specs.declared.ale_unit.AleUnit.{AleUnit}
use Rattle.unit_core.specs.declared.records.Record.{Record}
use Rattle.unit_core.specs.Queues.{is_listed}
use Rattle.plain_queues.specs.Queues.{mark_on, unit_of}
use Rattle.status_log.specs.declared.line.UnitLine.{UnitLine}
use Rattle.status_log.specs.declared.line.UnitState.{UnitState}
use Rattle.status_log.specs.declared.line.UnitState.TheVariants as state
use Rattle.said_models.specs.OfLog.{model_of}
use Rattle.system_tables.specs.Tables.{TablesOf}
use Rattle.listings.specs.SystemNames.{name_under}
use Rattle.listings.specs.UnitLines.{waiting_as}

module _ {A : Type 0} (tables : TablesOf A) where
  -- the state of a unit that the system committed
  abbrev pub sent_kept : TidOf → UnitState
  sent_kept tid =
      if is_some (unit_of tid tables.outgoing) then waiting_as state.Unsent (mark_on tid tables.outgoing)
      else (if is_listed tid tables.unconfirmed then state.Done else state.Ended)

  -- the state of a unit that it received
  abbrev pub arrived_kept : TidOf → UnitState
  arrived_kept tid = if is_some (unit_of tid tables.incoming) then waiting_as state.Accepted (mark_on tid tables.incoming) else state.Executed

  -- their lines, with the names of the model in force behind a log
  abbrev pub sent_kept_line : List Record → AleUnit → UnitLine
  sent_kept_line log unit =
      record { way = Outgoing; tid = unit.tid; partner = name_under (model_of log) unit.receiver; state = sent_kept unit.tid; forgotten = false }

  abbrev pub arrived_kept_line : List Record → TidOf → UnitLine
  arrived_kept_line log tid =
      record {
        way = Incoming;
        tid = tid;
        partner = name_under (model_of log) tid.system;
        state = arrived_kept tid;
        forgotten = not (is_listed tid tables.seen);
      }
