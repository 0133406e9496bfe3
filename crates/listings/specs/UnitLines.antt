-- What an operator is shown of the units of a log: those that its system committed, and those that it received. This project's own.
use Rattle.std.specs.Prelude.{false, List, ◌++◌, map, Option, Some, None, if◌then◌else◌}
use Rattle.ale_base.specs.Tid.{TidOf}
use Rattle.ale_base.specs.declared.mark.Mark.{Mark}
use Rattle.ale_base.specs.declared.mark.Mark.TheVariants.{Cpicerr, Sysfail}
use Rattle.ale_base.specs.declared.way.Way.TheVariants.{Outgoing, Incoming}
use Rattle.unit_core.specs.declared.ale_unit.AleUnit.{AleUnit}
use Rattle.unit_core.specs.declared.records.Record.{Record}
use Rattle.unit_core.specs.Filters.{done_in, ended_in, executed, forgotten_in, mark_of, received}
use Rattle.unit_core.specs.Queues.{is_listed, tids_of}
use Rattle.status_log.specs.declared.line.UnitLine.{UnitLine}
use Rattle.status_log.specs.declared.line.UnitState.{UnitState}
use Rattle.status_log.specs.declared.line.UnitState.TheVariants as state
use Rattle.said_models.specs.OfLog.{model_of}
use Rattle.listings.specs.SystemNames.{name_under}

-- the state of a unit that waits: that of its mark since its last Retry, if it has one
abbrev pub waiting_as : UnitState → Option Mark → UnitState
waiting_as free None = free
waiting_as free (Some Cpicerr) = state.Cpicerr
waiting_as free (Some Sysfail) = state.Sysfail

-- the state of a unit that the system committed: it waits until it is done, and is done until it is ended
abbrev pub sent_state : List Record → TidOf → UnitState
sent_state log tid =
    if is_listed tid (done_in log)
    then (if is_listed tid (ended_in log) then state.Ended else state.Done)
    else waiting_as state.Unsent (mark_of Outgoing tid log)

-- the state of a unit that the system received: it waits until it is executed
abbrev pub arrived_state : List Record → TidOf → UnitState
arrived_state log tid = if is_listed tid (executed log) then state.Executed else waiting_as state.Accepted (mark_of Incoming tid log)

-- the line of a unit that the system committed: its partner is its receiver
abbrev pub sent_unit : List Record → AleUnit → UnitLine
sent_unit log unit =
    record { way = Outgoing; tid = unit.tid; partner = name_under (model_of log) unit.receiver; state = sent_state log unit.tid; forgotten = false }

-- the line of a unit that the system received, by its id: its partner is the system of the id
abbrev pub arrived_unit : List Record → TidOf → UnitLine
arrived_unit log tid =
    record {
      way = Incoming;
      tid = tid;
      partner = name_under (model_of log) tid.system;
      state = arrived_state log tid;
      forgotten = is_listed tid (forgotten_in log);
    }

-- the lines of the units of a log: those that it commits, in order, and then those that it received, in the order of receipt
abbrev pub unit_lines : List AleUnit → List Record → List UnitLine
unit_lines committed log = map (sent_unit log) committed ++ map (arrived_unit log) (tids_of (received log))
