-- What a log says of its units. A log is the list of a system's records. SAP Library, transactional RFC: a transaction
-- id is checked, executed once, confirmed and forgotten; the records are this project's own.
use Rattle.std.specs.Prelude.{ℕ, Bool, true, false, ◌==◌, ◌&&◌, Option, Some, None, is_some, List, fold, nat_eq, if◌then◌else◌}
use Rattle.std.specs.List.{filter_map}
use Rattle.std.specs.Cmp.Lexicographic.{pointwise}
use Rattle.ale_base.specs.Tid.{TidOf, is_tid}
use Rattle.ale_base.specs.declared.mark.Mark.{Mark as Cause}
use Rattle.ale_base.specs.declared.mark.Mark.TheVariants.{Sysfail}
use Rattle.ale_base.specs.declared.way.Way.{Way}
use Rattle.ale_base.specs.declared.way.Way.TheVariants.{Outgoing, Incoming}
use Rattle.unit_core.specs.declared.ale_unit.AleUnit.{AleUnit}
use Rattle.unit_core.specs.declared.records.Record.{Record}
use Rattle.unit_core.specs.declared.records.Record.TheVariants.{Mark, Done, Ended, Accept, Execute, Direct, Fail, Forget, Stop, Start, Retry}

-- the unit that a record takes in
abbrev pub taken_by : Record → Option AleUnit
taken_by (Accept unit) = Some unit
taken_by (Direct unit) = Some unit
taken_by _ = None

-- the id of the unit that a record executes
abbrev pub executed_by : Record → Option TidOf
executed_by (Execute tid) = Some tid
executed_by (Direct unit) = Some unit.tid
executed_by _ = None

-- the id of the unit of which a record says that its receiver has it
abbrev pub done_by : Record → Option TidOf
done_by (Done tid) = Some tid
done_by _ = None

-- the id of the unit that a record ends
abbrev pub ended_by : Record → Option TidOf
ended_by (Ended tid) = Some tid
ended_by _ = None

-- the id that a record forgets
abbrev pub forgotten_by : Record → Option TidOf
forgotten_by (Forget tid) = Some tid
forgotten_by _ = None

-- the units that a system received, in order
abbrev pub received : List Record → List AleUnit
received log = filter_map taken_by log

-- the ids of the units that it executed, in order
abbrev pub executed : List Record → List TidOf
executed log = filter_map executed_by log

-- the ids of the units that it sent and that are done, in order
abbrev pub done_in : List Record → List TidOf
done_in log = filter_map done_by log

-- the ids of the units that it sent and that are ended, in order
abbrev pub ended_in : List Record → List TidOf
ended_in log = filter_map ended_by log

-- the ids that it forgot, in order
abbrev pub forgotten_in : List Record → List TidOf
forgotten_in log = filter_map forgotten_by log

-- the mark of a unit after one more record: a Mark or a Fail sets it, and a Retry in that direction removes it
abbrev pub mark_after : Way → TidOf → Option Cause → Record → Option Cause
mark_after Outgoing tid before (Mark other cause) = if is_tid other tid then Some cause else before
mark_after Outgoing tid before (Retry Outgoing other) = if is_tid other tid then None else before
mark_after Incoming tid before (Fail other) = if is_tid other tid then Some Sysfail else before
mark_after Incoming tid before (Retry Incoming other) = if is_tid other tid then None else before
mark_after way tid before _ = before

-- the mark of a unit in this direction, since its last Retry
abbrev pub mark_of : Way → TidOf → List Record → Option Cause
mark_of way tid log = fold (mark_after way tid) None log

-- whether a unit is marked in this direction
abbrev pub is_marked : Way → TidOf → List Record → Bool
is_marked way tid log = is_some (mark_of way tid log)

-- whether two directions are the same
abbrev pub is_way : Way → Way → Bool
is_way Outgoing Outgoing = true
is_way Incoming Incoming = true
is_way _ _ = false

-- whether a queue is the one of these: its direction, its destination (0 for an inbound one) and its name
abbrev pub is_queue : Way → ℕ → List ℕ → Way → ℕ → List ℕ → Bool
is_queue way destination name w d n = is_way w way && (d == destination) && pointwise nat_eq n name

-- whether a queue is stopped after one more record
abbrev pub stopped_after : Way → ℕ → List ℕ → Bool → Record → Bool
stopped_after way destination name before (Stop w d n) =
    if is_queue way destination name w d n then true else before
stopped_after way destination name before (Start w d n) =
    if is_queue way destination name w d n then false else before
stopped_after way destination name before _ = before

-- whether a Stop of the queue stands after its last Start; an inbound queue has destination 0
abbrev pub is_stopped : Way → ℕ → List ℕ → List Record → Bool
is_stopped way destination name log = fold (stopped_after way destination name) false log
