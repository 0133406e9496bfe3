-- What an operator asks for at a system that is up: a queue is stopped or started, and a unit is tried again. This project's own, in the
-- manner of SAP's queued RFC.
use Rattle.std.specs.Prelude.{ℕ, ◌==◌, ◌&&◌, List, Option, Some, None, Ok, Err, if◌then◌else◌}
use Rattle.ale_base.specs.Tid.{TidOf}
use Rattle.ale_base.specs.declared.way.Way.{Way}
use Rattle.ale_base.specs.declared.way.Way.TheVariants.{Outgoing, Incoming}
use Rattle.unit_core.specs.declared.records.Record.{Record}
use Rattle.unit_core.specs.declared.records.Record.TheVariants.{Retry, Start, Stop}
use Rattle.unit_codec.specs.Fields.{is_queue}
use Rattle.status_log.specs.declared.refusal.Refusal.TheVariants.{N5, N6}
use Rattle.trfc_protocol.specs.Legal.{is_destination, is_open_at}
use Rattle.document_state.specs.Meaning.{model_meaning}
use Rattle.landscape.specs.Asked.{Asked}

-- a queue of units that go to a destination is outbound; without one it is a queue of units that came in
abbrev pub way_to : Option ℕ → Way
way_to (Some destination) = Outgoing
way_to None = Incoming

-- the number of the destination; 0 without one
abbrev pub number_to : Option ℕ → ℕ
number_to (Some destination) = destination
number_to None = 0

-- the records by which a queue is stopped and started
abbrev pub stop_of : Option ℕ → List ℕ → Record
stop_of destination name = Stop (way_to destination) (number_to destination) name

abbrev pub start_of : Option ℕ → List ℕ → Record
start_of destination name = Start (way_to destination) (number_to destination) name

-- a queue is stopped or started by a record: its name is a queue name, and its destination is another system of so many
abbrev pub asked_queue : ℕ → ℕ → Option ℕ → List ℕ → Record → Asked
asked_queue systems system destination name next =
    if is_queue name && is_destination systems system (way_to destination) (number_to destination) then Ok (Some next) else Err N5

-- the direction in which a system has a unit: it sends those that have an id of its own
abbrev pub way_at : ℕ → TidOf → Way
way_at system tid = if tid.system == system then Outgoing else Incoming

-- a unit is tried again: it is outstanding there
abbrev pub asked_retry : ℕ → ℕ → TidOf → List Record → Asked
asked_retry systems system tid log =
    if is_open_at (model_meaning systems) system log (way_at system tid) tid then Ok (Some (Retry (way_at system tid) tid)) else Err N6
