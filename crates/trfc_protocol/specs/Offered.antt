-- Which unit is offered, and how its receiver answers its arrival.
use Rattle.std.specs.Prelude.{ℕ, Bool, false, not, ◌&&◌, ◌||◌, Option, Some, None, List, if◌then◌else◌}
use Rattle.std.specs.List.{list_any}
use Rattle.ale_base.specs.Tid.{TidOf}
use Rattle.ale_base.specs.declared.way.Way.TheVariants.{Outgoing, Incoming}
use Rattle.unit_core.specs.declared.ale_unit.AleUnit.{AleUnit}
use Rattle.unit_core.specs.declared.records.Record.{Record}
use Rattle.unit_core.specs.Filters.{received, done_in, forgotten_in, is_stopped}
use Rattle.unit_core.specs.Queues.{is_listed, is_among, unit_named, heads_outbound}
use Rattle.trfc_protocol.specs.declared.world.World.{World}
use Rattle.trfc_protocol.specs.declared.held.HeldKind.TheVariants.{Out, In, Direct}
use Rattle.trfc_protocol.specs.declared.answer.Answer.{Answer}
use Rattle.trfc_protocol.specs.declared.answer.Answer.TheVariants.{Down, Known, Busy, SysFail, Run, New}
use Rattle.trfc_protocol.specs.Meaning.{Meaning}
use Rattle.trfc_protocol.specs.Legal.{is_empty, is_free_outbound, is_free_inbound, offers_that_of}
use Rattle.trfc_protocol.specs.Worlds.{log_of, is_up, committed_by, committed_unit, offers_now, is_claimed}

-- one of the unit's outbound queues is stopped
abbrev pub is_stopped_outbound : List Record → AleUnit → Bool
is_stopped_outbound log unit = list_any (λ name. is_stopped Outgoing unit.receiver name log) unit.outq

-- one of the unit's inbound queues is stopped
abbrev pub is_stopped_inbound : List Record → AleUnit → Bool
is_stopped_inbound log unit = list_any (λ name. is_stopped Incoming 0 name log) unit.inq

-- the unit is there, and none of its queues is stopped
abbrev pub may_move : (AleUnit → Bool) → Option AleUnit → Bool
may_move is_stopped None = false
may_move is_stopped (Some unit) = not (is_stopped unit)

-- a unit is offered outbound where its sender is up, it is outstanding, not marked, not claimed, heads each of its
-- outbound queues, and none of these is stopped
abbrev pub is_offered_outbound : {R : Type 0} → Meaning → World R → TidOf → Bool
is_offered_outbound rules world tid =
    is_up world tid.system
    && is_free_outbound (committed_by rules world tid.system) (log_of world tid.system) tid
    && not (is_claimed Out tid world.claims)
    && may_move (is_stopped_outbound (log_of world tid.system)) (committed_unit rules world tid)

-- a unit is offered inbound at a system where the same holds of its inbound queues there
abbrev pub is_offered_inbound : {R : Type 0} → World R → ℕ → TidOf → Bool
is_offered_inbound world system tid =
    is_up world system
    && is_free_inbound (log_of world system) tid
    && not (is_claimed In tid world.claims)
    && may_move (is_stopped_inbound (log_of world system)) (unit_named tid (received (log_of world system)))

-- whether the unit heads its outbound queues at its sender
abbrev pub heads_at_sender : {R : Type 0} → Meaning → World R → AleUnit → Bool
heads_at_sender rules world unit =
    heads_outbound (done_in (log_of world unit.tid.system)) (committed_by rules world unit.tid.system) unit

-- a committed unit may arrive where its receiver has not forgotten it, and has received it or it heads its queues
abbrev pub may_arrive : {R : Type 0} → Meaning → World R → AleUnit → Bool
may_arrive rules world unit =
    not (is_listed unit.tid (forgotten_in (log_of world unit.receiver)))
    && (is_among unit.tid (received (log_of world unit.receiver)) || heads_at_sender rules world unit)

-- whether a system offers the function of a unit that it received
abbrev pub offers_received_now : {R : Type 0} → Meaning → World R → ℕ → TidOf → Bool
offers_received_now rules world system tid = offers_that_of (offers_now rules world system) (unit_named tid (received (log_of world system)))

-- how the receiver answers the arrival of a unit that it has not forgotten: the first line that applies
abbrev pub answer_to : {R : Type 0} → Meaning → World R → AleUnit → Answer
answer_to rules world unit =
    if not (is_up world unit.receiver) then Down
    else (if is_among unit.tid (received (log_of world unit.receiver)) then Known
    else (if is_claimed Direct unit.tid world.claims then Busy
    else (if is_empty unit.inq
    then (if offers_now rules world unit.receiver unit.function then Run else SysFail)
    else New)))
