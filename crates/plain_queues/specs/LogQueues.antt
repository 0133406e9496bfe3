-- The queues that a log stands for, in one direction. Outbound, the units are those that the log commits, and one is through
-- where it is done; inbound, they are those that it received, and one is through where it is executed.
use Rattle.std.specs.Prelude.{◌≡◌, ℕ, Bool, true, false, not, ◌&&◌, ⊤, Option, None, List, map, filter, fold, Contains, if◌then◌else◌}
use Rattle.std.specs.List.{list_any}
use Rattle.std.specs.Option.{is_none}
use Rattle.ale_base.specs.Tid.{TidOf, is_tid}
use Rattle.ale_base.specs.declared.mark.Mark.{Mark}
use Rattle.ale_base.specs.declared.way.Way.{Way}
use Rattle.ale_base.specs.declared.way.Way.TheVariants.{Outgoing, Incoming}
use Rattle.unit_core.specs.declared.ale_unit.AleUnit.{AleUnit}
use Rattle.unit_core.specs.declared.records.Record.{Record}
use Rattle.unit_core.specs.declared.records.Record.TheVariants.{Mark as Cause, Done, Execute, Direct, Fail, Stop, Start, Retry}
use Rattle.unit_core.specs.Filters.{received, taken_by, executed, executed_by, done_in, done_by, mark_of, is_marked, mark_after, stopped_after, is_way}
use Rattle.unit_core.specs.Filters.{is_stopped as is_stopped_by}
use Rattle.unit_core.specs.Queues.{is_listed, is_outstanding, heads_outbound, heads_inbound}
use Rattle.plain_queues.specs.declared.queue_key.QueueKey.{QueueKey}
use Rattle.plain_queues.specs.declared.queued_unit.QueuedUnit.{QueuedUnit}
use Rattle.plain_queues.specs.Queues.{QueuesOf, is_stopped}
use Rattle.plain_queues.specs.Changes.{added}

-- the ids that are through in a direction
abbrev pub through : Way → List Record → List TidOf
through Outgoing log = done_in log
through Incoming log = executed log

-- the id that a record brings through
abbrev pub through_by : Way → Record → Option TidOf
through_by Outgoing next = done_by next
through_by Incoming next = executed_by next

-- the keys of a unit's queues: those of its receiver, or those of the system that received it
abbrev pub keys_of : Way → AleUnit → List QueueKey
keys_of Outgoing unit = map (λ name. record { partner = unit.receiver; name = name }) unit.outq
keys_of Incoming unit = map (λ name. record { partner = 0; name = name }) unit.inq

-- the names of a unit's queues in a direction
abbrev pub names_of : Way → AleUnit → List (List ℕ)
names_of Outgoing unit = unit.outq
names_of Incoming unit = unit.inq

-- a unit as the queues hold it: with the claim on it, which no log has, and its mark since its last Retry
abbrev pub queued : Way → List Record → (TidOf → Option ℕ) → AleUnit → QueuedUnit
queued way log claims unit = record { tid = unit.tid; keys = keys_of way unit; claim = claims unit.tid; mark = mark_of way unit.tid log }

-- the queues hold those of some units that are outstanding, and a queue is stopped where the log says so
pub record AreQueuesOver (way : Way) (all : List AleUnit) (log : List Record) (claims : TidOf → Option ℕ) (queues : QueuesOf) : Type 0 where
  pub units : queues.units ≡ map (queued way log claims) (filter (is_outstanding (through way log)) all)
  pub stops : (key : QueueKey) → is_stopped key queues ≡ is_stopped_by way key.partner key.name log

-- the units of a direction: outbound those that the system committed, which its log says under its models; inbound those
-- that its log received
abbrev pub units_of : Way → List AleUnit → List Record → List AleUnit
units_of Outgoing committed log = committed
units_of Incoming committed log = received log

-- the queues that a log stands for, with these claims
abbrev pub AreQueuesOf : Way → List AleUnit → List Record → (TidOf → Option ℕ) → QueuesOf → Type 0
AreQueuesOf way committed log claims queues = AreQueuesOver way (units_of way committed log) log claims queues

-- whether a unit heads each of its queues in a direction
abbrev pub heads_all : Way → List TidOf → List AleUnit → AleUnit → Bool
heads_all Outgoing through all unit = heads_outbound through all unit
heads_all Incoming through all unit = heads_inbound through all unit

-- whether a queue of a unit is stopped in a direction
abbrev pub is_held_up : Way → List Record → AleUnit → Bool
is_held_up Outgoing log unit = list_any (λ name. is_stopped_by Outgoing unit.receiver name log) unit.outq
is_held_up Incoming log unit = list_any (λ name. is_stopped_by Incoming 0 name log) unit.inq

-- whether a unit may go, by the log and the claims: it is outstanding, not claimed, not marked, heads each of its queues, and
-- none of these is stopped
abbrev pub may_go : Way → List AleUnit → List Record → (TidOf → Option ℕ) → AleUnit → Bool
may_go way all log claims unit =
    is_outstanding (through way log) unit
    && (is_none (claims unit.tid) && not (is_marked way unit.tid log)
    && (heads_all way (through way log) all unit && not (is_held_up way log unit)))

-- whether a unit is free, by the log and the claims: it is outstanding, not claimed, not marked, and heads each of its queues. Stops are
-- not asked
abbrev pub is_free_by : Way → List AleUnit → List Record → (TidOf → Option ℕ) → AleUnit → Bool
is_free_by way all log claims unit =
    is_outstanding (through way log) unit
    && (is_none (claims unit.tid) && not (is_marked way unit.tid log) && heads_all way (through way log) all unit)

-- outbound units have one sender: the system that committed them
abbrev pub HaveOneSender : Way → List AleUnit → Type 0
HaveOneSender Outgoing all = (sender : ℕ) × ((unit : AleUnit) → Contains all unit → unit.sender ≡ sender)
HaveOneSender Incoming all = ⊤

-- units are added one by one
abbrev pub added_all : Way → List AleUnit → QueuesOf → QueuesOf
added_all way more queues = fold (λ (before : QueuesOf) unit. added unit.tid (keys_of way unit) before) queues more

-- ---- what only proofs and private functions cite

-- a unit is new to a log: it is not through, not claimed and not marked
pub record IsNew (way : Way) (log : List Record) (claims : TidOf → Option ℕ) (unit : AleUnit) : Type 0 where
  pub outstanding : is_listed unit.tid (through way log) ≡ false
  pub unclaimed : claims unit.tid ≡ None
  pub unmarked : mark_of way unit.tid log ≡ None

-- a record leaves the marks of a direction
abbrev pub LeavesMarks : Way → Record → Type 0
LeavesMarks way next = (tid : TidOf) (before : Option Mark) → mark_after way tid before next ≡ before

-- a record leaves the stops of a direction
abbrev pub LeavesStops : Way → Record → Type 0
LeavesStops way next = (destination : ℕ) (name : List ℕ) (before : Bool) → stopped_after way destination name before next ≡ before

-- a record brings no unit of a direction through and leaves its marks and its stops
pub record LeavesQueues (way : Way) (next : Record) : Type 0 where
  pub none_through : through_by way next ≡ None
  pub marks : LeavesMarks way next
  pub stops : LeavesStops way next

-- the claim on the unit of an id is this one, or there is none; all other claims are as before
pub record Claims (tid : TidOf) (claim : Option ℕ) (claims after : TidOf → Option ℕ) : Type 0 where
  pub its : (other : TidOf) → is_tid other tid ≡ true → after other ≡ claim
  pub others : (other : TidOf) → is_tid other tid ≡ false → after other ≡ claims other

-- a record sets the mark of the unit of an id, or removes it, and leaves all other marks
pub record SetsMark (way : Way) (next : Record) (tid : TidOf) (mark : Option Mark) : Type 0 where
  pub marks : (other : TidOf) (before : Option Mark) → mark_after way other before next ≡ (if is_tid tid other then mark else before)

-- a record takes no unit in, where the direction is that of the units that are taken in
abbrev pub TakesNone : Way → Record → Type 0
TakesNone Outgoing next = ⊤
TakesNone Incoming next = taken_by next ≡ None

-- which records say nothing of the queues of a direction, but for the units that a Commit, a Dispatch or an Accept brings
abbrev pub is_silent : Way → Record → Bool
is_silent Outgoing (Cause tid cause) = false
is_silent Outgoing (Done tid) = false
is_silent Incoming (Execute tid) = false
is_silent Incoming (Direct unit) = false
is_silent Incoming (Fail tid) = false
is_silent way (Stop w destination name) = not (is_way w way)
is_silent way (Start w destination name) = not (is_way w way)
is_silent way (Retry w tid) = not (is_way w way)
is_silent way _ = true
