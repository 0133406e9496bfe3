-- Which units are offered, and why others are not.
use Rattle.std.specs.Prelude.{Bool, false, not, ◌&&◌, Option, Some, None, List, [], ◌∷◌, find, if◌then◌else◌}
use Rattle.std.specs.List.{list_all}
use Rattle.std.specs.Option.{is_none, option_or, option_map, option_map_or}
use Rattle.ale_base.specs.Tid.{TidOf, is_tid}
use Rattle.plain_queues.specs.declared.queue_key.QueueKey.{QueueKey}
use Rattle.plain_queues.specs.declared.queued_unit.QueuedUnit.{QueuedUnit}
use Rattle.plain_queues.specs.declared.not_offered.NotOffered.{NotOffered}
use Rattle.plain_queues.specs.declared.not_offered.NotOffered.TheVariants.{Unknown, Running, Failed, Stopped, Behind}
use Rattle.plain_queues.specs.Queues.{QueuesOf, unit_of, head_of, is_stopped}

-- whether there is a unit, and it has this id
abbrev pub has_tid : TidOf → Option QueuedUnit → Bool
has_tid tid found = option_map_or (λ (unit : QueuedUnit). is_tid unit.tid tid) found false

-- whether the unit of this id heads a queue
abbrev pub heads : TidOf → QueuesOf → QueueKey → Bool
heads tid queues key = has_tid tid (head_of key queues)

-- whether a queue lets the unit of this id go: the unit heads it, and it is not stopped
abbrev pub lets_go : TidOf → QueuesOf → QueueKey → Bool
lets_go tid queues key = heads tid queues key && not (is_stopped key queues)

-- whether a unit may be claimed: it is not claimed, it is not marked, and each of its queues lets it go
abbrev pub is_ready : QueuesOf → QueuedUnit → Bool
is_ready queues unit = is_none unit.claim && is_none unit.mark && list_all (lets_go unit.tid queues) unit.keys

-- whether the unit of an id is offered: it is there, and may be claimed
abbrev pub is_offered : TidOf → QueuesOf → Bool
is_offered tid queues = option_map_or (is_ready queues) (unit_of tid queues) false

-- whether a unit is free: it is not claimed, it is not marked, and it heads each of its queues. Stops are not asked
abbrev pub is_free_unit : QueuesOf → QueuedUnit → Bool
is_free_unit queues unit = is_none unit.claim && is_none unit.mark && list_all (heads unit.tid queues) unit.keys

-- whether the unit of an id is free: it is there, and free
abbrev pub is_free : TidOf → QueuesOf → Bool
is_free tid queues = option_map_or (is_free_unit queues) (unit_of tid queues) false

-- the id of the offered unit that was added first
abbrev pub first_offered : QueuesOf → Option TidOf
first_offered queues = option_map (λ (unit : QueuedUnit). unit.tid) (find (is_ready queues) queues.units)

-- the first queue of these that is stopped
abbrev pub first_stopped : QueuesOf → List QueueKey → Option NotOffered
first_stopped queues keys = option_map Stopped (find (λ key. is_stopped key queues) keys)

-- the unit of this id is behind the head of a queue, where that is another one
abbrev pub behind_head : TidOf → QueueKey → Option QueuedUnit → Option NotOffered
behind_head tid key None = None
behind_head tid key (Some head) = if is_tid head.tid tid then None else Some (Behind key head.tid)

-- the first queue of these that another unit heads than the one of this id, with that head
abbrev pub first_behind : TidOf → QueuesOf → List QueueKey → Option NotOffered
first_behind tid queues [] = None
first_behind tid queues (key ∷ keys) = option_or (behind_head tid key (head_of key queues)) (first_behind tid queues keys)

-- why a unit is not offered: the first of these that applies. It is claimed; it is marked; a queue of it is stopped;
-- another unit heads a queue of it
abbrev pub why_not_unit : QueuesOf → QueuedUnit → Option NotOffered
why_not_unit queues unit =
    option_or (option_map Running unit.claim)
    (option_or (option_map Failed unit.mark)
    (option_or (first_stopped queues unit.keys)
    (first_behind unit.tid queues unit.keys)))

-- why the unit of an id is not offered; that it is not there comes first
abbrev pub why_not : TidOf → QueuesOf → Option NotOffered
why_not tid queues = option_map_or (why_not_unit queues) (unit_of tid queues) (Some Unknown)
