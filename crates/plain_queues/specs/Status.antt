-- The status of a queue, as an operator sees it. SAP Library, queued RFC, has the names; which one comes first is this project's own.
use Rattle.std.specs.Prelude.{Option, is_some, if◌then◌else◌}
use Rattle.std.specs.List.{list_any, list_all}
use Rattle.std.specs.Option.{option_map, option_map_or}
use Rattle.ale_base.specs.declared.mark.Mark.{Mark}
use Rattle.ale_base.specs.declared.mark.Mark.TheVariants.{Cpicerr as NoAnswer, Sysfail as NotThere}
use Rattle.plain_queues.specs.declared.queue_key.QueueKey.{QueueKey}
use Rattle.plain_queues.specs.declared.queued_unit.QueuedUnit.{QueuedUnit}
use Rattle.plain_queues.specs.declared.queue_status.QueueStatus.{QueueStatus}
use Rattle.plain_queues.specs.declared.queue_status.QueueStatus.TheVariants.{Stop, Running, Sysfail, Cpicerr, Waitstop, Waiting, Ready}
use Rattle.plain_queues.specs.Queues.{QueuesOf, head_of, is_stopped}
use Rattle.plain_queues.specs.Offered.{heads}

-- the status that a mark gives
abbrev pub status_of_mark : Mark → QueueStatus
status_of_mark NoAnswer = Cpicerr
status_of_mark NotThere = Sysfail

-- the status of a queue whose head is free: it waits where a queue of the head is stopped, and then where another unit heads one.
-- The queue itself is not stopped, and it is headed by this unit, so such a queue is another one
abbrev pub status_of_free : QueuesOf → QueuedUnit → QueueStatus
status_of_free queues unit =
    if list_any (λ key. is_stopped key queues) unit.keys then Waitstop
    else (if list_all (heads unit.tid queues) unit.keys then Ready else Waiting)

-- the status of a queue by its head: the first that applies
abbrev pub status_by_head : QueueKey → QueuesOf → QueuedUnit → QueueStatus
status_by_head key queues unit =
    if is_stopped key queues then Stop
    else (if is_some unit.claim then Running
    else option_map_or status_of_mark unit.mark (status_of_free queues unit))

-- the status of a queue; an empty one has none
abbrev pub status_of : QueueKey → QueuesOf → Option QueueStatus
status_of key queues = option_map (status_by_head key queues) (head_of key queues)
