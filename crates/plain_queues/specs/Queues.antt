-- Units in queues, as all of them together are seen. That a unit may be in several queues is this project's own.
use Rattle.std.specs.Prelude.{ℕ, Bool, Option, List, [], map, filter, find}
use Rattle.std.specs.Option.{option_and_then}
use Rattle.ale_base.specs.Tid.{TidOf, is_tid}
use Rattle.ale_base.specs.declared.mark.Mark.{Mark}
use Rattle.plain_queues.specs.declared.queue_key.QueueKey.{QueueKey}
use Rattle.plain_queues.specs.declared.queued_unit.QueuedUnit.{QueuedUnit}
use Rattle.plain_queues.specs.Keys.{has_key}

-- the units that were added and are not finished, in the order in which they were added, and the queues that are stopped
pub record QueuesOf : Type 0 where
  pub units : List QueuedUnit
  pub stops : List QueueKey

-- no units, and no queue is stopped
abbrev pub no_queues : QueuesOf
no_queues = record { units = []; stops = [] }

-- whether a queue is stopped
abbrev pub is_stopped : QueueKey → QueuesOf → Bool
is_stopped key queues = has_key key queues.stops

-- the unit of this id
abbrev pub unit_of : TidOf → QueuesOf → Option QueuedUnit
unit_of tid queues = find (λ unit. is_tid unit.tid tid) queues.units

-- the number of the claim on the unit of this id
abbrev pub claim_of : TidOf → QueuesOf → Option ℕ
claim_of tid queues = option_and_then (λ (unit : QueuedUnit). unit.claim) (unit_of tid queues)

-- the mark of the unit of this id
abbrev pub mark_on : TidOf → QueuesOf → Option Mark
mark_on tid queues = option_and_then (λ (unit : QueuedUnit). unit.mark) (unit_of tid queues)

-- the units of a queue, in order
abbrev pub in_queue : QueueKey → QueuesOf → List QueuedUnit
in_queue key queues = filter (λ unit. has_key key unit.keys) queues.units

-- the unit that heads a queue: the first one in it
abbrev pub head_of : QueueKey → QueuesOf → Option QueuedUnit
head_of key queues = find (λ unit. has_key key unit.keys) queues.units

-- the ids of units
abbrev pub tids_of : List QueuedUnit → List TidOf
tids_of units = map (λ (unit : QueuedUnit). unit.tid) units
