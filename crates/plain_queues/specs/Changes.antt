-- What each call changes.
use Rattle.std.specs.Prelude.{◌≡◌, ℕ, ◌+◌, Bool, false, not, ◌&&◌, ◌||◌, Option, Some, None, List, [], ◌∷◌, ◌++◌, map, filter, length, count_by, if◌then◌else◌}
use Rattle.std.specs.Option.{option_map_or}
use Rattle.ale_base.specs.Tid.{TidOf, is_tid}
use Rattle.ale_base.specs.declared.mark.Mark.{Mark}
use Rattle.plain_queues.specs.declared.queue_key.QueueKey.{QueueKey}
use Rattle.plain_queues.specs.declared.queued_unit.QueuedUnit.{QueuedUnit}
use Rattle.plain_queues.specs.Keys.{is_key}
use Rattle.plain_queues.specs.Queues.{QueuesOf, unit_of, head_of, is_stopped}
use Rattle.plain_queues.specs.Offered.{has_tid}

-- a unit of this id, changed; any other one stays
abbrev pub changed_if : (QueuedUnit → QueuedUnit) → TidOf → QueuedUnit → QueuedUnit
changed_if change tid unit = if is_tid unit.tid tid then change unit else unit

-- the unit of an id is changed; all others and the stops stay
abbrev pub changed : (QueuedUnit → QueuedUnit) → TidOf → QueuesOf → QueuesOf
changed change tid queues = record queues { units = map (changed_if change tid) queues.units }

-- a unit as it is added
abbrev pub new_unit : TidOf → List QueueKey → QueuedUnit
new_unit tid keys = record { tid = tid; keys = keys; claim = None; mark = None }

-- a unit is added behind all others
abbrev pub added : TidOf → List QueueKey → QueuesOf → QueuesOf
added tid keys queues = record queues { units = queues.units ++ new_unit tid keys ∷ [] }

-- the unit is claimed under this number
abbrev pub claimed : ℕ → TidOf → QueuesOf → QueuesOf
claimed number tid queues = changed (λ unit. record unit { claim = Some number }) tid queues

-- the claim on the unit is gone
abbrev pub released : TidOf → QueuesOf → QueuesOf
released tid queues = changed (λ unit. record unit { claim = None }) tid queues

-- the claim on the unit is gone, and the unit is marked
abbrev pub marked : Mark → TidOf → QueuesOf → QueuesOf
marked mark tid queues = changed (λ unit. record unit { mark = Some mark }) tid (released tid queues)

-- the unit's mark is gone
abbrev pub retried : TidOf → QueuesOf → QueuesOf
retried tid queues = changed (λ unit. record unit { mark = None }) tid queues

-- the unit is gone from all its queues
abbrev pub finished : TidOf → QueuesOf → QueuesOf
finished tid queues = record queues { units = filter (λ unit. not (is_tid unit.tid tid)) queues.units }

-- a queue is stopped; all units and all other stops stay
pub record Stops (key : QueueKey) (before after : QueuesOf) : Type 0 where
  pub units : after.units ≡ before.units
  pub stops : (other : QueueKey) → is_stopped other after ≡ (is_key key other || is_stopped other before)

-- a queue is started; all units and all other stops stay
pub record Starts (key : QueueKey) (before after : QueuesOf) : Type 0 where
  pub units : after.units ≡ before.units
  pub stops : (other : QueueKey) → is_stopped other after ≡ (not (is_key key other) && is_stopped other before)

-- whether a queue has a head now, and had none or another one before
abbrev pub is_new_head : Option QueuedUnit → Option QueuedUnit → Bool
is_new_head before None = false
is_new_head before (Some unit) = not (has_tid unit.tid before)

-- how many of these queues are headed after by a unit that did not head them before
abbrev pub new_heads : QueuesOf → QueuesOf → List QueueKey → ℕ
new_heads before after keys = count_by (λ key. is_new_head (head_of key before) (head_of key after)) keys

-- how many queue entries are looked at, at most, where the unit of an id is finished: one for each of its queues, and one for
-- each of them that another unit heads from then on. All other queues keep their heads
abbrev pub most_looks : TidOf → QueuesOf → ℕ
most_looks tid queues =
    option_map_or (λ (unit : QueuedUnit). length unit.keys + new_heads queues (finished tid queues) unit.keys) (unit_of tid queues) 0
