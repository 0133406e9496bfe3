-- The queues as an operator lists them. This project's own.
use Rattle.std.specs.Prelude.{◌≡◌, Some, List, map, length, is_some, All}
use Rattle.std.specs.declared.cmp.Ordering.{Ordering}
use Rattle.std.specs.Ordering.{ordering_then, nat_cmp}
use Rattle.std.specs.Cmp.Lexicographic.{slice_cmp}
use Rattle.std.specs.List.Sorted.{IsStrictlySortedBy}
use Rattle.plain_queues.specs.declared.queue_key.QueueKey.{QueueKey}
use Rattle.plain_queues.specs.declared.queue_count.QueueCount.{QueueCount}
use Rattle.plain_queues.specs.Keys.{has_key}
use Rattle.plain_queues.specs.Queues.{QueuesOf, in_queue}
use Rattle.plain_queues.specs.Status.{status_of}

-- the order of keys: by the number of the partner, then by the name in byte order
abbrev pub key_cmp : QueueKey → QueueKey → Ordering
key_cmp a b = ordering_then (nat_cmp a.partner b.partner) (slice_cmp nat_cmp a.name b.name)

-- the keys of lines
abbrev pub keys_of : List QueueCount → List QueueKey
keys_of lines = map (λ (line : QueueCount). line.key) lines

-- a line tells of its queue how many units it holds, and its status
pub record IsLineOf (queues : QueuesOf) (line : QueueCount) : Type 0 where
  pub count : line.count ≡ length (in_queue line.key queues)
  pub status : status_of line.key queues ≡ Some line.status

-- lines are those of the queues: in ascending order, so that no queue has two; a queue has one exactly where it has a status, which is
-- where it holds a unit; and each tells of its queue
pub record AreLinesOf (queues : QueuesOf) (lines : List QueueCount) : Type 0 where
  pub ascending : IsStrictlySortedBy key_cmp (keys_of lines)
  pub listed : (key : QueueKey) → has_key key (keys_of lines) ≡ is_some (status_of key queues)
  pub each : All (IsLineOf queues) lines
