-- The line of a queue, by its number.
use Rattle.std.specs.Prelude.{ℕ, Option, Some, List, length, slice_get}
use Rattle.std.specs.Option.{option_map, option_and_then}
use Rattle.plain_queues.specs.declared.queue_status.QueueStatus.{QueueStatus}
use Rattle.plain_queues.specs.declared.queue_count.QueueCount.{QueueCount}
use Rattle.multi_queue.specs.declared.entry.Entry.{Entry}
use Rattle.multi_queue.specs.declared.entry.Lane.{Lane}
use Rattle.multi_queue.specs.Seen.{status_of_lane}

-- the line of a queue that has this status
abbrev pub line_with : Lane → QueueStatus → QueueCount
line_with w status = record { key = w.key; count = length w.line; status = status }

-- the line of the queue of a number, where it holds a unit
abbrev pub line_at : List Entry → List Lane → List ℕ → ℕ → Option QueueCount
line_at units lanes counts q =
    option_and_then (λ (w : Lane). option_map (line_with w) (status_of_lane units lanes counts (Some w))) (slice_get lanes q)
