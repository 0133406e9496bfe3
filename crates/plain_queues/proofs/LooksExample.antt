-- How many entries a finish may look at, reckoned by hand: 1.1 is in X and Y, 1.2 in X, 1.3 in Y and Z, 1.4 in Z, added in this order.
use Rattle.std.proofs.Common.{◌≡◌, ℕ, [], ◌∷◌, refl}
use Rattle.ale_base.specs.Tid.{TidOf}
use Rattle.plain_queues.specs.declared.queue_key.QueueKey.{QueueKey}
use Rattle.plain_queues.specs.Queues.{QueuesOf}
use Rattle.plain_queues.specs.Changes.{finished, most_looks, new_unit}

abbrev unit : ℕ → TidOf
unit number = record { system = 1; unit = number }

-- the queue whose name is this byte
abbrev queue : ℕ → QueueKey
queue letter = record { partner = 2; name = letter ∷ [] }

abbrev four_units : QueuesOf
four_units = record {
  units = new_unit (unit 1) (queue 88 ∷ queue 89 ∷ []) ∷ new_unit (unit 2) (queue 88 ∷ []) ∷ new_unit (unit 3) (queue 89 ∷ queue 90 ∷ [])
      ∷ new_unit (unit 4) (queue 90 ∷ []) ∷ [];
  stops = [];
}

-- two queues, and 1.2 and 1.3 head one of them each
pub looks-first : most_looks (unit 1) four_units ≡ 4
looks-first = refl

-- then two queues, and 1.4 heads one of them
pub looks-second : most_looks (unit 3) (finished (unit 1) four_units) ≡ 3
looks-second = refl
