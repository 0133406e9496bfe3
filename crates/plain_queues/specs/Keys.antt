-- Keys of queues. SAP Library, queued RFC: an outbound queue belongs to a destination; an inbound one has partner 0.
use Rattle.std.specs.Prelude.{Bool, true, not, ◌==◌, ◌&&◌, List, [], ◌∷◌, nat_eq}
use Rattle.std.specs.List.{list_any}
use Rattle.std.specs.Cmp.Lexicographic.{pointwise}
use Rattle.plain_queues.specs.declared.queue_key.QueueKey.{QueueKey}

-- whether two keys are the same
abbrev pub is_key : QueueKey → QueueKey → Bool
is_key a b = (a.partner == b.partner) && pointwise nat_eq a.name b.name

-- whether a key is among these
abbrev pub has_key : QueueKey → List QueueKey → Bool
has_key key keys = list_any (λ other. is_key other key) keys

-- whether no key stands twice in a list
abbrev pub keys_differ : List QueueKey → Bool
keys_differ [] = true
keys_differ (key ∷ keys) = not (has_key key keys) && keys_differ keys
