use Rattle.std.proofs.Common.{◌≡◌, drop}
use Rattle.plain_queues.specs.Offered.{first_behind}
use Rattle.plain_queues.proofs.queues.Queues.first_behind.Given as goal

-- what is left of the keys decides
abbrev pub invariant-loop-key : goal.invariant-loop-key
invariant-loop-key l = first_behind l.tid l.self l.keys ≡ first_behind l.tid l.self (drop l.key-index l.keys)
