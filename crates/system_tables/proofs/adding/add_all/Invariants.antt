use Rattle.std.proofs.Common.{◌≡◌, drop}
use Rattle.plain_queues.specs.LogQueues.{added_all}
use Rattle.system_tables.specs.CanNote.{CanAddAll}
use Rattle.system_tables.proofs.adding.add_all.Given as goal

-- the units that are left may be added, and make of the queues what all units do
abbrev pub invariant-loop-unit : goal.invariant-loop-unit
invariant-loop-unit l = record {
  can : CanAddAll l.way (drop l.unit-index l.more) l.queues;
  rest : added_all l.way (drop l.unit-index l.more) l.queues ≡ added_all l.way l.more l.initial.queues;
}
