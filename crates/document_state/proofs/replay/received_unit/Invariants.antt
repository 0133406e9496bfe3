use Rattle.std.proofs.Common.{◌≡◌, drop}
use Rattle.unit_core.specs.Filters.{received}
use Rattle.unit_core.specs.Queues.{unit_named}
use Rattle.document_state.proofs.replay.received_unit.Given as goal

abbrev pub invariant-loop-record : goal.invariant-loop-record
invariant-loop-record l = unit_named l.tid (received (drop l.record-index l.log)) ≡ unit_named l.tid (received l.log)
