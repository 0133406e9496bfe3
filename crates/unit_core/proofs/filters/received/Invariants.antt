use Rattle.std.proofs.Common.{◌≡◌, take}
use Rattle.unit_core.specs.Filters.{received}
use Rattle.unit_core.proofs.filters.received.Given as goal

abbrev pub invariant-loop-record : goal.invariant-loop-record
invariant-loop-record l = l.units.items ≡ received (take l.record-index l.log)
