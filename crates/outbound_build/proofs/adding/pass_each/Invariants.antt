use Rattle.std.proofs.Common.{take}
use Rattle.outbound_build.specs.Statuses.{passed_for}
use Rattle.outbound_build.specs.steps.Adding.{Gets}
use Rattle.outbound_build.proofs.adding.pass_each.Given as goal

abbrev pub invariant-loop-number : goal.invariant-loop-number
invariant-loop-number l = Gets l.by (passed_for l.status (take l.number-index l.numbers)) l.fn.statuses l.statuses
