use Rattle.std.specs.List.{flat_map}
use Rattle.std.proofs.Common.{take}
use Rattle.status_log.specs.Statuses.{plain}
use Rattle.outbound_build.specs.Statuses.{passed_for}
use Rattle.outbound_build.specs.steps.Adding.{Gets}
use Rattle.outbound_build.proofs.adding.pass_all.Given as goal

abbrev pub invariant-loop-one : goal.invariant-loop-one
invariant-loop-one l = Gets l.by (λ doc. flat_map (λ one. passed_for (plain 3) one.documents doc) (take l.one-index l.units)) l.fn.statuses l.statuses
