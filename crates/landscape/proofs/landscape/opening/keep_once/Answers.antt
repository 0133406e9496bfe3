use Rattle.std.proofs.Common.{sym, subst}
use Rattle.landscape.specs.declared.open_end.OpenWhy.TheVariants as why
use Rattle.landscape.specs.declared.open_end.Refused.TheVariants as refused
use Rattle.landscape.specs.steps.Opening.{AreBegunSoFar, HasEnded}
use Rattle.landscape.proofs.BeginningLemmas.{begun-first, ended-breach, ended-unknown}
use Rattle.landscape.proofs.landscape.opening.keep_once.Goals as goal

pub returns-in-Ok-None-clause-ends : goal.returns-in-Ok-None-clause-ends
returns-in-Ok-None-clause-ends g c set before is =
    subst (AreBegunSoFar g.V.Volumes.disk c.args.systems c.args.text.now set before 0) (sym c.into_kept.ensures.kept)
    (begun-first g.V.Volumes.disk c.args.systems c.args.text.now set before c.args.opening is
    (c.in-Ok-None.ensures.once.0 c.in-Ok-None.field-0-is))

pub returns-in-Ok-Some-clause-ends : goal.returns-in-Ok-Some-clause-ends
returns-in-Ok-Some-clause-ends g c set before is =
    let first = rw c.in-Ok-Some.field-0-is at c.in-Ok-Some.ensures.first in
    subst (λ (v : g.row.V.Denot). HasEnded g.V.Volumes.disk c.args.systems c.args.text.now set before
    (record { why = why.Refused (refused.Breach c.in-Ok-Some.breach); vols = v })) (sym c.into_volumes.ensures)
    (ended-breach g.V.Volumes.disk c.args.systems c.args.text.now set before c.args.opening is c.in-Ok-Some.breach first)

pub returns-in-Err-clause-ends : goal.returns-in-Err-clause-ends
returns-in-Err-clause-ends g c set before is =
    subst (λ (v : g.row.V.Denot). HasEnded g.V.Volumes.disk c.args.systems c.args.text.now set before
    (record { why = why.OutOfMemory; vols = v })) (sym c.into_volumes-in-Err.ensures)
    (ended-unknown g.V.Volumes.disk c.args.systems c.args.text.now set before c.args.opening is)
