use Rattle.std.specs.Result.{is_ok}
use Rattle.std.proofs.Common.{true, refl}
use Rattle.unit_works.specs.Events.{is_end}
use Rattle.unit_works.proofs.ClaimLemmas.{held-in}
use Rattle.unit_works.proofs.WorkedLemmas.{still}
use Rattle.unit_works.proofs.ending.finish_prepared.Goals as goal

pub returns-in-None-clause-went : goal.returns-in-None-clause-went
returns-in-None-clause-went g c = still g.V.Volumes.disk is_end true c.args.landscape.now c.args.landscape.now refl

pub returns-in_err-prepared_for-clause-went : goal.returns-in_err-prepared_for-clause-went
returns-in_err-prepared_for-clause-went g c = still g.V.Volumes.disk is_end (is_ok c.from_residual.result) c.args.landscape.now c.args.landscape.now refl

pub returns-in-None-clause-left : goal.returns-in-None-clause-left
returns-in-None-clause-left g c = λ stands.
    let there = held-in c.args.landscape.now.world c.args.claim stands in absurd (c.not_finished.ensures.stands there.0 there.1)
