use Rattle.std.proofs.Common.{true, ap, refl, subst, ◌∙◌}
use Rattle.trfc_protocol.specs.Worlds.{claim_of}
use Rattle.unit_works.specs.Events.{is_end}
use Rattle.unit_works.specs.steps.Arriving.{ClaimsAre, Tells, run_held}
use Rattle.unit_works.proofs.ClaimLemmas.{found-last, left-last, stands-found_in}
use Rattle.unit_works.proofs.TripLemmas.{answered-run, run-holds}
use Rattle.unit_works.proofs.WorkedLemmas.{meaning, still}
use Rattle.unit_works.proofs.answering.answer_of.Goals as goal

pub returns-in-New-clause-went : goal.returns-in-New-clause-went
returns-in-New-clause-went g c = still g.V.Volumes.disk is_end true c.args.landscape.now c.args.landscape.now refl

pub returns-in-Known-clause-went : goal.returns-in-Known-clause-went
returns-in-Known-clause-went g c = still g.V.Volumes.disk is_end true c.args.landscape.now c.args.landscape.now refl

pub returns-in-Busy-clause-went : goal.returns-in-Busy-clause-went
returns-in-Busy-clause-went g c = still g.V.Volumes.disk is_end true c.args.landscape.now c.args.landscape.now refl

pub returns-in-SysFail-clause-went : goal.returns-in-SysFail-clause-went
returns-in-SysFail-clause-went g c = still g.V.Volumes.disk is_end true c.args.landscape.now c.args.landscape.now refl

pub returns-in-Down-clause-went : goal.returns-in-Down-clause-went
returns-in-Down-clause-went g c = still g.V.Volumes.disk is_end true c.args.landscape.now c.args.landscape.now refl

pub returns-in_ok-finished-in-Run-clause-grew : goal.returns-in_ok-finished-in-Run-clause-grew
returns-in_ok-finished-in-Run-clause-grew g c = λ unit given others named tells claims.
    let told = subst (Tells given unit) c.in-Run.is tells in
    let are = subst (ClaimsAre c.args.landscape.now.world.claims others) c.in-Run.is claims in
    answered-run (meaning c.args.landscape.now.world.rules) c.args.landscape.now unit given others c.in-Run.claim told are named
    c.finish.new.landscape c.in_ok-finished-in-Run.finished c.after_run.result.given
    (c.in_ok-finished-in-Run.ensures.grew (run_held c.in-Run.claim)
    (run-holds (meaning c.args.landscape.now.world.rules) c.args.landscape.now unit given others c.in-Run.claim told are))
    c.after_run.ensures.says

pub returns-in_ok-finished-in-Run-clause-claims : goal.returns-in_ok-finished-in-Run-clause-claims
returns-in_ok-finished-in-Run-clause-claims g c = λ others claims.
    let are = subst (ClaimsAre c.args.landscape.now.world.claims others) c.in-Run.is claims in
    let held = run_held c.in-Run.claim in
    left-last c.args.landscape.now.world c.finish.new.landscape.world others held c.in-Run.claim.number refl are.1 are.0
    (c.in_ok-finished-in-Run.ensures.left (stands-found_in c.args.landscape.now.world c.in-Run.claim held
    (ap (claim_of c.in-Run.claim.number) are.0 ∙ found-last c.in-Run.claim.number others held refl are.1) refl refl))
