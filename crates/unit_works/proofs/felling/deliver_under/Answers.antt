use Rattle.std.proofs.Common.{true, sym, ap, subst, ◌≡◌, ◌&&◌, Some, ◌∙◌}
use Rattle.unit_core.specs.declared.ale_unit.AleUnit.{AleUnit}
use Rattle.trfc_protocol.specs.Worlds.{committed_unit, is_up}
use Rattle.unit_works.specs.Events.{falls_under, is_delivery}
use Rattle.unit_works.specs.steps.Felling.{FellIf}
use Rattle.unit_works.proofs.WorkedLemmas.{answered-under, gone-on, handled-under, meaning, on}
use Rattle.unit_works.proofs.felling.deliver_under.Goals as goal

pub returns-clause-went : goal.returns-clause-went
returns-clause-went g c =
    on g.V.Volumes.disk (is_delivery c.args.letter) true c.args.landscape.now c.deliver.new.landscape c.fall_under.new.landscape
    c.in_ok-answered.ensures.went c.fall_under.ensures.went

pub returns-clause-answered : goal.returns-clause-answered
returns-clause-answered g c =
    let answered = c.in_ok-answered.answered in
    answered-under g.V.Volumes.disk c.args.landscape.now.world c.deliver.new.landscape.world c.fall_under.new.landscape.world answered.finished
    c.in_ok-answered.ensures.answered c.fall_under.ensures.finished

pub returns-clause-claims : goal.returns-clause-claims
returns-clause-claims g c =
    gone-on g.V.Volumes.disk (is_delivery c.args.letter) (is_delivery c.args.letter) true c.args.landscape.now c.deliver.new.landscape
    c.fall_under.new.landscape c.in_ok-answered.ensures.went c.fall_under.ensures.went c.args.landscape.now.world.claims
    c.in_ok-answered.ensures.claims c.fall_under.ensures.claims

pub returns-clause-grew : goal.returns-clause-grew
returns-clause-grew g c =
    let answered = c.in_ok-answered.answered in
    handled-under g.V.Volumes.disk c.args.landscape.now c.deliver.new.landscape c.fall_under.new.landscape c.args.claim.now c.args.letter answered.given
    c.in_ok-answered.ensures.went c.in_ok-answered.ensures.grew
    (λ unit named. c.fall_under.ensures.fell unit
    (ap (committed_unit (meaning c.deliver.new.landscape.world.rules) c.deliver.new.landscape.world) c.tid.ensures ∙ named))
