use Rattle.std.proofs.Common.{sym, subst, ◌∙◌}
use Rattle.trfc_protocol.specs.declared.answer.Answer.TheVariants as answer
use Rattle.trfc_protocol.specs.declared.event.Event.TheVariants as event
use Rattle.unit_landscape.specs.Kept.{IsLandscape}
use Rattle.unit_landscape.specs.Appending.{Arrives}
use Rattle.unit_landscape.proofs.EndsLemmas.{landscape-step}
use Rattle.unit_landscape.proofs.ArrivingLemmas.{arrival-after}
use Rattle.unit_landscape.proofs.landscape.UnitLandscape.begin_run.Goals.{in-Ok, in-Err}
use Rattle.unit_landscape.proofs.landscape.UnitLandscape.begin_run.Goals as goal

pub invariant_of-self : goal.invariant_of-self
invariant_of-self g c =
    let world = c.self.inside.kept.world in
    let rules = g.R.Rules.meaning c.self.inside.kept.world.rules in
    let arrives = subst (λ k. Arrives (g.R.Rules.meaning k.world.rules) k.world c.args.unit.now answer.Run) (sym c.self.view_is) c.requires in
    elim c.match-claim_direct.branch [
      | in-Ok w ↦
          landscape-step g.R.Rules.meaning g.met.R.Rules.lawful world c.claim_direct.new.self.world (event.Arrive c.args.unit.now.tid) c.self.invariant
          (w.in-Ok.ensures.world.1 ∙ sym (arrival-after rules world c.args.unit.now answer.Run arrives))
      | in-Err w ↦ subst (λ k. IsLandscape g.R.Rules.meaning k.world) (sym w.in-Err.ensures.err) c.self.invariant
    ]
