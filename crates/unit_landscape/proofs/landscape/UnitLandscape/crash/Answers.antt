use Rattle.std.proofs.Common.{◌≡◌, None, true, ap, sym, subst, ◌∙◌}
use Rattle.trfc_protocol.specs.declared.world.World.{World}
use Rattle.trfc_protocol.specs.declared.event.Event.TheVariants as event
use Rattle.trfc_protocol.specs.Worlds.{is_up}
use Rattle.unit_landscape.specs.LogAnswers.{KeepsDisk}
use Rattle.unit_landscape.specs.Ends.{Happened}
use Rattle.unit_landscape.proofs.EndsLemmas.{landscape-step, falls-up}
use Rattle.unit_landscape.proofs.HappenedLemmas.{happened-fall}
use Rattle.unit_landscape.proofs.landscape.UnitLandscape.crash.Goals as goal

pub invariant_of-self : goal.invariant_of-self
invariant_of-self g c =
    let world = c.self.inside.kept.world in
    let up : is_up world c.args.system ≡ true =
    ap (λ (w : World g.row.R.Denot). is_up w c.args.system) (sym c.world.ensures.world) ∙ sym c.is_up.ensures ∙ c.if-not-is_up.false in
    landscape-step g.R.Rules.meaning g.met.R.Rules.lawful world c.fall.new.self.world (event.Fall c.args.system None) c.self.invariant
    (c.fall.ensures.world ∙ sym (falls-up (g.R.Rules.meaning world.rules) world c.args.system up))

pub returns-clause-volumes : goal.returns-clause-volumes
returns-clause-volumes g c =
    subst (λ k. KeepsDisk k c.fall.new.self) c.self.view_is (record { journals = c.fall.ensures.journals; vols = c.fall.ensures.vols })

pub returns-clause-event : goal.returns-clause-event
returns-clause-event g c = λ is.
    let kept = c.self.inside.kept in
    let rules = g.R.Rules.meaning c.self.inside.kept.world.rules in
    let up : is_up kept.world c.args.system ≡ true =
    ap (λ (w : World g.row.R.Denot). is_up w c.args.system) (sym c.world.ensures.world) ∙ sym c.is_up.ensures ∙ c.if-not-is_up.false in
    subst (λ k. Happened (g.R.Rules.meaning k.world.rules) g.V.Volumes.disk k c.fall.new.self (event.Fall c.args.system None)) c.self.view_is
    (happened-fall rules g.V.Volumes.disk kept c.fall.new.self c.args.system
    (c.fall.ensures.world ∙ sym (falls-up rules kept.world c.args.system up)) c.fall.ensures.journals c.fall.ensures.vols c.fall.ensures.causes)
