use Rattle.trfc_protocol.specs.declared.event.Event.TheVariants as event
use Rattle.trfc_protocol.specs.declared.event.Action.TheVariants.{Revoke}
use Rattle.unit_landscape.proofs.EndsLemmas.{landscape-step}
use Rattle.unit_landscape.proofs.landscape.UnitLandscape.revoke.Goals as goal

pub invariant_of-self : goal.invariant_of-self
invariant_of-self g c =
    landscape-step g.R.Rules.meaning g.met.R.Rules.lawful c.self.inside.kept.world c.revoke.new.self.world (event.Operator Revoke) c.self.invariant
    c.revoke.ensures.world
