use Rattle.std.proofs.Common.{refl, sym, subst}
use Rattle.trfc_protocol.specs.declared.held.HeldKind.TheVariants.{Direct}
use Rattle.unit_landscape.specs.InStep.{AreInStep}
use Rattle.unit_landscape.proofs.InStepLemmas.{in_step-direct}
use Rattle.unit_landscape.proofs.world_tables.WorldTables.claim_direct.Goals as goal

pub returns-clause-in_step : goal.returns-clause-in_step
returns-clause-in_step g c =
    subst (λ w. AreInStep g.A.Application.stands (g.R.Rules.meaning w.rules) w.systems w.claims c.args.self.now.tables) (sym c.in_ok-claim.ensures.ok)
    (in_step-direct g.A.Application.stands (g.R.Rules.meaning c.args.self.now.world.rules) c.args.self.now.world.claims
    (record { number = c.args.self.now.world.next_number; tid = c.args.tid; system = c.args.system; kind = Direct }) c.args.self.now.world.systems
    c.args.self.now.tables refl c.requires.in_step)
