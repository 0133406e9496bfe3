use Rattle.std.proofs.Common.{refl, sym, ap, subst, ◌∙◌}
use Rattle.trfc_protocol.specs.Worlds.{with_claim}
use Rattle.unit_landscape.specs.Claims.{kind_of}
use Rattle.unit_landscape.specs.InStep.{AreInStep}
use Rattle.unit_landscape.proofs.InStepLemmas.{in_step-made}
use Rattle.unit_landscape.proofs.world_tables.WorldTables.claim_next.Goals as goal

pub returns-clause-in_step : goal.returns-clause-in_step
returns-clause-in_step g c =
    subst (λ w. AreInStep g.A.Application.stands (g.R.Rules.meaning w.rules) w.systems w.claims c.claim_next.new.tables)
    (sym (c.in_ok-claim.ensures.ok ∙ ap (with_claim c.args.self.now.world c.args.tid c.args.system) c.kind_of.ensures))
    (in_step-made g.A.Application.stands (g.R.Rules.meaning c.args.self.now.world.rules) c.args.way c.args.self.now.world.systems c.args.self.now.world.claims
    c.args.self.now.tables c.claim_next.new.tables
    (record { number = c.args.self.now.world.next_number; tid = c.args.tid; system = c.args.system; kind = kind_of c.args.way })
    refl c.requires.up c.requires.in_step (λ its got. (c.requires.next its got).offered) c.claim_next.ensures)
