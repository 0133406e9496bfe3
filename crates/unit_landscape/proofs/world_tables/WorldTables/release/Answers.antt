use Rattle.std.proofs.Common.{Some, sym, ap, subst, ◌∙◌}
use Rattle.std.specs.Option.{option_copied}
use Rattle.trfc_protocol.specs.declared.world.World.{World}
use Rattle.trfc_protocol.proofs.ClaimLemmas.{claim_of-Some}
use Rattle.unit_landscape.specs.InStep.{AreInStep}
use Rattle.unit_landscape.specs.Joining.{claims_without}
use Rattle.unit_landscape.proofs.ClaimsLemmas.{claim_at-Contains, numbered-gone, none-gone}
use Rattle.unit_landscape.proofs.world_tables.WorldTables.release.Goals as goal

pub let_go-requires : goal.let_go-requires
let_go-requires g c =
    let found = sym c.claim_of.ensures ∙ ap option_copied c.in-Some.is in
    let has = claim_of-Some c.args.number c.args.self.now.world.claims c.in-Some.held.now found in
    record {
      claims = c.args.self.now.world.claims;
      in_step = c.requires.in_step;
      found = claim_at-Contains c.args.self.now.world.claims c.in-Some.held.now c.requires.apart has.0;
    }

pub returns-clause-in_step : goal.returns-clause-in_step
returns-clause-in_step g c =
    let found = sym c.claim_of.ensures ∙ ap option_copied c.in-Some.is in
    subst (λ w. AreInStep g.A.Application.stands (g.R.Rules.meaning w.rules) w.systems w.claims c.let_go.new.tables) (sym c.release.ensures)
    (c.let_go.ensures c.args.self.now.world.claims (claims_without c.args.self.now.world.claims (Some c.args.number)) c.requires.in_step
    (numbered-gone c.args.number c.in-Some.held.now c.args.self.now.world.claims c.requires.apart found))

pub returns-in_default-clause-world : goal.returns-in_default-clause-world
returns-in_default-clause-world g c =
    let none = sym c.claim_of.ensures ∙ ap option_copied c.in_default.is in
    ap (λ claims. let w : World g.row.R.Denot = record c.args.self.now.world { claims = claims } in w)
    (sym (none-gone c.args.number c.args.self.now.world.claims none))
