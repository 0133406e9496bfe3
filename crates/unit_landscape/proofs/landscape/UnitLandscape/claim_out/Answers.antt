use Rattle.std.proofs.Common.{sym, subst}
use Rattle.ale_base.specs.declared.way.Way.TheVariants.{Outgoing}
use Rattle.unit_landscape.specs.KeptWorlds.{KeptOf}
use Rattle.unit_landscape.specs.Claiming.{IsFirstOut}
use Rattle.unit_landscape.proofs.OfferedLemmas.{one-sender}
use Rattle.unit_landscape.proofs.ClaimingLemmas.{landscape-claimed_out, out-may}
use Rattle.unit_landscape.proofs.landscape.UnitLandscape.claim_out.Goals as goal

pub claim_next-requires-clause-one : goal.claim_next-requires-clause-one
claim_next-requires-clause-one g c =
    let world = c.self.inside.kept.world in
    one-sender (g.R.Rules.meaning world.rules) (g.met.R.Rules.lawful world.rules) world (c.self.invariant).safe Outgoing c.args.system

pub claim_next-requires-clause-may : goal.claim_next-requires-clause-may
claim_next-requires-clause-may g c =
    let world = c.self.inside.kept.world in
    let first =
    subst (λ (k : KeptOf g.row.R.Denot g.row.A.Denot g.row.V.Denot). IsFirstOut (g.R.Rules.meaning k.world.rules) k.world c.args.system c.in-Some.unit.now)
    (sym c.self.view_is) c.in-Some.ensures in
    out-may (g.R.Rules.meaning world.rules) (g.met.R.Rules.lawful world.rules) world (c.self.invariant).safe c.args.system c.in-Some.unit.now first

pub invariant_of-self : goal.invariant_of-self
invariant_of-self g c =
    let first =
    subst (λ (k : KeptOf g.row.R.Denot g.row.A.Denot g.row.V.Denot). IsFirstOut (g.R.Rules.meaning k.world.rules) k.world c.args.system c.in-Some.unit.now)
    (sym c.self.view_is) c.in-Some.ensures in
    landscape-claimed_out g.R.Rules.meaning g.met.R.Rules.lawful c.self.inside.kept c.claim_next.new.self c.args.system c.self.invariant c.in-Some.unit.now
    c.claim_next.result first c.claim_next.ensures.world c.claim_next.ensures.err

pub invariant_of-self-2 : goal.invariant_of-self-2
invariant_of-self-2 g c =
    let first =
    subst (λ (k : KeptOf g.row.R.Denot g.row.A.Denot g.row.V.Denot). IsFirstOut (g.R.Rules.meaning k.world.rules) k.world c.args.system c.in-Some.unit.now)
    (sym c.self.view_is) c.in-Some.ensures in
    landscape-claimed_out g.R.Rules.meaning g.met.R.Rules.lawful c.self.inside.kept c.claim_next.new.self c.args.system c.self.invariant c.in-Some.unit.now
    c.claim_next.result first c.claim_next.ensures.world c.claim_next.ensures.err
