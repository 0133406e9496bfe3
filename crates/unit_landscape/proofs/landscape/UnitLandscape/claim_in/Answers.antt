use Rattle.std.proofs.Common.{Some, refl, ap, sym, subst}
use Rattle.ale_base.specs.declared.way.Way.TheVariants.{Incoming}
use Rattle.trfc_protocol.specs.declared.world.World.{World}
use Rattle.unit_landscape.specs.KeptWorlds.{KeptOf}
use Rattle.unit_landscape.specs.declared.claims.InClaim.{InClaim}
use Rattle.unit_landscape.specs.Claiming.{IsFirstIn}
use Rattle.unit_landscape.specs.Calls.{ClaimedIn}
use Rattle.unit_landscape.proofs.OfferedLemmas.{one-sender}
use Rattle.unit_landscape.proofs.ClaimingLemmas.{in-may, landscape-claimed_in, claimed_in}
use Rattle.unit_landscape.proofs.landscape.UnitLandscape.claim_in.Goals as goal

pub claim_next-requires-clause-one : goal.claim_next-requires-clause-one
claim_next-requires-clause-one g c =
    let world = c.self.inside.kept.world in
    one-sender (g.R.Rules.meaning world.rules) (g.met.R.Rules.lawful world.rules) world (c.self.invariant).safe Incoming c.args.system

pub claim_next-requires-clause-may : goal.claim_next-requires-clause-may
claim_next-requires-clause-may g c =
    let world = c.self.inside.kept.world in
    let first =
    subst (λ (k : KeptOf g.row.R.Denot g.row.A.Denot g.row.V.Denot). IsFirstIn (g.R.Rules.meaning k.world.rules) k.world c.args.system c.in-Some.tid)
    (sym c.self.view_is) c.in-Some.ensures in
    in-may (g.R.Rules.meaning world.rules) (g.met.R.Rules.lawful world.rules) world (c.self.invariant).safe c.args.system c.in-Some.tid first

pub invariant_of-self : goal.invariant_of-self
invariant_of-self g c =
    let first =
    subst (λ (k : KeptOf g.row.R.Denot g.row.A.Denot g.row.V.Denot). IsFirstIn (g.R.Rules.meaning k.world.rules) k.world c.args.system c.in-Some.tid)
    (sym c.self.view_is) c.in-Some.ensures in
    landscape-claimed_in g.R.Rules.meaning g.met.R.Rules.lawful c.self.inside.kept c.claim_next.new.self c.args.system c.self.invariant c.in-Some.tid
    c.claim_next.result first c.claim_next.ensures.world c.claim_next.ensures.err

pub invariant_of-self-2 : goal.invariant_of-self-2
invariant_of-self-2 g c =
    let first =
    subst (λ (k : KeptOf g.row.R.Denot g.row.A.Denot g.row.V.Denot). IsFirstIn (g.R.Rules.meaning k.world.rules) k.world c.args.system c.in-Some.tid)
    (sym c.self.view_is) c.in-Some.ensures in
    landscape-claimed_in g.R.Rules.meaning g.met.R.Rules.lawful c.self.inside.kept c.claim_next.new.self c.args.system c.self.invariant c.in-Some.tid
    c.claim_next.result first c.claim_next.ensures.world c.claim_next.ensures.err

pub returns-clause-event : goal.returns-clause-event
returns-clause-event g c =
    let kept = c.self.inside.kept in
    let world = kept.world in
    let first =
    subst (λ (k : KeptOf g.row.R.Denot g.row.A.Denot g.row.V.Denot). IsFirstIn (g.R.Rules.meaning k.world.rules) k.world c.args.system c.in-Some.tid)
    (sym c.self.view_is) c.in-Some.ensures in
    let claim : InClaim =
    record { number = c.in_ok-number.number; tid = c.in-Some.tid; system = c.args.system; opening = c.world.result.now.falls } in
    subst (λ (k : KeptOf g.row.R.Denot g.row.A.Denot g.row.V.Denot).
    ClaimedIn (g.R.Rules.meaning k.world.rules) g.V.Volumes.disk k c.claim_next.new.self c.args.system (Some claim))
    c.self.view_is
    (claimed_in (g.R.Rules.meaning world.rules) (g.met.R.Rules.lawful world.rules) g.V.Volumes.disk kept c.claim_next.new.self
    (c.self.invariant).safe c.args.system claim first c.in_ok-number.ensures.world refl
    (ap (λ (w : World g.row.R.Denot). w.falls) c.world.ensures.world) c.claim_next.ensures.volumes)
