use Rattle.std.proofs.Common.{◌≡◌, ◌≤◌, ◌-◌, None, refl, sym, subst, ◌∙◌}
use Rattle.ale_base.specs.declared.way.Way.TheVariants.{Outgoing, Incoming}
use Rattle.trfc_protocol.specs.declared.held.HeldKind.TheVariants.{Out, In, Direct}
use Rattle.unit_landscape.specs.Claims.{tables_claimed}
use Rattle.unit_landscape.proofs.InStepLemmas.{ChangedAt-same, stands_up, held-in, in_step-claimed_down, in_step-by_kind}
use Rattle.unit_landscape.proofs.letting_go.let_go.Goals as goal

pub returns-then-not-is_up : goal.returns-then-not-is_up
returns-then-not-is_up g c = λ claims after are is.
    in_step-claimed_down g.A.Application.stands (g.R.Rules.meaning c.args.world.now.rules) claims after c.args.held None c.args.world.now.systems
    c.args.tables.now
    (sym c.is_up.ensures ∙ c.if-not-is_up.true) are is

pub release-requires-clause-within : goal.release-requires-clause-within
release-requires-clause-within g c =
    let up = stands_up c.args.world.now.systems c.args.held.system (sym c.is_up.ensures ∙ c.if-not-is_up.false) in
    subst (λ n. c.args.held.system ≤ n) (sym c.requires.in_step.all) up.most

pub release-requires-clause-held : goal.release-requires-clause-held
release-requires-clause-held g c =
    held-in g.A.Application.stands (g.R.Rules.meaning c.args.world.now.rules) Outgoing c.args.world.now.systems c.args.tables.now c.args.held c.in-Out.is
    (sym c.is_up.ensures ∙ c.if-not-is_up.false) c.requires

pub release-requires-in-In-clause-within : goal.release-requires-in-In-clause-within
release-requires-in-In-clause-within g c =
    let up = stands_up c.args.world.now.systems c.args.held.system (sym c.is_up.ensures ∙ c.if-not-is_up.false) in
    subst (λ n. c.args.held.system ≤ n) (sym c.requires.in_step.all) up.most

pub release-requires-in-In-clause-held : goal.release-requires-in-In-clause-held
release-requires-in-In-clause-held g c =
    held-in g.A.Application.stands (g.R.Rules.meaning c.args.world.now.rules) Incoming c.args.world.now.systems c.args.tables.now c.args.held c.in-In.is
    (sym c.is_up.ensures ∙ c.if-not-is_up.false) c.requires

pub returns-in-Out : goal.returns-in-Out
returns-in-Out g c = λ claims after are is.
    in_step-by_kind g.A.Application.stands (g.R.Rules.meaning c.args.world.now.rules) claims after c.args.held None Out c.args.world.now.systems
    c.args.tables.now
    c.release.new.tables c.in-Out.is (stands_up c.args.world.now.systems c.args.held.system (sym c.is_up.ensures ∙ c.if-not-is_up.false)).least
    c.release.ensures are is

pub returns-in-In : goal.returns-in-In
returns-in-In g c = λ claims after are is.
    in_step-by_kind g.A.Application.stands (g.R.Rules.meaning c.args.world.now.rules) claims after c.args.held None In c.args.world.now.systems
    c.args.tables.now
    c.release-in-In.new.tables c.in-In.is (stands_up c.args.world.now.systems c.args.held.system (sym c.is_up.ensures ∙ c.if-not-is_up.false)).least
    c.release-in-In.ensures are is

pub returns-in-Direct : goal.returns-in-Direct
returns-in-Direct g c = λ claims after are is.
    in_step-by_kind g.A.Application.stands (g.R.Rules.meaning c.args.world.now.rules) claims after c.args.held None Direct c.args.world.now.systems
    c.args.tables.now
    c.args.tables.now c.in-Direct.is (stands_up c.args.world.now.systems c.args.held.system (sym c.is_up.ensures ∙ c.if-not-is_up.false)).least
    (ChangedAt-same (λ old now. now ≡ tables_claimed Direct c.args.held.tid None old) (c.args.held.system - 1) c.args.tables.now (λ x. refl)) are is
