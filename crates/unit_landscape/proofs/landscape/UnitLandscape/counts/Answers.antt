use Rattle.std.proofs.Common.{subst, arith}
use Rattle.unit_landscape.specs.KeptWorlds.{KeptOf}
use Rattle.unit_landscape.specs.Counted.{AreInOrder}
use Rattle.unit_landscape.proofs.WorldTotals.{in_order}
use Rattle.unit_landscape.proofs.landscape.UnitLandscape.counts.Goals as goal

pub committed-requires-clause-few : goal.committed-requires-clause-few
committed-requires-clause-few g c =
    let world = c.self.inside.kept.world in
    let law = g.met.R.Rules.lawful world.rules in
    let order = in_order (g.R.Rules.meaning world.rules) law world (c.self.invariant).safe in
    let most = order.most in
    let systems = law.systems_most in
    omega (arith, most, systems)

pub received-requires-clause-few : goal.received-requires-clause-few
received-requires-clause-few g c =
    let world = c.self.inside.kept.world in
    let law = g.met.R.Rules.lawful world.rules in
    let order = in_order (g.R.Rules.meaning world.rules) law world (c.self.invariant).safe in
    let most = order.most in
    let received = order.received in
    let systems = law.systems_most in
    omega (arith, most, received, systems)

pub executed-requires-clause-few : goal.executed-requires-clause-few
executed-requires-clause-few g c =
    let world = c.self.inside.kept.world in
    let law = g.met.R.Rules.lawful world.rules in
    let order = in_order (g.R.Rules.meaning world.rules) law world (c.self.invariant).safe in
    let most = order.most in
    let received = order.received in
    let executed = order.executed in
    let systems = law.systems_most in
    omega (arith, most, received, executed, systems)

pub returns-clause-order : goal.returns-clause-order
returns-clause-order g c =
    let world = c.self.inside.kept.world in
    subst (λ (k : KeptOf g.row.R.Denot g.row.A.Denot g.row.V.Denot). AreInOrder (g.R.Rules.meaning k.world.rules) k.world) c.self.view_is
    (in_order (g.R.Rules.meaning world.rules) (g.met.R.Rules.lawful world.rules) world (c.self.invariant).safe)
