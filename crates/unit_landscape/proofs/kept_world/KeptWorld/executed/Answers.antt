use Rattle.std.proofs.Common.{ℕ, ◌<◌, ◌^◌, length, sym, ap, subst, ◌∙◌}
use Rattle.unit_landscape.specs.KeptWorlds.{KeptOf, IsRoom}
use Rattle.unit_landscape.proofs.CountedLemmas.{sum-executed}
use Rattle.unit_landscape.proofs.kept_world.KeptWorld.executed.Goals as goal

pub executed-requires-clause-few : goal.executed-requires-clause-few
executed-requires-clause-few g c =
    let room = subst (λ (k : KeptOf g.row.R.Denot g.row.A.Denot g.row.V.Denot).
    IsRoom g.R.Rules.meaning g.A.Application.stands g.V.Volumes.disk k c.self.inside.counted) c.self.view_is c.self.invariant in
    subst (λ (n : ℕ). n < 2 ^ 64)
    (sym (sum-executed g.R.Rules.meaning g.met.R.Rules.lawful g.A.Application.stands c.args.self.now c.self.inside.counted c.len.result room.in_step
    room.counted
    c.requires.all (c.len.ensures ∙ ap (λ (k : KeptOf g.row.R.Denot g.row.A.Denot g.row.V.Denot). length k.tables) c.self.view_is)))
    c.requires.few

pub returns : goal.returns
returns g c =
    let room = subst (λ (k : KeptOf g.row.R.Denot g.row.A.Denot g.row.V.Denot).
    IsRoom g.R.Rules.meaning g.A.Application.stands g.V.Volumes.disk k c.self.inside.counted) c.self.view_is c.self.invariant in
    c.executed.ensures
    ∙ sum-executed g.R.Rules.meaning g.met.R.Rules.lawful g.A.Application.stands c.args.self.now c.self.inside.counted c.len.result room.in_step room.counted
    c.requires.all (c.len.ensures ∙ ap (λ (k : KeptOf g.row.R.Denot g.row.A.Denot g.row.V.Denot). length k.tables) c.self.view_is)
