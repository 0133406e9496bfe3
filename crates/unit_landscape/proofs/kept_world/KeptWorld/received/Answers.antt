use Rattle.std.proofs.Common.{ℕ, ◌<◌, ◌^◌, length, sym, ap, subst, ◌∙◌}
use Rattle.unit_landscape.specs.KeptWorlds.{KeptOf, IsRoom}
use Rattle.unit_landscape.proofs.CountedLemmas.{sum-received}
use Rattle.unit_landscape.proofs.kept_world.KeptWorld.received.Goals as goal

pub received-requires-clause-few : goal.received-requires-clause-few
received-requires-clause-few g c =
    let room = subst (λ (k : KeptOf g.row.R.Denot g.row.A.Denot g.row.V.Denot).
    IsRoom g.R.Rules.meaning g.A.Application.stands g.V.Volumes.disk k c.self.inside.counted) c.self.view_is c.self.invariant in
    subst (λ (n : ℕ). n < 2 ^ 64)
    (sym (sum-received g.R.Rules.meaning g.met.R.Rules.lawful g.A.Application.stands c.args.self.now c.self.inside.counted c.len.result room.in_step
    room.counted
    c.requires.all (c.len.ensures ∙ ap (λ (k : KeptOf g.row.R.Denot g.row.A.Denot g.row.V.Denot). length k.tables) c.self.view_is)))
    c.requires.few

pub returns : goal.returns
returns g c =
    let room = subst (λ (k : KeptOf g.row.R.Denot g.row.A.Denot g.row.V.Denot).
    IsRoom g.R.Rules.meaning g.A.Application.stands g.V.Volumes.disk k c.self.inside.counted) c.self.view_is c.self.invariant in
    c.received.ensures
    ∙ sum-received g.R.Rules.meaning g.met.R.Rules.lawful g.A.Application.stands c.args.self.now c.self.inside.counted c.len.result room.in_step room.counted
    c.requires.all (c.len.ensures ∙ ap (λ (k : KeptOf g.row.R.Denot g.row.A.Denot g.row.V.Denot). length k.tables) c.self.view_is)
