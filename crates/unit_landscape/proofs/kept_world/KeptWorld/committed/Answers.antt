use Rattle.std.specs.Prelude.{slice_get}
use Rattle.std.proofs.Common.{◌≡◌, ◌+◌, ℕ, suc, Some, length, refl, sym, ap, subst, ◌∙◌, arith}
use Rattle.std.proofs.lemmas.Option.{slice_get-get_or}
use Rattle.trfc_protocol.specs.Worlds.{committed_by}
use Rattle.unit_landscape.specs.Counted.{sum_to}
use Rattle.unit_landscape.specs.KeptWorlds.{KeptOf, IsRoom}
use Rattle.unit_landscape.proofs.TotalsLemmas.{sum_to-within}
use Rattle.unit_landscape.proofs.CountedLemmas.{units-at}
use Rattle.unit_landscape.proofs.kept_world.KeptWorld.committed.Goals as goal

pub overflow_add-all : goal.overflow_add-all
overflow_add-all g c =
    let kept = c.args.self.now in
    let rules = g.R.Rules.meaning kept.world.rules in
    let place = c.loop-its.its-index in
    let committed : ℕ → ℕ = λ system. length (committed_by rules kept.world system) in
    let room = subst (λ (k : KeptOf g.row.R.Denot g.row.A.Denot g.row.V.Denot).
    IsRoom g.R.Rules.meaning g.A.Application.stands g.V.Volumes.disk k c.self.inside.counted) c.self.view_is c.self.invariant in
    let tables : c.as_slice-its-items.result.now ≡ kept.tables =
    c.as_slice-its-items.ensures ∙ ap (λ (k : KeptOf g.row.R.Denot g.row.A.Denot g.row.V.Denot). k.tables) c.self.view_is in
    let got = ap (λ t. slice_get t place) (sym tables)
    ∙ slice_get-get_or c.as_slice-its-items.result.now place c.its-item.result c.loop-its-test.true ∙ ap Some (sym c.its-item.is) in
    let units = units-at g.R.Rules.meaning g.met.R.Rules.lawful g.A.Application.stands kept c.self.inside.counted (length kept.tables) room.in_step
    room.counted c.requires.all refl place c.its-item.result got in
    let many = c.count.ensures in
    let so_far = c.loop-its.invariant in
    let all = c.requires.all in
    let same = room.in_step.all in
    let long = ap length tables in
    let more = sum_to-within committed (suc place) rules.systems (let test = c.loop-its-test.true in omega (arith, test, long, same, all)) in
    let few = c.requires.few in
    omega (arith, more, units, many, so_far, few)

pub loop-its-preserved : goal.loop-its-preserved
loop-its-preserved g c =
    let kept = c.args.self.now in
    let rules = g.R.Rules.meaning kept.world.rules in
    let place = c.loop-its.its-index in
    let committed : ℕ → ℕ = λ system. length (committed_by rules kept.world system) in
    let room = subst (λ (k : KeptOf g.row.R.Denot g.row.A.Denot g.row.V.Denot).
    IsRoom g.R.Rules.meaning g.A.Application.stands g.V.Volumes.disk k c.self.inside.counted) c.self.view_is c.self.invariant in
    let tables : c.as_slice-its-items.result.now ≡ kept.tables =
    c.as_slice-its-items.ensures ∙ ap (λ (k : KeptOf g.row.R.Denot g.row.A.Denot g.row.V.Denot). k.tables) c.self.view_is in
    let got = ap (λ t. slice_get t place) (sym tables)
    ∙ slice_get-get_or c.as_slice-its-items.result.now place c.its-item.result c.loop-its-test.true ∙ ap Some (sym c.its-item.is) in
    let units = units-at g.R.Rules.meaning g.met.R.Rules.lawful g.A.Application.stands kept c.self.inside.counted (length kept.tables) room.in_step
    room.counted c.requires.all refl place c.its-item.result got in
    let many = c.count.ensures in
    let so_far = c.loop-its.invariant in
    let step : suc place ≡ place + 1 = omega arith in
    let next = ap (sum_to committed) step in
    omega (arith, units, many, so_far, next)

pub returns : goal.returns
returns g c =
    let kept = c.args.self.now in
    let rules = g.R.Rules.meaning kept.world.rules in
    let place = c.loop-its.its-index in
    let committed : ℕ → ℕ = λ system. length (committed_by rules kept.world system) in
    let room = subst (λ (k : KeptOf g.row.R.Denot g.row.A.Denot g.row.V.Denot).
    IsRoom g.R.Rules.meaning g.A.Application.stands g.V.Volumes.disk k c.self.inside.counted) c.self.view_is c.self.invariant in
    let tables : c.as_slice-its-items.result.now ≡ kept.tables =
    c.as_slice-its-items.ensures ∙ ap (λ (k : KeptOf g.row.R.Denot g.row.A.Denot g.row.V.Denot). k.tables) c.self.view_is in
    let done : place ≡ length c.as_slice-its-items.result.now =
    (let test = c.loop-its-test.false in let end = c.loop-its.auto.its-index-end in omega arith) in
    c.loop-its.invariant ∙ ap (sum_to committed) (done ∙ ap length tables ∙ room.in_step.all ∙ c.requires.all)
