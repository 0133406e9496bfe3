use Rattle.std.specs.Prelude.{slice_get}
use Rattle.std.proofs.Common.{◌-◌, sym, ap, ◌∙◌}
use Rattle.unit_landscape.specs.ClaimAnswers.{IsClaimedUnit, IsNextUnit}
use Rattle.unit_landscape.proofs.InStepLemmas.{ChangedAt-row, next-claimed}
use Rattle.unit_landscape.proofs.world_tables.claim_next.Goals as goal

pub returns : goal.returns
returns g c =
    let before = c.at_mut.result.now in
    let next : IsNextUnit c.args.way c.args.tid before =
    c.requires.next before (ap (λ n. slice_get c.args.tables.now (n - 1)) (sym c.get.ensures.number) ∙ c.at_mut.ensures.value) in
    let claim = c.claim_next-claim in
    ChangedAt-row (IsClaimedUnit c.args.way c.args.tid c.args.number) c.args.system c.get.result c.args.tables.now before claim.new.self
    c.get.ensures.number c.at_mut.ensures.value
    (next-claimed c.args.way c.args.tid c.args.number before claim.new.self claim.result next claim.ensures.first claim.ensures.claimed claim.ensures.none)
