use Rattle.std.proofs.Common.{[]}
use Rattle.dist_model.specs.Triple.{same_triple}
use Rattle.dist_model.specs.declared.outbound.Outbound.{Outbound}
use Rattle.dist_model.specs.Way.{outbound_way}
use Rattle.dist_model.proofs.DistinctLemmas.{added_next, same_triple-symmetric}
use Rattle.dist_model.proofs.index.ways_of.Goals as goal

pub loop-profile-preserved : goal.loop-profile-preserved
loop-profile-preserved c =
    let x = c.profile-item.result in
    added_next same_triple same_triple-symmetric (λ (p : Outbound). outbound_way p) c.args.profiles.now c.loop-profile.profile-index x c.outbound_way.result
    [] c.loop-profile.ways c.add.new.self c.in_ok-add.field-0
    c.requires c.profile-item.is c.outbound_way.ensures c.loop-profile-test.true c.loop-profile.invariant c.in_ok-add.ensures.new c.in_ok-add.ensures.added
