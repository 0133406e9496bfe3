use Rattle.std.proofs.Common.{◌≤◌, min, length, ap, arith}
use Rattle.idoc_tree.specs.Forest.{roots, count_of}
use Rattle.filter_objects.proofs.MemberLemmas.{part-past}
use Rattle.filter_objects.proofs.best.count_of.Goals as goal

pub returns : goal.returns
returns c =
    let past : min (length c.args.nodes.now) (length c.args.set.now) ≤ c.loop-at.at = omega arith in
    let nothing = ap (λ f. count_of c.args.segment (roots f)) (part-past c.args.nodes.now c.args.set.now c.loop-at.at past) in
    let same = c.loop-at.invariant.same in
    omega (arith, nothing, same)
