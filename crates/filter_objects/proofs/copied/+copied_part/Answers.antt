use Rattle.std.proofs.Common.{◌≡◌, ◌+◌, ◌<◌, ◌≤◌, min, length, sym, ap, ◌∙◌, drop, arith}
use Rattle.idoc_tree.specs.Forest.{joined, tree}
use Rattle.idoc_tree.specs.Nodes.{tree_of, forest_of}
use Rattle.idoc_tree.specs.Parts.{part}
use Rattle.idoc_tree.proofs.ForestLemmas.{joined-no_trees}
use Rattle.idoc_tree.proofs.NodeLemmas.{forest_of-push, below-out}
use Rattle.filter_objects.specs.steps.Members.{member_of, set_of}
use Rattle.filter_objects.proofs.MemberLemmas.{member_of-out, part-has, part-lacks, part-past}
use Rattle.filter_objects.proofs.copied.+copied_part.Goals as goal
use Rattle.filter_objects.proofs.copied.+copied_part.Goals.{then-member+in_ok-children+in_ok-one+in_ok-push, else-member}

pub loop-at-preserved : goal.loop-at-preserved
loop-at-preserved t c =
    let nodes = c.args.nodes.now in
    let set = c.args.set.now in
    let at = c.loop-at.at in
    let node = c.index-nodes-at.result in
    let member = c.index-set-at.result in
    let old = forest_of c.loop-at.copy.items in
    let rest = part (forest_of (drop (at + 1) nodes)) (set_of (drop (at + 1) set)) in
    let in_nodes : at < length nodes = omega arith in
    let in_set : at < length set = omega arith in
    elim c.if-member.branch [
      | then-member+in_ok-children+in_ok-one+in_ok-push w ↦
          let one = w.in_ok-one.one in
          let kept = ap (λ m. m.kept) (member_of-out member) ∙ w.if-member.true in
          let below_is : (tree_of one).below ≡ part (tree_of node).below (member_of member).below =
          w.in_ok-one.ensures.below ∙ w.in_ok-children.ensures
          ∙ ap (λ ns. part (forest_of ns) (set_of w.deref-then-member.result.now)) w.deref.ensures.value
          ∙ ap (λ f. part f (set_of w.deref-then-member.result.now)) (sym (below-out node))
          ∙ ap (λ ms. part (tree_of node).below (set_of ms)) w.deref-then-member.ensures.value
          ∙ ap (λ m. part (tree_of node).below m.below) (sym (member_of-out member)) in
          ap (λ v. joined (forest_of v.items) rest) w.copy-is
          ∙ ap (λ items. joined (forest_of items) rest) w.in_ok-push.ensures.items
          ∙ forest_of-push c.loop-at.copy.items one rest
          ∙ ap (λ r. joined old (tree r (tree_of one).below rest)) w.in_ok-one.ensures.root
          ∙ ap (λ b. joined old (tree (tree_of node).root b rest)) below_is
          ∙ ap (joined old) (sym (part-has nodes set at node member in_nodes in_set c.index-nodes-at.is c.index-set-at.is kept))
          ∙ c.loop-at.invariant
      | else-member w ↦
          let out = ap (λ m. m.kept) (member_of-out member) ∙ w.if-member.false in
          ap (λ v. joined (forest_of v.items) rest) w.copy-is
          ∙ ap (joined old) (sym (part-lacks nodes set at node member in_nodes in_set c.index-nodes-at.is c.index-set-at.is out))
          ∙ c.loop-at.invariant
    ]

pub returns : goal.returns
returns t c =
    let done = forest_of c.loop-at.copy.items in
    let past : min (length c.args.nodes.now) (length c.args.set.now) ≤ c.loop-at.at = omega arith in
    sym (joined-no_trees done)
    ∙ ap (joined done) (sym (part-past c.args.nodes.now c.args.set.now c.loop-at.at past))
    ∙ c.loop-at.invariant
