use Rattle.std.proofs.Common.{◌≡◌, ◌+◌, sym, ap, ◌∙◌, drop, arith}
use Rattle.idoc_tree.specs.Forest.{joined, tree}
use Rattle.idoc_tree.specs.Nodes.{tree_of, forest_of}
use Rattle.idoc_tree.proofs.ForestLemmas.{joined-no_trees}
use Rattle.idoc_tree.proofs.NodeLemmas.{forest_of-push, trees_of-drop, below-out, drop-past}
use Rattle.idoc_tree.proofs.copying.+copied_nodes.Goals as goal

pub loop-node-preserved : goal.loop-node-preserved
loop-node-preserved t c =
    let nodes = c.args.nodes.now in
    let at = c.loop-node.node-index in
    let item = c.node-item.result in
    let one = c.in_ok-one.one in
    let old = forest_of c.loop-node.copy.items in
    let rest = forest_of (drop (at + 1) nodes) in
    let below_is : (tree_of one).below ≡ (tree_of item).below = c.in_ok-one.ensures.below ∙ c.in_ok-children.ensures ∙ ap forest_of c.deref.ensures.value
    ∙ sym (below-out item) in
    ap (λ items. joined (forest_of items) rest) c.in_ok-push.ensures.items
    ∙ forest_of-push c.loop-node.copy.items one rest
    ∙ ap (λ r. joined old (tree r (tree_of one).below rest)) c.in_ok-one.ensures.root
    ∙ ap (λ b. joined old (tree (tree_of item).root b rest)) below_is
    ∙ ap (joined old) (sym (trees_of-drop nodes at item c.loop-node-test.true c.node-item.is))
    ∙ c.loop-node.invariant

pub returns : goal.returns
returns t c =
    let done = forest_of c.loop-node.copy.items in
    sym (joined-no_trees done)
    ∙ ap (λ ns. joined done (forest_of ns)) (sym (drop-past c.args.nodes.now c.loop-node.node-index (omega arith)))
    ∙ c.loop-node.invariant
