use Rattle.std.specs.Prelude.{◌==◌}
use Rattle.std.specs.Option.{option_map}
use Rattle.std.proofs.Common.{◌≡◌, ◌+◌, None, Some, Bool, drop, sym, ap, ◌∙◌}
use Rattle.idoc_tree.specs.Forest.{Segment}
use Rattle.idoc_tree.specs.Nodes.{tree_of, forest_of}
use Rattle.idoc_tree.proofs.NodeLemmas.{below-out, trees_of-drop}
use Rattle.outbound_build.specs.QueueNames.{first_of}
use Rattle.outbound_build.proofs.FirstLemmas.{find-after, find-below}
use Rattle.outbound_build.proofs.naming.+first_of.Goals as goal

pub returns-in-Some : goal.returns-in-Some
returns-in-Some t c =
    let type = c.args.segment in
    let test : Segment → Bool = λ segment. segment.type == type in
    let nodes = c.args.nodes.now in
    let at = c.loop-node.node-index in
    let item = tree_of c.node-item.result in
    let found = (tree_of c.in-Some.found.now).root in
    let below : first_of type item.below ≡ Some found =
    ap (first_of type) (below-out c.node-item.result ∙ ap forest_of (sym c.deref.ensures.value)) ∙ sym c.first_of.ensures
    ∙ ap (option_map (λ node. (tree_of node.now).root)) c.in-Some.is in
    sym (find-below test item.root item.below (forest_of (drop (at + 1) nodes)) found (sym c.is_of.ensures ∙ c.if-is_of.false) below)
    ∙ ap (first_of type) (sym (trees_of-drop nodes at c.node-item.result c.loop-node-test.true c.node-item.is))
    ∙ c.loop-node.invariant

pub loop-node-preserved : goal.loop-node-preserved
loop-node-preserved t c =
    let type = c.args.segment in
    let test : Segment → Bool = λ segment. segment.type == type in
    let nodes = c.args.nodes.now in
    let at = c.loop-node.node-index in
    let item = tree_of c.node-item.result in
    let below : first_of type item.below ≡ None =
    ap (first_of type) (below-out c.node-item.result ∙ ap forest_of (sym c.deref.ensures.value)) ∙ sym c.first_of.ensures
    ∙ ap (option_map (λ node. (tree_of node.now).root)) c.in_default.is in
    sym (find-after test item.root item.below (forest_of (drop (at + 1) nodes)) (sym c.is_of.ensures ∙ c.if-is_of.false) below)
    ∙ ap (first_of type) (sym (trees_of-drop nodes at c.node-item.result c.loop-node-test.true c.node-item.is))
    ∙ c.loop-node.invariant
