use Rattle.std.proofs.Common.{◌≡◌, ◌+◌, ◌++◌, suc, drop, length, sym, ap, subst, ◌∙◌, arith}
use Rattle.idoc_tree.specs.Forest.{Forest, preorder, tree}
use Rattle.idoc_tree.specs.Nodes.{tree_of, forest_of}
use Rattle.idoc_tree.proofs.NodeLemmas.{below-out, trees_of-drop}
use Rattle.listings.specs.Places.{places_in}
use Rattle.listings.specs.steps.Levels.{LevelsWithin}
use Rattle.listings.proofs.PlaceLemmas.{tree-length, tree-places}
use Rattle.listings.proofs.places.+push_places.Goals as goal

pub loop-node-preserved : goal.loop-node-preserved
loop-node-preserved t c =
    let nodes = c.args.nodes.now in
    let at = c.loop-node.node-index in
    let item = tree_of c.node-item.result in
    let rest = forest_of (drop (at + 1) nodes) in
    let opened : forest_of (drop at nodes) ≡ tree item.root item.below rest = trees_of-drop nodes at c.node-item.result c.loop-node-test.true c.node-item.is in
    let below : forest_of c.deref.result.now ≡ item.below = ap forest_of c.deref.ensures.value ∙ sym (below-out c.node-item.result) in
    let before = c.loop-node.places in
    let number = c.len.result + 1 in
    let counted : number ≡ suc (length before) = omega (arith, c.len.ensures) in
    let next : c.args.level + 1 ≡ suc c.args.level = omega arith in
    let first = c.in_ok-push.ensures.ok in
    let under = c.in_ok-push_places.ensures
    ∙ ap (λ (f : Forest). c.push.new.self ++ places_in (suc (length c.push.new.self)) number (c.args.level + 1) f) below in
    let long : length c.push_places.new.places + length (preorder rest) ≡ length before + length (preorder (forest_of (drop at nodes))) =
    tree-length before c.push.new.self c.push_places.new.places number c.args.above c.args.level (c.args.level + 1) item.root item.below rest
    counted next first under
    ∙ ap (λ (f : Forest). length before + length (preorder f)) (sym opened) in
    record {
      few = let was = c.loop-node.invariant.few in omega (arith, long, was);
      levels = (subst (LevelsWithin c.args.level) opened c.loop-node.invariant.levels).2;
      same =
          tree-places before c.push.new.self c.push_places.new.places number c.args.above c.args.level (c.args.level + 1) item.root item.below rest
          counted next first under
          ∙ ap (λ (f : Forest). before ++ places_in (suc (length before)) c.args.above c.args.level f) (sym opened) ∙ c.loop-node.invariant.same;
    }
