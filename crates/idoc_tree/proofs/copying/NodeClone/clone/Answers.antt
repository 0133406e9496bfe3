use Rattle.std.proofs.Common.{◌≡◌, sym, ap, ◌∙◌}
use Rattle.idoc_tree.specs.Nodes.{tree_of, forest_of}
use Rattle.idoc_tree.proofs.NodeLemmas.{below-out, trees_are_same}
use Rattle.idoc_tree.proofs.copying.NodeClone.clone.Goals as goal

pub returns-in-Ok-with_children : goal.returns-in-Ok-with_children
returns-in-Ok-with_children c =
    let own = c.args.self.now in
    let copy = c.in-Ok-with_children.node in
    let under : (tree_of copy).below ≡ (tree_of own).below =
    c.in-Ok-with_children.ensures.below ∙ c.in-Ok.ensures ∙ ap forest_of c.deref.ensures.value ∙ sym (below-out own) in
    record { cases = trees_are_same (tree_of copy) (tree_of own) c.in-Ok-with_children.ensures.root under }
