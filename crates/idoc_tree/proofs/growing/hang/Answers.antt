use Rattle.std.proofs.Common.{◌∙◌, sym, ap}
use Rattle.idoc_tree.specs.Forest.{no_trees, tree, joined}
use Rattle.idoc_tree.specs.Nodes.{forest_of, tree_of}
use Rattle.idoc_tree.specs.steps.Growing.{hung}
use Rattle.idoc_tree.proofs.NodeLemmas.{forest_of-snoc}
use Rattle.idoc_tree.proofs.growing.hang.Goals as goal

pub returns-in_ok-push-in-None : goal.returns-in_ok-push-in-None
returns-in_ok-push-in-None c =
    let forest = forest_of c.args.forest.now.items in
    let root = (tree_of c.args.node).root in
    ap forest_of c.in_ok-push-in-None.ensures.items ∙ forest_of-snoc c.args.forest.now.items c.args.node
    ∙ ap (λ below. joined forest (tree root below no_trees)) c.requires.bare
    ∙ sym (ap (λ above. hung above root forest) c.in-None.is)
