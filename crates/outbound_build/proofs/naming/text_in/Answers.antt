use Rattle.std.specs.Prelude.{◌==◌}
use Rattle.std.specs.Option.{option_map}
use Rattle.std.proofs.Common.{◌≡◌, Some, Bool, sym, ap, subst, ◌∙◌}
use Rattle.segment_defs.specs.Definitions.{HasVersion}
use Rattle.idoc_tree.specs.Forest.{Segment}
use Rattle.idoc_tree.specs.Lines.{IsNode}
use Rattle.idoc_tree.specs.Nodes.{tree_of, forest_of}
use Rattle.idoc_tree.proofs.NodeLemmas.{tree_of-out}
use Rattle.outbound_build.specs.QueueNames.{first_of}
use Rattle.outbound_build.proofs.FirstLemmas.{found-AllNodes, node-HasVersion}
use Rattle.outbound_build.proofs.naming.text_in.Goals as goal

pub cut-requires : goal.cut-requires
cut-requires c =
    let definitions = c.args.definitions.now in
    let forest = forest_of c.args.forest.now in
    let type = c.args.place.now.segment in
    let test : Segment → Bool = λ segment. segment.type == type in
    let found = (tree_of c.in-Some.node.now).root in
    let is : first_of type forest ≡ Some found = sym c.first_of.ensures ∙ ap (option_map (λ node. (tree_of node.now).root)) c.in-Some.is in
    subst (λ r. HasVersion definitions r.root.type r.root.version) (tree_of-out c.in-Some.node.now)
    (node-HasVersion definitions found (found-AllNodes (IsNode definitions) test forest found c.requires is))
