use Rattle.std.specs.Prelude.{IsSome, ◌-◌}
use Rattle.std.proofs.Common.{◌∙◌, sym, ap, refl, subst, arith}
use Rattle.std.proofs.lemmas.Result.{on_ok_weaker}
use Rattle.idoc_tree.specs.Forest.{no_trees, tree, joined}
use Rattle.idoc_tree.specs.Nodes.{forest_of, tree_of}
use Rattle.idoc_tree.proofs.NodeLemmas.{forest_of-snoc}
use Rattle.idoc_tree.proofs.LastNodeLemmas.{last_open, fewer_below, children_of_open-deeper, hung_below-found, hung_below-deeper}
use Rattle.idoc_tree.specs.declared.node.Node.TheViews.{out-Node}
use Rattle.idoc_tree.proofs.growing.+hang_below.Goals as goal

pub hang_below-requires : goal.hang_below-requires
hang_below-requires t c =
    let nodes = c.args.nodes.now.items in
    let last = c.index_mut-last.result.now in
    let place = last_open c.args.segment nodes c.len-at.result last c.requires.parent
    (c.len-at.ensures ∙ c.args.nodes.now.ok.0) c.index_mut-last.ensures.value in
    let deeper = children_of_open-deeper c.args.segment nodes (c.len-at.result - 1) last place.0 place.1 (sym c.eq.ensures ∙ c.if-eq.false) in (
      omega (arith, c.decreases, fewer_below c.args.segment nodes (c.len-at.result - 1) last place.0 place.1),
      (subst IsSome deeper c.requires.parent, c.requires.bare),
    )

pub returns-then-eq : goal.returns-then-eq
returns-then-eq t c =
    let nodes = c.args.nodes.now.items in
    let last = c.index_mut-last.result.now in
    let place = last_open c.args.segment nodes c.len-at.result last c.requires.parent
    (c.len-at.ensures ∙ c.args.nodes.now.ok.0) c.index_mut-last.ensures.value in
    let children = (out-Node last).children.items in
    hung_below-found c.args.segment nodes (c.len-at.result - 1) last place.0 place.1 (tree_of c.args.node).root
    (record (out-Node last) { children = c.push.new.self }) (sym c.eq.ensures ∙ c.if-eq.true) refl
    (ap forest_of c.in_ok-push.ensures.items ∙ forest_of-snoc children c.args.node
    ∙ ap (λ below. joined (forest_of children) (tree (tree_of c.args.node).root below no_trees)) c.requires.bare)

pub returns : goal.returns
returns t c =
    let nodes = c.args.nodes.now.items in
    let last = c.index_mut-last.result.now in
    let place = last_open c.args.segment nodes c.len-at.result last c.requires.parent
    (c.len-at.ensures ∙ c.args.nodes.now.ok.0) c.index_mut-last.ensures.value in
    on_ok_weaker c.hang_below.result
    (hung_below-deeper c.args.segment nodes (c.len-at.result - 1) last place.0 place.1 (tree_of c.args.node).root
    (record (out-Node last) { children = c.hang_below.new.nodes }) (sym c.eq.ensures ∙ c.if-eq.false) refl)
    c.hang_below.ensures
