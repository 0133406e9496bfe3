use Rattle.std.specs.Prelude.{◌-◌, ◌+◌, ◌≡◌, length}
use Rattle.std.proofs.Common.{sym, ap, ◌∙◌, Some, arith}
use Rattle.std.proofs.lemmas.Option.{slice_get_within}
use Rattle.idoc_tree.specs.Forest.{roots}
use Rattle.idoc_tree.specs.Nodes.{forest_of}
use Rattle.idoc_tree.specs.Siblings.{children_of_open}
use Rattle.idoc_tree.proofs.LastNodeLemmas.{children_of_open-found, children_of_open-deeper}
use Rattle.idoc_tree.proofs.growing.+children_of_open.Goals as goal

pub returns-then-eq : goal.returns-then-eq
returns-then-eq t c =
    let nodes = c.args.nodes.now in
    let last = c.in_ok-last.last.now in
    let here = sym c.in_ok-last.ensures.value in
    let long : length nodes - 1 + 1 ≡ length nodes = omega (arith, slice_get_within nodes (length nodes - 1) last here) in
    ap (λ nodes. Some (roots (forest_of nodes))) c.deref.ensures.value
    ∙ sym (children_of_open-found c.args.segment nodes (length nodes - 1) last long here (sym c.eq.ensures ∙ c.if-eq.true))

pub returns : goal.returns
returns t c =
    let nodes = c.args.nodes.now in
    let last = c.in_ok-last.last.now in
    let here = sym c.in_ok-last.ensures.value in
    let long : length nodes - 1 + 1 ≡ length nodes = omega (arith, slice_get_within nodes (length nodes - 1) last here) in
    c.children_of_open.ensures ∙ ap (λ nodes. children_of_open c.args.segment (forest_of nodes)) c.deref-2.ensures.value
    ∙ sym (children_of_open-deeper c.args.segment nodes (length nodes - 1) last long here (sym c.eq.ensures ∙ c.if-eq.false))
