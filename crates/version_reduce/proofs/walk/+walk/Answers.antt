use Rattle.std.proofs.Common.{◌≡◌, Some, None, sym, ap, subst, ◌∙◌, rules, length}
use Rattle.std.specs.Vec.Iter.{into_iter_len}
use Rattle.idoc_tree.specs.Nodes.{tree_of}
use Rattle.idoc_tree.specs.declared.node.Node.TheViews.{out-Node}
use Rattle.idoc_tree.proofs.NodeLemmas.{root_of, tree_of-out, below-out}
use Rattle.version_reduce.specs.steps.Walked.{walked, ComesOf}
use Rattle.version_reduce.proofs.WalkLemmas.{walk-begins, walk-passes, walk-keeps, walk-ends}
use Rattle.version_reduce.proofs.walk.+walk.Goals as goal

pub loop-node-init : goal.loop-node-init
loop-node-init g t c =
    let step = c.args.step.now in
    let all = c.args.nodes.items in
    let begins = c.into_iter-node-iterator.ensures.into_iter_gives in
    let long : into_iter_len c.into_iter-node-iterator.result ≡ length c.args.nodes.items = search rules in
    walk-begins (g.S.Step.goes step) (g.S.Step.change step) _ _ _ all c.new-sent.ensures.items begins.0 long

pub loop-node-preserved-in-Continue-branch-4 : goal.loop-node-preserved-in-Continue-branch-4
loop-node-preserved-in-Continue-branch-4 g t c =
    let goes = g.S.Step.goes c.args.step.now in
    let change = g.S.Step.change c.args.step.now in
    let node = c.in-Some.node in
    let next = c.in-Some.ensures.steps in
    let head_is : root_of (out-Node node) ≡ (tree_of node).root = ap (λ t. t.root) (sym (tree_of-out node)) in
    let came : ComesOf goes change (tree_of node).root (Some c.in-Some-2.head)
    = subst (λ s. ComesOf goes change s (Some c.in-Some-2.head)) head_is
    (subst (ComesOf goes change (root_of (out-Node node))) c.in-Some-2.is c.in_ok-head.ensures) in
    let under = c.joined-node.ensures.below ∙ c.in_ok-children.ensures ∙ ap (walked goes change) (sym (below-out node)) in
    walk-keeps goes change _ _ _ _ _ _ node c.loop-node.invariant next.0 next.1 c.joined-node.result c.push.new.self.items
    c.in_ok-push.ensures.items came.0 (c.joined-node.ensures.head ∙ came.1) under

pub loop-node-preserved : goal.loop-node-preserved
loop-node-preserved g t c =
    let goes = g.S.Step.goes c.args.step.now in
    let change = g.S.Step.change c.args.step.now in
    let node = c.in-Some.node in
    let next = c.in-Some.ensures.steps in
    let head_is : root_of (out-Node node) ≡ (tree_of node).root = ap (λ t. t.root) (sym (tree_of-out node)) in
    let came : ComesOf goes change (root_of (out-Node node)) None = subst (ComesOf goes change (root_of (out-Node node))) c.in_default.is
    c.in_ok-head.ensures in
    walk-passes goes change _ _ _ _ _ _ node c.loop-node.invariant next.0 next.1 (ap goes (sym head_is) ∙ came)

pub returns : goal.returns
returns g t c =
    let step = c.args.step.now in
    walk-ends (g.S.Step.goes step) (g.S.Step.change step) _ _ _ c.args.nodes.items c.in-None.ensures.steps.0 c.loop-node.invariant
