use Rattle.std.specs.List.{list_all}
use Rattle.std.proofs.Common.{◌≡◌, ◌+◌, ◌&&◌, Some, sym, ap, subst, ◌∙◌, drop, arith}
use Rattle.idoc_tree.specs.Forest.{AllNodes}
use Rattle.idoc_tree.specs.Nodes.{tree_of, forest_of}
use Rattle.idoc_tree.specs.Parts.{part, with_root}
use Rattle.idoc_tree.proofs.NodeLemmas.{trees_of-drop, below-out, drop-past}
use Rattle.filter_objects.specs.FromLeaves.{best, is_enough}
use Rattle.filter_objects.specs.steps.Conditions.{HasDefinition, suits_all}
use Rattle.filter_objects.specs.steps.Members.{set_of, followed}
use Rattle.filter_objects.specs.steps.Needs.{needs_at}
use Rattle.filter_objects.proofs.MemberLemmas.{followed-none, set_of-push}
use Rattle.filter_objects.proofs.best.+best.Goals as goal

pub loop-node-preserved : goal.loop-node-preserved
loop-node-preserved t c =
    let definitions = c.args.definitions.now in
    let needs = needs_at c.args.needs.now in
    let test = suits_all definitions c.args.conditions.now in
    let nodes = c.args.nodes.now in
    let at = c.loop-node.node-index in
    let item = c.node-item.result in
    let own = tree_of item in
    let old = set_of c.loop-node.set.items in
    let rest = best needs test (forest_of (drop (at + 1) nodes)) in
    let under = best needs test own.below in
    let below = c.in_ok-below.below in
    let here = trees_of-drop nodes at item c.loop-node-test.true c.node-item.is in
    let all = subst (AllNodes (HasDefinition definitions)) here c.loop-node.invariant.nodes in
    let below_is : set_of below.items ≡ under =
    c.in_ok-below.ensures ∙ ap (λ ns. best needs test (forest_of ns)) c.deref.ensures.value ∙ ap (best needs test) (sym (below-out item)) in
    let kept_is = c.is_kept-kept.ensures
    ∙ ap (λ m. test own.root && list_all (is_enough (part own.below m)) (needs (Some own.root.type))) (ap set_of c.deref-in-loop-node.ensures.value
    ∙ below_is) in
    record {
      nodes = all.2;
      same =
          ap (λ items. followed (set_of items) rest) c.in_ok-push.ensures.items
          ∙ set_of-push c.loop-node.set.items (record { kept = c.is_kept-kept.result; below = below }) rest
          ∙ ap (λ k. followed old (with_root k (set_of below.items) rest)) kept_is
          ∙ ap (λ m. followed old (with_root (test own.root && list_all (is_enough (part own.below under)) (needs (Some own.root.type))) m rest)) below_is
          ∙ ap (λ f. followed old (best needs test f)) (sym here)
          ∙ c.loop-node.invariant.same;
    }

pub returns : goal.returns
returns t c =
    let test = suits_all c.args.definitions.now c.args.conditions.now in
    let done = set_of c.loop-node.set.items in
    sym (followed-none done)
    ∙ ap (λ ns. followed done (best (needs_at c.args.needs.now) test (forest_of ns))) (sym (drop-past c.args.nodes.now c.loop-node.node-index (omega arith)))
    ∙ c.loop-node.invariant.same
