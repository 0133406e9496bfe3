use Rattle.std.proofs.Common.{◌+◌, drop, map, ap, sym, ◌∙◌, arith}
use Rattle.idoc_tree.specs.Nodes.{forest_of}
use Rattle.idoc_tree.specs.Parts.{union}
use Rattle.idoc_tree.proofs.NodeLemmas.{drop-here, drop-past}
use Rattle.idoc_tree.proofs.SetLemmas.{union_assoc, union-none}
use Rattle.filter_objects.specs.FromLeaves.{passes, kept, united}
use Rattle.filter_objects.specs.steps.Members.{set_of}
use Rattle.filter_objects.specs.steps.Needs.{needs_at}
use Rattle.filter_objects.proofs.keeping.united.Goals as goal

pub loop-group-preserved : goal.loop-group-preserved
loop-group-preserved c =
    let model = c.args.model.now in
    let needs = needs_at c.args.needs.now in
    let groups = c.args.groups.now in
    let forest = forest_of c.args.forest.now in
    let at = c.loop-group.group-index in
    let group = c.group-item.result in
    let old = set_of c.loop-group.set.items in
    let rest = united needs (map (passes model) (drop (at + 1) groups)) forest in
    ap (λ s. union s rest)
    (c.in_ok-set.ensures ∙ ap (λ ms. union (set_of ms) (set_of c.deref-in-loop-group.result.now)) c.deref.ensures.value
    ∙ ap (λ ms. union old (set_of ms)) c.deref-in-loop-group.ensures.value
    ∙ ap (union old) c.in_ok-own.ensures)
    ∙ union_assoc old (kept needs (passes model group) forest) rest
    ∙ ap (λ gs. union old (united needs (map (passes model) gs) forest)) (sym (drop-here groups at group c.loop-group-test.true c.group-item.is))
    ∙ c.loop-group.invariant

pub returns : goal.returns
returns c =
    let model = c.args.model.now in
    let needs = needs_at c.args.needs.now in
    let done = set_of c.loop-group.set.items in
    sym (union-none done)
    ∙ ap (λ gs. union done (united needs (map (passes model) gs) (forest_of c.args.forest.now)))
    (sym (drop-past c.args.groups.now c.loop-group.group-index (omega arith)))
    ∙ c.loop-group.invariant
