use Rattle.std.proofs.Common.{ap, sym, subst, ◌∙◌, None}
use Rattle.idoc_tree.specs.Forest.{AllNodes}
use Rattle.idoc_tree.specs.Lines.{IsNode}
use Rattle.idoc_tree.specs.Nodes.{forest_of}
use Rattle.filter_objects.specs.Passing.{groups_of}
use Rattle.filter_objects.specs.Kept.{IsKeptPart}
use Rattle.filter_objects.specs.FromLeaves.{kept_part}
use Rattle.filter_objects.proofs.KeptLemmas.{law-valid, law-hangs, law-nodes, law-passed}
use Rattle.filter_objects.proofs.OneLemmas.{one_part}
use Rattle.filter_objects.proofs.keeping.keep.Goals as goal
use Rattle.filter_objects.proofs.keeping.keep.Goals.{In_ok-kept}

pub keep_groups-requires : goal.keep_groups-requires
keep_groups-requires c =
    subst (λ m. AllNodes (IsNode m.definitions) (forest_of c.args.forest.now)) (sym c.as_lists-lists.ensures.same) c.requires.nodes

pub returns-in_err-kept-clause-one : goal.returns-in_err-kept-clause-one
returns-in_err-kept-clause-one c =
    one_part c.args.model.now c.args.ty.now.segments (groups_of c.args.model.now c.args.row) (forest_of c.args.forest.now)

pub returns-clause-one : goal.returns-clause-one
returns-clause-one c =
    one_part c.args.model.now c.args.ty.now.segments (groups_of c.args.model.now c.args.row) (forest_of c.args.forest.now)

is_kept : (c : In_ok-kept) → IsKeptPart c.args.model.now c.args.ty.now.segments (groups_of c.args.model.now c.args.row) (forest_of c.args.forest.now)
    (forest_of c.in_ok-kept.kept.items)
is_kept c =
    let entries = c.args.ty.now.segments in
    let forest = forest_of c.args.forest.now in
    let left = forest_of c.in_ok-kept.kept.items in
    subst (λ m. IsKeptPart m entries (groups_of m c.args.row) forest left) c.as_lists-lists.ensures.same
    (subst (λ gs. IsKeptPart c.as_lists-lists.result.now entries gs forest left) c.groups_of.ensures c.in_ok-kept.ensures.kept)

pub returns-clause-kept : goal.returns-clause-kept
returns-clause-kept c = is_kept (goal.at.returns-clause-kept c).In_ok-kept

pub returns-clause-part : goal.returns-clause-part
returns-clause-part c =
    let entries = c.args.ty.now.segments in
    let forest = forest_of c.args.forest.now in
    let found = (goal.at.returns-clause-part c).In_ok-kept.in_ok-kept.ensures.part in
    found
    ∙ ap (λ gs. kept_part c.as_lists-lists.result.now entries gs forest) c.groups_of.ensures
    ∙ ap (λ m. kept_part m entries (groups_of m c.args.row) forest) c.as_lists-lists.ensures.same

pub returns-clause-passed : goal.returns-clause-passed
returns-clause-passed c =
    law-passed c.args.model.now c.args.ty.now.segments (groups_of c.args.model.now c.args.row) (forest_of c.args.forest.now) (forest_of c.in_ok-kept.kept.items)
    (is_kept (goal.at.returns-clause-passed c).In_ok-kept)

pub returns-clause-valid : goal.returns-clause-valid
returns-clause-valid c =
    law-valid c.args.model.now c.args.ty.now.segments (groups_of c.args.model.now c.args.row) (forest_of c.args.forest.now) (forest_of c.in_ok-kept.kept.items)
    (is_kept (goal.at.returns-clause-valid c).In_ok-kept)

pub returns-clause-hangs : goal.returns-clause-hangs
returns-clause-hangs c =
    law-hangs c.args.model.now c.args.ty.now.segments None (groups_of c.args.model.now c.args.row) (forest_of c.args.forest.now)
    (forest_of c.in_ok-kept.kept.items)
    (is_kept (goal.at.returns-clause-hangs c).In_ok-kept)

pub returns-clause-nodes : goal.returns-clause-nodes
returns-clause-nodes c =
    law-nodes (IsNode c.args.model.now.definitions) c.args.model.now c.args.ty.now.segments (groups_of c.args.model.now c.args.row)
    (forest_of c.args.forest.now) (forest_of c.in_ok-kept.kept.items)
    (is_kept (goal.at.returns-clause-nodes c).In_ok-kept) c.requires.nodes
