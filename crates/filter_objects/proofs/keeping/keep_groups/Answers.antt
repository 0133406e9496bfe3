use Rattle.std.proofs.Common.{sym, subst}
use Rattle.idoc_tree.specs.Nodes.{forest_of}
use Rattle.filter_objects.specs.Kept.{IsKeptPart}
use Rattle.filter_objects.proofs.KeptLemmas.{law-kept}
use Rattle.filter_objects.proofs.SameLemmas.{have_definitions}
use Rattle.filter_objects.proofs.keeping.keep_groups.Goals as goal

pub part_of-requires : goal.part_of-requires
part_of-requires c = have_definitions c.args.model.now.definitions (forest_of c.args.forest.now) c.requires

pub returns-clause-kept : goal.returns-clause-kept
returns-clause-kept c =
    let model = c.args.model.now in
    let entries = c.args.ty.now.segments in
    let groups = c.args.groups.now in
    let forest = forest_of c.args.forest.now in
    subst (IsKeptPart model entries groups forest) (sym c.in_ok-kept.ensures) (law-kept model entries groups forest)
