use Rattle.std.specs.Option.{option_map}
use Rattle.std.proofs.Common.{◌≡◌, Some, subst}
use Rattle.dist_model.specs.declared.lists.Lists.{Lists}
use Rattle.idoc_tree.specs.Forest.{leaf}
use Rattle.idoc_tree.specs.Nodes.{forest_of}
use Rattle.object_store.specs.Posting.{fields_of}
use Rattle.change_pointers.specs.Master.{master_segment}
use Rattle.change_pointers.proofs.ReadLemmas.{master-is}
use Rattle.change_pointers.proofs.master.master_of.Goals as goal

pub returns-clause-of_entries : goal.returns-clause-of_entries
returns-clause-of_entries c makes =
    let model = c.args.model.now in
    let key = c.args.key.now.key in
    let values = fields_of c.args.key.now.kind key c.args.objects.now in
    let forest = forest_of c.in_ok-forest.forest.items in
    let same : c.as_lists-lists.result.now ≡ model = c.as_lists-lists.ensures.same in
    let made : Some forest ≡ option_map leaf (master_segment model c.args.message key values) =
    subst (λ (lists : Lists). Some forest ≡ option_map leaf (master_segment lists c.args.message key values)) same c.in_ok-forest.ensures in
    master-is model c.args.message key values forest c.as_lists-lists.ensures.kept makes made
