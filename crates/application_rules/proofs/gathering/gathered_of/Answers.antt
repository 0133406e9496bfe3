use Rattle.std.specs.Option.{option_map}
use Rattle.std.proofs.Common.{◌≡◌, Some, sym, subst}
use Rattle.dist_model.specs.declared.lists.Lists.{Lists}
use Rattle.idoc_tree.specs.Forest.{AllNodes, leaf}
use Rattle.idoc_tree.specs.Lines.{IsNode}
use Rattle.idoc_tree.specs.Nodes.{forest_of}
use Rattle.object_store.specs.Posting.{fields_of}
use Rattle.change_pointers.specs.Master.{master_segment}
use Rattle.application_rules.proofs.GatheredLemmas.{master-nodes}
use Rattle.application_rules.proofs.gathering.gathered_of.Goals as goal

pub carried-requires-clause-nodes : goal.carried-requires-clause-nodes
carried-requires-clause-nodes c =
    let model = c.args.model.now in
    let key = c.args.key.now.key in
    let values = fields_of c.args.key.now.kind key c.args.objects.now in
    let forest = forest_of c.in-Some.master.forest.items in
    let made : Some forest ≡ option_map leaf (master_segment model c.args.message key values) = rw c.in-Some.is at c.in_ok-master_of.ensures.segment in
    subst (λ (lists : Lists). AllNodes (IsNode lists.definitions) forest) (sym c.as_lists-lists.ensures.same)
    (master-nodes model c.args.message key values forest c.as_lists-lists.ensures.kept made)
