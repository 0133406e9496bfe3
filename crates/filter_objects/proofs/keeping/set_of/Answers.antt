use Rattle.std.specs.Prelude.{IfOk, map}
use Rattle.std.proofs.Common.{◌≡◌, subst}
use Rattle.idoc_tree.specs.Nodes.{forest_of}
use Rattle.filter_objects.specs.FromLeaves.{passes}
use Rattle.filter_objects.specs.steps.Members.{set_of}
use Rattle.filter_objects.specs.steps.Needs.{AreNeeds}
use Rattle.filter_objects.proofs.NeedLemmas.{tables-united}
use Rattle.filter_objects.proofs.keeping.set_of.Goals as goal

pub returns : goal.returns
returns c =
    subst (λ u. IfOk c.united.result (λ set. set_of set.items ≡ u))
    (tables-united c.args.model.now c.args.ty.now.segments c.in_ok-tables.tables (map (passes c.args.model.now) c.args.groups.now) (forest_of c.args.forest.now)
    (subst (λ n. AreNeeds c.args.ty.now.segments n c.in_ok-tables.tables) c.len.ensures c.in_ok-tables.ensures) c.requires)
    c.united.ensures
