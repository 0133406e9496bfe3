use Rattle.std.proofs.Common.{◌≡◌, false, sym, subst, ◌∙◌}
use Rattle.dist_model.specs.Outbound.{removes}
use Rattle.idoc_tree.specs.Forest.{AllNodes}
use Rattle.idoc_tree.specs.Nodes.{forest_of}
use Rattle.idoc_tree.proofs.ForestLemmas.{AllNodes-without}
use Rattle.idoc_reading.specs.Document.{IsOfEntries}
use Rattle.version_reduce.specs.Removed.{LosesRemoved, removed}
use Rattle.version_reduce.proofs.ChangeLemmas.{map_nodes-same}
use Rattle.version_reduce.proofs.DocumentLemmas.{removed-IsOfEntries}
use Rattle.version_reduce.proofs.RemovalLemmas.{removed-loses}
use Rattle.version_reduce.proofs.removal.remove_segments.Goals as goal

same : (c : goal.In_ok-left) → forest_of c.in_ok-left.left.items ≡ removed c.args.profile.now (forest_of c.args.forest.items)
same c = c.in_ok-left.ensures ∙ map_nodes-same (removed c.args.profile.now (forest_of c.args.forest.items))

pub returns : goal.returns
returns c = record {
  map = same c;
  gone = subst (AllNodes (λ segment. removes c.args.profile.now segment.type ≡ false)) (sym (same c))
      (AllNodes-without (λ segment. removes c.args.profile.now segment.type) (forest_of c.args.forest.items));
  left = subst (LosesRemoved c.args.profile.now (forest_of c.args.forest.items)) (sym (same c))
      (removed-loses c.args.profile.now (forest_of c.args.forest.items));
  of_entries = λ entries are whole is. subst (IsOfEntries c.args.model.now.definitions entries) (sym (same c))
      (removed-IsOfEntries c.args.model.now.definitions c.args.profile.now entries (forest_of c.args.forest.items) are whole is);
}
