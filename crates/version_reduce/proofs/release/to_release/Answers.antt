use Rattle.std.proofs.Common.{◌≡◌, sym, ap, subst, ◌∙◌}
use Rattle.idoc_tree.specs.Forest.{AllNodes}
use Rattle.idoc_tree.specs.Nodes.{forest_of}
use Rattle.idoc_reading.specs.Document.{IsOfEntries}
use Rattle.version_reduce.specs.Released.{IsByRelease, IsReleasedFrom, released}
use Rattle.version_reduce.proofs.DocumentLemmas.{released-IsOfEntries}
use Rattle.version_reduce.proofs.ReleaseLemmas.{released-by_release, released-from}
use Rattle.version_reduce.proofs.release.to_release.Goals as goal

same : (c : goal.In_ok-sent) → forest_of c.in_ok-sent.sent.items ≡ released c.args.model.now c.args.profile.now (forest_of c.args.forest.items)
same c = c.in_ok-sent.ensures ∙ ap (λ model. released model c.args.profile.now (forest_of c.args.forest.items)) c.as_lists-lists.ensures.same

pub returns : goal.returns
returns c = record {
  map = same c;
  by_release = subst (AllNodes (IsByRelease c.args.model.now.definitions c.args.profile.now.release)) (sym (same c))
      (released-by_release c.args.model.now c.args.profile.now (forest_of c.args.forest.items) c.as_lists-lists.ensures.kept.definitions);
  each = subst (IsReleasedFrom c.args.model.now c.args.profile.now (forest_of c.args.forest.items)) (sym (same c))
      (released-from c.args.model.now c.args.profile.now (forest_of c.args.forest.items) c.as_lists-lists.ensures.kept.definitions);
  of_entries = λ entries are whole gone is. subst (IsOfEntries c.args.model.now.definitions entries) (sym (same c))
      (released-IsOfEntries c.args.model.now c.args.profile.now entries (forest_of c.args.forest.items) are whole gone is);
}
