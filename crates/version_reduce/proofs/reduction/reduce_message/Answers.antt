use Rattle.std.proofs.Common.{◌≡◌, false, sym, ap, subst, ◌∙◌}
use Rattle.dist_model.specs.Outbound.{removes}
use Rattle.idoc_tree.specs.Forest.{AllNodes, map_nodes}
use Rattle.idoc_tree.specs.Nodes.{forest_of}
use Rattle.idoc_reading.specs.Document.{IsOfEntries}
use Rattle.version_reduce.specs.Reduced.{IsReducedFrom, reduced_segment, reduced}
use Rattle.version_reduce.proofs.ChangeLemmas.{without-none}
use Rattle.version_reduce.proofs.DocumentLemmas.{reduced-IsOfEntries, reduced-gone}
use Rattle.version_reduce.proofs.TextLawLemmas.{reduced-from}
use Rattle.version_reduce.proofs.reduction.reduce_message.Goals as goal

same : (c : goal.In_ok-sent) → forest_of c.in_ok-sent.sent.items ≡ reduced c.args.model.now c.args.profile.now (forest_of c.args.forest.items)
same c = c.in_ok-sent.ensures
    ∙ ap (map_nodes (reduced_segment c.as_lists-lists.result.now.definitions c.kept_fields.result.now)) (without-none (forest_of c.args.forest.items))
    ∙ ap (λ keep. map_nodes (reduced_segment c.as_lists-lists.result.now.definitions keep) (forest_of c.args.forest.items)) c.kept_fields.ensures
    ∙ ap (λ model. reduced model c.args.profile.now (forest_of c.args.forest.items)) c.as_lists-lists.ensures.same

pub returns : goal.returns
returns c = record {
  map = same c;
  each = subst (IsReducedFrom c.args.model.now c.args.profile.now (forest_of c.args.forest.items)) (sym (same c))
      (reduced-from c.args.model.now c.args.profile.now (forest_of c.args.forest.items) c.as_lists-lists.ensures.kept.definitions);
  gone = λ gone. subst (AllNodes (λ segment. removes c.args.profile.now segment.type ≡ false)) (sym (same c))
      (reduced-gone c.args.model.now c.args.profile.now (forest_of c.args.forest.items) gone);
  of_entries = λ entries is. subst (IsOfEntries c.args.model.now.definitions entries) (sym (same c))
      (reduced-IsOfEntries c.args.model.now c.args.profile.now entries (forest_of c.args.forest.items) c.as_lists-lists.ensures.kept is);
}
