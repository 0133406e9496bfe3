use Rattle.std.specs.List.{AllByRecursion}
use Rattle.std.proofs.Common.{◌≡◌, false, List, sym, ap, subst, ◌∙◌}
use Rattle.segment_defs.specs.declared.definitions.Definitions.{Definitions}
use Rattle.segment_defs.specs.Definitions.{AreDefinitions}
use Rattle.dist_model.specs.declared.lists.Lists.{Lists}
use Rattle.dist_model.specs.declared.outbound.Convert.{Convert}
use Rattle.dist_model.specs.Outbound.{IsConvert, removes}
use Rattle.dist_model.specs.Model.{IsModel}
use Rattle.idoc_tree.specs.Forest.{AllNodes, map_nodes}
use Rattle.idoc_tree.specs.Nodes.{forest_of}
use Rattle.idoc_reading.specs.Document.{IsOfEntries}
use Rattle.version_reduce.specs.Converted.{IsConvertedFrom, converted, converted_segment}
use Rattle.version_reduce.proofs.DocumentLemmas.{converted-IsOfEntries, converted-gone}
use Rattle.version_reduce.proofs.ChangeLemmas.{without-none}
use Rattle.version_reduce.proofs.ProfileLemmas.{is_outbound}
use Rattle.version_reduce.proofs.TextLawLemmas.{converted-from}
use Rattle.version_reduce.proofs.conversion.convert_fields.Goals as goal

-- what the walk needs
abbrev IsReady : Definitions → List Convert → Type 0
IsReady definitions rows = AreDefinitions definitions × AllByRecursion (IsConvert definitions) rows

pub walk-requires : goal.walk-requires
walk-requires c =
    let model = c.args.model.now in
    let kept : IsModel model = c.as_lists-lists.ensures.kept in
    let profile = is_outbound model c.args.profile.now kept c.requires.profile in
    let ready : IsReady model.definitions c.args.profile.now.convert = (kept.definitions, profile.convert) in
    subst (λ rows. IsReady c.as_lists-lists.result.now.definitions rows) (sym c.as_slice.ensures)
    (subst (λ (lists : Lists). IsReady lists.definitions c.args.profile.now.convert) (sym c.as_lists-lists.ensures.same) ready)

same : (c : goal.In_ok-sent) → forest_of c.in_ok-sent.sent.items ≡ converted c.args.model.now c.args.profile.now (forest_of c.args.forest.items)
same c = c.in_ok-sent.ensures
    ∙ ap (map_nodes (converted_segment c.as_lists-lists.result.now.definitions c.as_slice.result.now)) (without-none (forest_of c.args.forest.items))
    ∙ ap (λ rows. map_nodes (converted_segment c.as_lists-lists.result.now.definitions rows) (forest_of c.args.forest.items)) c.as_slice.ensures
    ∙ ap (λ model. map_nodes (converted_segment model.definitions c.args.profile.now.convert) (forest_of c.args.forest.items)) c.as_lists-lists.ensures.same

pub returns : goal.returns
returns c = record {
  map = same c;
  each = subst (IsConvertedFrom c.args.model.now c.args.profile.now (forest_of c.args.forest.items)) (sym (same c))
      (converted-from c.args.model.now c.args.profile.now (forest_of c.args.forest.items) c.as_lists-lists.ensures.kept.definitions
      (is_outbound c.args.model.now c.args.profile.now c.as_lists-lists.ensures.kept c.requires.profile).convert);
  gone = λ gone. subst (AllNodes (λ segment. removes c.args.profile.now segment.type ≡ false)) (sym (same c))
      (converted-gone c.args.model.now c.args.profile.now (forest_of c.args.forest.items) gone);
  of_entries = λ entries is. subst (IsOfEntries c.args.model.now.definitions entries) (sym (same c))
      (converted-IsOfEntries c.args.model.now c.args.profile.now entries (forest_of c.args.forest.items) c.as_lists-lists.ensures.kept
      c.requires.profile is);
}
