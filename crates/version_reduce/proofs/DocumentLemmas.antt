-- What is sent of a document by the entries of an IDoc type is one by them again.
use Rattle.std.specs.Prelude.{Contains, if◌then◌else◌}
use Rattle.std.specs.Option.{option_map_or}
use Rattle.std.proofs.Common.{◌≡◌, ℕ, ◌||◌, Bool, true, false, min, Option, Some, None, List, length, take, refl, sym, ap, subst, ◌∙◌, arith}
use Rattle.std.proofs.lemmas.List.{length-take}
use Rattle.ale_base.specs.Blanks.{trimmed}
use Rattle.ale_base.specs.TrimmedLemmas.{length-trimmed, trimmed-trimmed}
use Rattle.segment_defs.specs.declared.definitions.Definitions.{Definitions}
use Rattle.segment_defs.specs.declared.idoc_type.TypePlace.{TypePlace}
use Rattle.segment_defs.specs.Definitions.{versions_of, version_of}
use Rattle.segment_defs.specs.Version.{width_of}
use Rattle.segment_defs.proofs.DefinitionsLemmas.{fitted-fitted}
use Rattle.segment_defs.proofs.NewestLemmas.{found-newest}
use Rattle.dist_model.specs.declared.filter.FieldPlace.{FieldPlace}
use Rattle.dist_model.specs.declared.lists.Lists.{Lists}
use Rattle.dist_model.specs.declared.outbound.Outbound.{Outbound}
use Rattle.dist_model.specs.Model.{IsModel}
use Rattle.dist_model.specs.Outbound.{LeavesWhole, removes, drops}
use Rattle.idoc_tree.specs.Forest.{Segment, Forest, no_trees, tree, AllNodes, map_nodes, without}
use Rattle.idoc_tree.specs.Lines.{IsNode, IsFitted}
use Rattle.idoc_tree.specs.Spells.{fitted_by}
use Rattle.idoc_tree.proofs.ForestLemmas.{AllNodes-weaker, AllNodes-map_nodes, AllNodes-without_kept}
use Rattle.idoc_tree.proofs.WithoutLemmas.{StaysWhole, without-hangs, without-valid}
use Rattle.idoc_reading.specs.Document.{AreEntries, IsOfEntries}
use Rattle.version_reduce.specs.Texts.{with_texts}
use Rattle.version_reduce.specs.Removed.{removed}
use Rattle.version_reduce.specs.Reduced.{reduced, reduced_segment, reduced_text, kept_fields, are_of}
use Rattle.version_reduce.specs.Converted.{converted, converted_segment}
use Rattle.version_reduce.specs.Released.{released, released_segment, given_version, own_release, with_version}
use Rattle.version_reduce.proofs.TextLemmas.{with_texts-IsNode, with_texts-IsFitted}
use Rattle.version_reduce.proofs.ReduceLemmas.{HaveRoom-reduced}
use Rattle.version_reduce.proofs.ConvertLemmas.{HaveRoom-converted}
use Rattle.version_reduce.proofs.ChangeLemmas.{Hangs-map_nodes, IsValid-map_nodes}
use Rattle.version_reduce.proofs.ProfileLemmas.{is_outbound}
use Rattle.version_reduce.proofs.WholeLemmas.{stays_whole, none_missed, without-agree}

AllNodes-both : (P Q : Segment → Type 0) (forest : Forest) → AllNodes P forest → AllNodes Q forest → AllNodes (λ segment. P segment × Q segment) forest
AllNodes-both P Q no_trees one two = tt
AllNodes-both P Q (tree root below after) one two = ((one.0, two.0), AllNodes-both P Q below one.1 two.1, AllNodes-both P Q after one.2 two.2)

-- where segments go and nothing mandatory is missing
left-IsOfEntries : (definitions : Definitions) (entries : List TypePlace) (goes : ℕ → Bool) (stays : Option ℕ → Bool) (forest : Forest)
    → StaysWhole entries goes stays → IsOfEntries definitions entries forest
    → IsOfEntries definitions entries (without (λ segment. goes segment.type) forest)
left-IsOfEntries definitions entries goes stays forest whole is = record {
  nodes = AllNodes-without_kept (IsNode definitions) (λ segment. goes segment.type) forest is.nodes;
  fitted = AllNodes-without_kept (IsFitted definitions) (λ segment. goes segment.type) forest is.fitted;
  hangs = without-hangs entries None (λ segment. goes segment.type) forest is.hangs;
  valid = without-valid entries goes stays whole forest is.hangs is.valid;
}

-- where each segment changes and keeps its type
changed-IsOfEntries : (definitions : Definitions) (entries : List TypePlace) (change : Segment → Segment) (forest : Forest)
    → ((segment : Segment) → (change segment).type ≡ segment.type)
    → ((segment : Segment) → IsNode definitions segment → IsNode definitions (change segment))
    → ((segment : Segment) → IsNode definitions segment → IsFitted definitions segment → IsFitted definitions (change segment))
    → IsOfEntries definitions entries forest → IsOfEntries definitions entries (map_nodes change forest)
changed-IsOfEntries definitions entries change forest keeps node fitted is = record {
  nodes = AllNodes-map_nodes (IsNode definitions) change forest
      (AllNodes-weaker (IsNode definitions) (λ s. IsNode definitions (change s)) forest node is.nodes);
  fitted = AllNodes-map_nodes (IsFitted definitions) change forest
      (AllNodes-weaker (λ s. IsNode definitions s × IsFitted definitions s) (λ s. IsFitted definitions (change s)) forest
      (λ s both. fitted s both.0 both.1)
      (AllNodes-both (IsNode definitions) (IsFitted definitions) forest is.nodes is.fitted));
  hangs = Hangs-map_nodes change keeps entries None forest is.hangs;
  valid = IsValid-map_nodes change keeps entries forest is.valid;
}

either_has : {A : Type 0} (P : A → Type 0) (b : Bool) (x y : A) → P x → P y → P (if b then x else y)
either_has P true x y one two = one
either_has P false x y one two = two

-- after removal
pub removed-IsOfEntries : (definitions : Definitions) (profile : Outbound) (entries : List TypePlace) (forest : Forest) → AreEntries definitions entries
    → LeavesWhole definitions profile entries → IsOfEntries definitions entries forest → IsOfEntries definitions entries (removed profile forest)
removed-IsOfEntries definitions profile entries forest are whole is =
    left-IsOfEntries definitions entries (removes profile) _ forest (stays_whole (removes profile) entries are.apart whole.removed) is

reduced-type : (definitions : Definitions) (keep : List FieldPlace) (segment : Segment) → (reduced_segment definitions keep segment).type ≡ segment.type
reduced-type definitions keep segment =
    either_has (λ (s : Segment). s.type ≡ segment.type) (are_of keep segment.type) (with_texts definitions (reduced_text definitions keep segment) segment)
    segment refl refl

-- after reduction
pub reduced-IsOfEntries : (model : Lists) (profile : Outbound) (entries : List TypePlace) (forest : Forest) → IsModel model
    → IsOfEntries model.definitions entries forest → IsOfEntries model.definitions entries (reduced model profile forest)
reduced-IsOfEntries model profile entries forest kept is =
    let definitions = model.definitions in
    let keep = kept_fields model profile in
    changed-IsOfEntries definitions entries (reduced_segment definitions keep) forest (reduced-type definitions keep)
    (λ s node. either_has (IsNode definitions) (are_of keep s.type) (with_texts definitions (reduced_text definitions keep s) s) s
    (with_texts-IsNode definitions (reduced_text definitions keep s) s kept.definitions (HaveRoom-reduced definitions keep s kept.definitions) node) node)
    (λ s node fits. either_has (IsFitted definitions) (are_of keep s.type) (with_texts definitions (reduced_text definitions keep s) s) s
    (with_texts-IsFitted definitions (reduced_text definitions keep s) s (HaveRoom-reduced definitions keep s kept.definitions) node) fits)
    is

-- after conversion
pub converted-IsOfEntries : (model : Lists) (profile : Outbound) (entries : List TypePlace) (forest : Forest) → IsModel model
    → Contains model.outbound profile
    → IsOfEntries model.definitions entries forest → IsOfEntries model.definitions entries (converted model profile forest)
converted-IsOfEntries model profile entries forest kept among is =
    let definitions = model.definitions in
    let rows = profile.convert in
    let all = (is_outbound model profile kept among).convert in
    changed-IsOfEntries definitions entries (converted_segment definitions rows) forest (λ s. refl)
    (λ s node. with_texts-IsNode definitions _ s kept.definitions (HaveRoom-converted definitions rows s kept.definitions all) node)
    (λ s node fits. with_texts-IsFitted definitions _ s (HaveRoom-converted definitions rows s kept.definitions all) node)
    is

-- a segment with the definition that it is given, if it is given one
module _ (definitions : Definitions) (segment : Segment) (release : ℕ) where
  given : ℕ
  given = min release (own_release definitions segment)

  released-type : (o : Option ℕ) → (option_map_or (with_version definitions segment) o segment).type ≡ segment.type
  released-type None = refl
  released-type (Some version) = refl

  module _ (node : IsNode definitions segment) where
    released-IsNode : (o : Option ℕ) → given_version definitions release segment ≡ o →
        IsNode definitions (option_map_or (with_version definitions segment) o segment)
    released-IsNode None is = node
    released-IsNode (Some version) is =
        let newest = (found-newest (min release (own_release definitions segment)) (versions_of definitions segment.type) version).0 is in
        let cut : fitted_by (version_of definitions segment.type version) segment.sdata ≡ trimmed (take (width_of newest.version.fields) segment.sdata)
        = ap (λ o. fitted_by o segment.sdata) newest.here in
        record {
          definition = newest.version;
          here = newest.here;
          short = omega (
            arith,
            ap length cut,
            length-trimmed (take (width_of newest.version.fields) segment.sdata),
            length-take
                (width_of newest.version.fields) segment.sdata,
            node.short,
          );
          ends = ap trimmed cut ∙ trimmed-trimmed (take (width_of newest.version.fields) segment.sdata) ∙ sym cut;
        }

    released-IsFitted : (o : Option ℕ) → given_version definitions release segment ≡ o → IsFitted definitions segment
        → IsFitted definitions (option_map_or (with_version definitions segment) o segment)
    released-IsFitted None is fits = fits
    released-IsFitted (Some version) is fits =
        let newest = (found-newest (min release (own_release definitions segment)) (versions_of definitions segment.type) version).0 is in
        let cut = ap (λ o. fitted_by o segment.sdata) newest.here in
        ap (λ o. fitted_by o (fitted_by (version_of definitions segment.type version) segment.sdata)) newest.here
        ∙ ap (fitted_by (Some newest.version)) cut ∙ fitted-fitted newest.version segment.sdata ∙ sym cut

-- after the release, where none of a type that is removed was left
pub released-IsOfEntries : (model : Lists) (profile : Outbound) (entries : List TypePlace) (forest : Forest) → AreEntries model.definitions entries
    → LeavesWhole model.definitions profile entries → AllNodes (λ segment. removes profile segment.type ≡ false) forest
    → IsOfEntries model.definitions entries forest → IsOfEntries model.definitions entries (released model profile forest)
released-IsOfEntries model profile entries forest are whole gone is =
    let definitions = model.definitions in
    let out = λ (type : ℕ). removes profile type || drops definitions profile type in
    let left = left-IsOfEntries definitions entries out _ forest
    (stays_whole out entries are.apart
    (none_missed (removes profile) (drops definitions profile) entries whole.removed whole.dropped)) is in
    let same = without-agree (λ s. drops definitions profile s.type) (λ s. out s.type) forest
    (AllNodes-weaker (λ s. removes profile s.type ≡ false) (λ s. drops definitions profile s.type ≡ out s.type) forest
    (λ s stays. ap (λ b. b || drops definitions profile s.type) (sym stays)) gone) in
    changed-IsOfEntries definitions entries (released_segment definitions profile.release) (without (λ s. drops definitions profile s.type) forest)
    (λ s. released-type definitions s profile.release (given_version definitions profile.release s))
    (λ s node. released-IsNode definitions s profile.release node (given_version definitions profile.release s) refl)
    (λ s node fits. released-IsFitted definitions s profile.release node (given_version definitions profile.release s) refl fits)
    (subst (IsOfEntries definitions entries) (sym same) left)

-- what changes and keeps its types has none of a removed type, if there was none
changed-gone : (profile : Outbound) (change : Segment → Segment) (forest : Forest) → ((segment : Segment) → (change segment).type ≡ segment.type)
    → AllNodes (λ segment. removes profile segment.type ≡ false) forest → AllNodes (λ segment. removes profile segment.type ≡ false) (map_nodes change forest)
changed-gone profile change forest keeps gone =
    AllNodes-map_nodes (λ s. removes profile s.type ≡ false) change forest
    (AllNodes-weaker (λ s. removes profile s.type ≡ false) (λ s. removes profile (change s).type ≡ false) forest (λ s is. ap (removes profile) (keeps s) ∙ is)
    gone)

pub reduced-gone : (model : Lists) (profile : Outbound) (forest : Forest) → AllNodes (λ segment. removes profile segment.type ≡ false) forest
    → AllNodes (λ segment. removes profile segment.type ≡ false) (reduced model profile forest)
reduced-gone model profile forest gone =
    changed-gone profile (reduced_segment model.definitions (kept_fields model profile)) forest (reduced-type model.definitions (kept_fields model profile))
    gone

pub converted-gone : (model : Lists) (profile : Outbound) (forest : Forest) → AllNodes (λ segment. removes profile segment.type ≡ false) forest
    → AllNodes (λ segment. removes profile segment.type ≡ false) (converted model profile forest)
converted-gone model profile forest gone = changed-gone profile (converted_segment model.definitions profile.convert) forest (λ s. refl) gone
