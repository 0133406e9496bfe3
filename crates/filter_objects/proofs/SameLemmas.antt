-- Where the same is needed below each segment, the same is found.
use Rattle.std.specs.Prelude.{IsSome}
use Rattle.std.specs.List.{list_all}
use Rattle.std.proofs.Common.{◌≡◌, ℕ, ◌&&◌, Bool, Option, Some, None, List, [], ◌∷◌, refl, ap, sym, subst, ◌∙◌}
use Rattle.segment_defs.specs.declared.idoc_type.TypePlace.{TypePlace}
use Rattle.segment_defs.specs.declared.definitions.Definitions.{Definitions}
use Rattle.idoc_tree.specs.Forest.{Segment, Forest, no_trees, tree, AllNodes}
use Rattle.idoc_tree.specs.Lines.{IsNode}
use Rattle.idoc_tree.specs.Parts.{SegmentSet, part, union, with_root}
use Rattle.idoc_tree.proofs.ForestLemmas.{AllNodes-weaker}
use Rattle.filter_objects.specs.FromLeaves.{is_enough, best, if_enough, kept, united}
use Rattle.filter_objects.specs.steps.Conditions.{HasDefinition}

module _ (needs other : Option ℕ → List TypePlace) where
  -- the same is needed below the type of a segment
  abbrev pub SameBelow : Segment → Type 0
  SameBelow segment = needs (Some segment.type) ≡ other (Some segment.type)

  best-same : (test : Segment → Bool) (forest : Forest) → AllNodes SameBelow forest → best needs test forest ≡ best other test forest
  best-same test no_trees all = refl
  best-same test (tree root under behind) all =
      ap (λ (n : List TypePlace). with_root (test root && list_all (is_enough (part under (best needs test under))) n) (best needs test under)
      (best needs test behind)) all.0
      ∙ ap (λ (s : SegmentSet). with_root (test root && list_all (is_enough (part under s)) (other (Some root.type))) s (best needs test behind))
      (best-same test under all.1)
      ∙ ap (with_root (test root && list_all (is_enough (part under (best other test under))) (other (Some root.type))) (best other test under))
      (best-same test behind all.2)

  kept-same : (test : Segment → Bool) (forest : Forest) → needs None ≡ other None → AllNodes SameBelow forest → kept needs test forest ≡ kept other test forest
  kept-same test forest top all =
      ap (λ (n : List TypePlace). if_enough (list_all (is_enough (part forest (best needs test forest))) n) (best needs test forest)) top
      ∙ ap (λ (s : SegmentSet). if_enough (list_all (is_enough (part forest s)) (other None)) s) (best-same test forest all)

  -- so the tests keep the same
  pub united-same : (tests : List (Segment → Bool)) (forest : Forest) → needs None ≡ other None → AllNodes SameBelow forest →
      united needs tests forest ≡ united other tests forest
  united-same [] forest top all = refl
  united-same (test ∷ tests) forest top all =
      ap (λ (s : SegmentSet). union s (united needs tests forest)) (kept-same test forest top all)
      ∙ ap (union (kept other test forest)) (united-same tests forest top all)

-- there is the definition of each node
pub have_definitions : (definitions : Definitions) (forest : Forest) → AllNodes (IsNode definitions) forest → AllNodes (HasDefinition definitions) forest
have_definitions definitions forest all =
    AllNodes-weaker (IsNode definitions) (HasDefinition definitions) forest (λ segment node. subst IsSome (sym node.here) refl) all
