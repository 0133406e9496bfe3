-- What is sent of a master has no more segments than it.
use Rattle.std.specs.Prelude.{option_and_then, if◌then◌else◌}
use Rattle.std.proofs.Common.{◌≡◌, ℕ, ◌≤◌, Bool, true, false, Option, Some, None, List, [], ◌∷◌, length, map, ap, ◌∙◌, subst, arith}
use Rattle.std.proofs.Common.{length-append}
use Rattle.std.proofs.lemmas.List.{length-map}
use Rattle.segment_defs.specs.declared.idoc_type.TypePlace.{TypePlace}
use Rattle.dist_model.specs.declared.lists.Lists.{Lists}
use Rattle.dist_model.specs.declared.outbound.Outbound.{Outbound}
use Rattle.dist_model.specs.declared.row.Group.{Group}
use Rattle.dist_model.specs.Model.{outbound_of}
use Rattle.dist_model.specs.Outbound.{drops, removes}
use Rattle.idoc_tree.specs.Forest.{Segment, Forest, no_trees, tree, map_nodes, preorder, without}
use Rattle.idoc_tree.specs.Parts.{SegmentSet, none, takes, leaves, part}
use Rattle.idoc_tree.proofs.ForestLemmas.{preorder-map_nodes}
use Rattle.filter_objects.specs.FromLeaves.{kept_part, needs, passes, united}
use Rattle.version_reduce.specs.Removed.{removed}
use Rattle.version_reduce.specs.Reduced.{kept_fields, reduced, reduced_segment}
use Rattle.version_reduce.specs.Converted.{converted, converted_segment}
use Rattle.version_reduce.specs.Released.{released_segment}
use Rattle.filter_objects.specs.Passing.{groups_of}
use Rattle.outbound_build.specs.Document.{Document}
use Rattle.outbound_build.specs.Sent.{adapted, entries_of, kept_by, made_of, sent, sent_by}

-- how many segments a forest has
abbrev pub size : Forest → ℕ
size forest = length (preorder forest)

size-part : (forest : Forest) (set : SegmentSet) → size (part forest set) ≤ size forest
size-part no_trees set = omega arith
size-part (tree root under behind) none = omega arith
size-part (tree root under behind) (takes below after) =
    omega (
      arith,
      length-append (preorder (part under below)) (preorder (part behind after)),
      length-append (preorder under) (preorder behind),
      size-part under below,
      size-part behind after,
    )
size-part (tree root under behind) (leaves after) = omega (arith, length-append (preorder under) (preorder behind), size-part behind after)

size-without : (goes : Segment → Bool) (forest : Forest) → size (without goes forest) ≤ size forest
size-without goes no_trees = omega arith
size-without goes (tree root below after) = by_test (goes root) (size-without goes below) (size-without goes after)
  where
    by_test : (b : Bool) → size (without goes below) ≤ size below → size (without goes after) ≤ size after
        → size (if b then without goes after else tree root (without goes below) (without goes after)) ≤ size (tree root below after)
    by_test true under behind = omega (arith, length-append (preorder below) (preorder after))
    by_test false under behind =
        omega (arith, length-append (preorder (without goes below)) (preorder (without goes after)), length-append (preorder below) (preorder after))

size-map : (change : Segment → Segment) (forest : Forest) → size (map_nodes change forest) ≡ size forest
size-map change forest = ap (λ (segments : List Segment). length segments) (preorder-map_nodes change forest) ∙ length-map (preorder forest) change

size-kept : (model : Lists) (entries : List TypePlace) (groups : List Group) (forest : Forest) → size (kept_part model entries groups forest) ≤ size forest
size-kept model entries [] forest = omega arith
size-kept model entries (group ∷ others) forest = size-part forest (united (needs entries) (map (passes model) (group ∷ others)) forest)

size-adapted : (model : Lists) (profile : Outbound) (forest : Forest) → size (adapted model profile forest) ≤ size forest
size-adapted model profile forest =
    let left = removed profile forest in
    let fewer = reduced model profile left in
    let other = converted model profile fewer in
    let rest = without (λ segment. drops model.definitions profile segment.type) other in
    omega (
      arith,
      size-without (λ segment. removes profile segment.type) forest,
      size-map (reduced_segment model.definitions (kept_fields model profile)) left,
      size-map (converted_segment model.definitions profile.convert) fewer,
      size-without (λ segment. drops model.definitions profile segment.type) other,
      size-map (released_segment model.definitions profile.release) rest,
    )

-- a document that is sent has at most as many segments as its master
pub size-sent : (model : Lists) (row number : ℕ) (master document : Document) → sent model row number master ≡ Some document
    → size document.forest ≤ size master.forest
size-sent model row number master document is = by_profile (outbound_of model row) is
  where
    made : (profile : Outbound) (kept : Forest) → made_of model profile number master.control kept ≡ Some document → size document.forest ≤ size kept
    made profile no_trees is = absurd (cc)
    made profile (tree root below after) is =
        let kept = tree root below after in
        let forest : adapted model profile kept ≡ document.forest = cc in
        subst (λ (f : Forest). size f ≤ size kept) forest (size-adapted model profile kept)

    by_profile : (o : Option Outbound) → option_and_then (sent_by model row number master) o ≡ Some document → size document.forest ≤ size master.forest
    by_profile None is = absurd (cc)
    by_profile (Some profile) is =
        omega (
          arith,
          made profile (kept_by model row master) is,
          size-kept model (entries_of model row master.control) (groups_of model row) master.forest,
        )
