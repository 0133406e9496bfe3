-- The first segment of a type in a forest.
use Rattle.std.specs.Prelude.{find, IsSome}
use Rattle.std.specs.Option.{option_or}
use Rattle.std.proofs.Common.{◌≡◌, inl, inr, Bool, true, false, Some, None, List, [], ◌∷◌, ◌++◌, refl, ap, sym, ◌∙◌, subst}
use Rattle.std.specs.List.{AllByRecursion}
use Rattle.std.proofs.lemmas.Bool.{cases_Bool, cond-true, cond-false}
use Rattle.std.proofs.lemmas.Option.{same_Some}
use Rattle.std.proofs.lemmas.List.Folds.{find-append}
use Rattle.ale_base.proofs.ListLemmas.{AllByRecursion-append}
use Rattle.segment_defs.specs.declared.definitions.Definitions.{Definitions}
use Rattle.segment_defs.specs.Definitions.{HasVersion}
use Rattle.idoc_tree.specs.Lines.{IsNode}
use Rattle.idoc_tree.specs.Forest.{Segment, Forest, no_trees, tree, preorder, AllNodes}

-- the first segment that passes is the root of the first tree, one below it, or one after it
pub find-root : (test : Segment → Bool) (root : Segment) (below after : Forest) → test root ≡ true → find test (preorder (tree root below after)) ≡ Some root
find-root test root below after is = cond-true (test root) (Some root) (find test (preorder below ++ preorder after)) is

find-on : (test : Segment → Bool) (root : Segment) (below after : Forest) → test root ≡ false
    → find test (preorder (tree root below after)) ≡ option_or (find test (preorder below)) (find test (preorder after))
find-on test root below after is =
    cond-false (test root) (Some root) (find test (preorder below ++ preorder after)) is ∙ find-append test (preorder below) (preorder after)

pub find-below : (test : Segment → Bool) (root : Segment) (below after : Forest) (segment : Segment) → test root ≡ false
    → find test (preorder below) ≡ Some segment
    → find test (preorder (tree root below after)) ≡ Some segment
find-below test root below after segment is found = find-on test root below after is ∙ ap (λ o. option_or o (find test (preorder after))) found

pub find-after : (test : Segment → Bool) (root : Segment) (below after : Forest) → test root ≡ false → find test (preorder below) ≡ None
    → find test (preorder (tree root below after)) ≡ find test (preorder after)
find-after test root below after is none = find-on test root below after is ∙ ap (λ o. option_or o (find test (preorder after))) none

AllNodes-preorder : (P : Segment → Type 0) (forest : Forest) → AllNodes P forest → AllByRecursion P (preorder forest)
AllNodes-preorder P no_trees all = tt
AllNodes-preorder P (tree root below after) all =
    (all.0, AllByRecursion-append P (preorder below) (preorder after) (AllNodes-preorder P below all.1) (AllNodes-preorder P after all.2))

find-all : (P : Segment → Type 0) (test : Segment → Bool) (segments : List Segment) (segment : Segment) → AllByRecursion P segments
    → find test segments ≡ Some segment → P segment
find-all P test [] segment all found = cc
find-all P test (first ∷ others) segment all found =
    elim (cases_Bool (test first)) [
      | inl is ↦ subst P (same_Some first segment (sym (cond-true (test first) (Some first) (find test others) is) ∙ found)) all.0
      | inr other ↦ find-all P test others segment all.1 (sym (cond-false (test first) (Some first) (find test others) other) ∙ found)
    ]

-- what holds of each segment of a forest holds of one that is found in it
pub found-AllNodes : (P : Segment → Type 0) (test : Segment → Bool) (forest : Forest) (segment : Segment) → AllNodes P forest
    → find test (preorder forest) ≡ Some segment → P segment
found-AllNodes P test forest segment all found = find-all P test (preorder forest) segment (AllNodes-preorder P forest all) found

-- a segment of some definitions has one of them
pub node-HasVersion : (definitions : Definitions) (segment : Segment) → IsNode definitions segment → HasVersion definitions segment.type segment.version
node-HasVersion definitions segment is = subst IsSome (sym is.here) refl
