-- What is found from the leaves up is the largest closed set, and what it keeps of the forest.
use Rattle.std.specs.Prelude.{map}
use Rattle.std.specs.List.{list_all}
use Rattle.std.proofs.Common.{◌≡◌, ℕ, ◌&&◌, Bool, true, false, Option, Some, None, List, [], ◌∷◌, refl, ap, sym, subst, ◌∙◌, ◌⊎◌, inl, inr}
use Rattle.std.proofs.lemmas.Bool.{and_parts}
use Rattle.ale_base.proofs.ListLemmas.{AllByRecursion-append}
use Rattle.ale_base.proofs.MemberLemmas.{Contains-here, Contains-there}
use Rattle.segment_defs.specs.declared.idoc_type.TypePlace.{TypePlace}
use Rattle.dist_model.specs.declared.lists.Lists.{Lists}
use Rattle.dist_model.specs.declared.row.Group.{Group}
use Rattle.idoc_tree.specs.Forest.{Segment, Forest, no_trees, tree, roots, AllNodes}
use Rattle.idoc_tree.specs.Spells.{Hangs}
use Rattle.idoc_tree.specs.Valid.{families_below, HasEnough, IsValid}
use Rattle.idoc_tree.specs.Parts.{SegmentSet, none, takes, leaves, part, IsWithin, union, with_root}
use Rattle.idoc_tree.proofs.ForestLemmas.{AllNodes-weaker}
use Rattle.idoc_tree.proofs.PartLemmas.{AllNodes-part, part-none, Hangs-part, EnoughBelow, EnoughBelow-parts, HasEnough-more, fits-part}
use Rattle.idoc_tree.proofs.SetLemmas.{count_of-within, within-union, union-enough, union-AllNodes}
use Rattle.filter_objects.specs.Passing.{Passes, PassesOne}
use Rattle.filter_objects.specs.Kept.{IsClosed, IsKept, largest, nothing, AreKept, by_none, by_one, IsKeptPart}
use Rattle.filter_objects.specs.FromLeaves.{passes, needs, is_enough, best, if_enough, kept, united, kept_part}
use Rattle.filter_objects.proofs.PassingLemmas.{both_hold, passes-Passes, Passes-passes}
use Rattle.filter_objects.proofs.EnoughLemmas.{needs-HasEnough, HasEnough-needs}

module _ (entries : List TypePlace) (test : Segment → Bool) where
  abbrev Good : Forest → SegmentSet → Type 0
  Good forest set = AllNodes (λ item. test item ≡ true) (part forest set) × EnoughBelow entries (part forest set)

  with_root-good : (b : Bool) (root : Segment) (under behind : Forest) (below after : SegmentSet) →
      (b ≡ true → (test root ≡ true) × HasEnough entries (record { above = Some root.type; children = roots (part under below) })) → Good under below →
      Good behind after → Good (tree root under behind) (with_root b below after)
  with_root-good true root under behind below after here one two = (
    ((here refl).0, one.0, two.0),
    (
      (here refl).1,
      AllByRecursion-append (HasEnough entries) (families_below (part under below))
          (families_below (part behind after)) one.1 two.1,
    ),
  )
  with_root-good false root under behind below after here one two = two

  pub best-good : (forest : Forest) → Good forest (best (needs entries) test forest)
  best-good no_trees = (tt, tt)
  best-good (tree root under behind) =
      with_root-good (test root && list_all (is_enough (part under (best (needs entries) test under))) (needs entries (Some root.type))) root under behind
      (best (needs entries) test under) (best (needs entries) test behind)
      (λ both. let parts = and_parts (test root) _
      both in (parts.0, needs-HasEnough entries (Some root.type) (part under (best (needs entries) test under)) parts.1))
      (best-good under) (best-good behind)

  within-with_root : (b : Bool) (root : Segment) (under behind : Forest) (set below after : SegmentSet) → IsWithin behind set after →
      IsWithin (tree root under behind) (leaves set) (with_root b below after)
  within-with_root true root under behind set below after within = within
  within-with_root false root under behind set below after within = within

  within-has : (b : Bool) (root : Segment) (under behind : Forest) (one two below after : SegmentSet) → b ≡ true → IsWithin under one below →
      IsWithin behind two after → IsWithin (tree root under behind) (takes one two) (with_root b below after)
  within-has true root under behind one two below after is here there = (here, there)
  within-has false root under behind one two below after is here there = cc

  -- each set of which that holds is in it
  pub best-largest : (forest : Forest) (set : SegmentSet) → Good forest set → IsWithin forest set (best (needs entries) test forest)
  best-largest no_trees set good = tt
  best-largest (tree root under behind) none good = tt
  best-largest (tree root under behind) (takes below after) good =
      let parts = EnoughBelow-parts entries root (part under below) (part behind after) good.1 in
      let here = best-largest under below (good.0.1, parts.0) in
      let there = best-largest behind after (good.0.2, parts.1) in
      within-has (test root && list_all (is_enough (part under (best (needs entries) test under))) (needs entries (Some root.type))) root under behind below
      after (best (needs entries) test under) (best (needs entries) test behind)
      (both_hold (test root) (list_all (is_enough (part under (best (needs entries) test under))) (needs entries (Some root.type))) good.0.0
      (HasEnough-needs entries (Some root.type) (part under (best (needs entries) test under))
      (HasEnough-more entries (Some root.type) (roots (part under below)) (roots (part under (best (needs entries) test under)))
      (λ segment. count_of-within segment under below (best (needs entries) test under) here) good.1.0)))
      here there
  best-largest (tree root under behind) (leaves after) good =
      within-with_root (test root && list_all (is_enough (part under (best (needs entries) test under))) (needs entries (Some root.type))) root under behind
      after (best (needs entries) test under) (best (needs entries) test behind)
      (best-largest behind after good)

  closed-within : (forest : Forest) (other : SegmentSet) → IsClosed entries (λ item. test item ≡ true) forest other →
      IsWithin forest other (best (needs entries) test forest)
  closed-within forest other closed = best-largest forest other (closed.pass, closed.enough.1)

  kept-by : (forest : Forest) (b : Bool) → list_all (is_enough (part forest (best (needs entries) test forest))) (needs entries None) ≡ b →
      IsKept entries (λ item. test item ≡ true) forest (if_enough b (best (needs entries) test forest))
  kept-by forest true is =
      largest (best (needs entries) test forest)
      (record {
        pass = (best-good forest).0;
        enough = (needs-HasEnough entries None (part forest (best (needs entries) test forest)) is, (best-good forest).1);
      })
      (λ other closed. closed-within forest other closed)
  kept-by forest false is = nothing (λ other closed.
      let enough = HasEnough-needs entries None (part forest (best (needs entries) test forest))
      (HasEnough-more entries None (roots (part forest other)) (roots (part forest (best (needs entries) test forest)))
      (λ segment. count_of-within segment forest other (best (needs entries) test forest) (closed-within forest other closed)) closed.enough.0) in
      no_both _ is enough)
    where
      no_both : (b : Bool) → b ≡ false → b ≡ true → ⊥
      no_both true one two = cc
      no_both false one two = cc

  pub kept-IsKept : (forest : Forest) → IsKept entries (λ item. test item ≡ true) forest (kept (needs entries) test forest)
  kept-IsKept forest = kept-by forest (list_all (is_enough (part forest (best (needs entries) test forest))) (needs entries None)) refl

-- facts that follow from each other keep the same
IsClosed-same : (entries : List TypePlace) (P Q : Segment → Type 0) (forest : Forest) (set : SegmentSet) → ((item : Segment) → P item → Q item) →
    IsClosed entries P forest set → IsClosed entries Q forest set
IsClosed-same entries P Q forest set follows closed =
    record { pass = AllNodes-weaker P Q (part forest set) follows closed.pass; enough = closed.enough }

IsKept-same : (entries : List TypePlace) (P Q : Segment → Type 0) (forest : Forest) (set : SegmentSet) → ((item : Segment) → P item → Q item) →
    ((item : Segment) → Q item → P item) → IsKept entries P forest set → IsKept entries Q forest set
IsKept-same entries P Q forest _ one two (largest set closed most) =
    largest set (IsClosed-same entries P Q forest set one closed) (λ other shut. most other (IsClosed-same entries Q P forest other two shut))
IsKept-same entries P Q forest _ one two (nothing never) = nothing (λ other shut. never other (IsClosed-same entries Q P forest other two shut))

-- groups keep what is found
pub united-AreKept : (model : Lists) (entries : List TypePlace) (groups : List Group) (forest : Forest) →
    AreKept model entries forest groups (united (needs entries) (map (passes model) groups) forest)
united-AreKept model entries [] forest = by_none
united-AreKept model entries (group ∷ others) forest =
    let own = kept (needs entries) (passes model group) forest in
    by_one group others own (united (needs entries) (map (passes model) others) forest)
    (IsKept-same entries (λ segment. passes model group segment ≡ true) (Passes model group) forest own (passes-Passes model group) (Passes-passes model group)
    (kept-IsKept entries (passes model group) forest))
    (united-AreKept model entries others forest)

-- a set that is empty, or has enough everywhere
pub record IsSound (entries : List TypePlace) (forest : Forest) (set : SegmentSet) : Type 0 where
  pub below : EnoughBelow entries (part forest set)
  pub top : (set ≡ none) ⊎ HasEnough entries (record { above = None; children = roots (part forest set) })

none-EnoughBelow : (entries : List TypePlace) (forest : Forest) → EnoughBelow entries (part forest none)
none-EnoughBelow entries no_trees = tt
none-EnoughBelow entries (tree root under behind) = tt

IsKept-IsSound : (entries : List TypePlace) (Passes : Segment → Type 0) (forest : Forest) (set : SegmentSet) → IsKept entries Passes forest set →
    IsSound entries forest set
IsKept-IsSound entries Passes forest _ (largest set closed most) = record { below = closed.enough.1; top = inr closed.enough.0 }
IsKept-IsSound entries Passes forest _ (nothing never) = record { below = none-EnoughBelow entries forest; top = inl refl }

union-IsSound : (entries : List TypePlace) (forest : Forest) (set other : SegmentSet) → IsSound entries forest set → IsSound entries forest other →
    IsSound entries forest (union set other)
union-IsSound entries forest set other one two = record {
  below = union-enough entries forest set other one.below two.below;
  top = elim one.top [
    | inr enough ↦ inr (HasEnough-more entries None (roots (part forest set)) (roots (part forest (union set other)))
        (λ segment. count_of-within segment forest set (union set other) (within-union forest set other).0) enough)
    | inl empty ↦ subst (λ (s : SegmentSet). (union s other ≡ none) ⊎ HasEnough entries
        (record { above = None; children = roots (part forest (union s other)) })) (sym empty) two.top
  ];
}

-- what groups keep together is empty, or has enough everywhere
AreKept-IsSound : (model : Lists) (entries : List TypePlace) (forest : Forest) (groups : List Group) (set : SegmentSet) →
    AreKept model entries forest groups set → IsSound entries forest set
AreKept-IsSound model entries forest _ _ by_none = record { below = none-EnoughBelow entries forest; top = inl refl }
AreKept-IsSound model entries forest _ _ (by_one group others own rest is are) =
    union-IsSound entries forest own rest (IsKept-IsSound entries (Passes model group) forest own is) (AreKept-IsSound model entries forest others rest are)

-- what is kept of a valid forest is valid, if anything is kept
kept-valid : (entries : List TypePlace) (forest : Forest) (set : SegmentSet) → IsSound entries forest set → IsValid entries forest →
    (set ≡ none) ⊎ IsValid entries (part forest set)
kept-valid entries forest set sound valid = elim sound.top [
  | inl empty ↦ inl empty
  | inr enough ↦ inr (record { fits = fits-part entries forest set valid.fits; enough = (enough, sound.below) })
]

-- each segment that groups keep passes one of them
AreKept-PassesOne : (model : Lists) (entries : List TypePlace) (forest : Forest) (groups : List Group) (set : SegmentSet) →
    AreKept model entries forest groups set → AllNodes (PassesOne model groups) (part forest set)
AreKept-PassesOne model entries forest _ _ by_none = none-AllNodes (PassesOne model []) forest
  where
    none-AllNodes : (P : Segment → Type 0) (forest : Forest) → AllNodes P (part forest none)
    none-AllNodes P no_trees = tt
    none-AllNodes P (tree root under behind) = tt
AreKept-PassesOne model entries forest _ _ (by_one group others own rest is are) =
    union-AllNodes (PassesOne model (group ∷ others)) forest own rest
    (AllNodes-weaker (Passes model group) (PassesOne model (group ∷ others)) (part forest own)
    (λ segment passed. (group, Contains-here group others, passed)) (IsKept-pass own is))
    (AllNodes-weaker (PassesOne model others) (PassesOne model (group ∷ others)) (part forest rest)
    (λ segment one. (one.0, Contains-there group others one.0 one.1, one.2)) (AreKept-PassesOne model entries forest others rest are))
  where
    none-AllNodes : (P : Segment → Type 0) (forest : Forest) → AllNodes P (part forest none)
    none-AllNodes P no_trees = tt
    none-AllNodes P (tree root under behind) = tt

    IsKept-pass : (set : SegmentSet) → IsKept entries (Passes model group) forest set → AllNodes (Passes model group) (part forest set)
    IsKept-pass _ (largest set closed most) = closed.pass
    IsKept-pass _ (nothing never) = none-AllNodes (Passes model group) forest

-- ---- The laws of what is kept of a forest, by what it is.

-- it is what is found
pub law-kept : (model : Lists) (entries : List TypePlace) (groups : List Group) (forest : Forest) →
    IsKeptPart model entries groups forest (kept_part model entries groups forest)
law-kept model entries [] forest = refl
law-kept model entries (group ∷ others) forest =
    (united (needs entries) (map (passes model) (group ∷ others)) forest, united-AreKept model entries (group ∷ others) forest, refl)

-- of a valid forest it is valid, or nothing
pub law-valid : (model : Lists) (entries : List TypePlace) (groups : List Group) (forest left : Forest) → IsKeptPart model entries groups forest left →
    IsValid entries forest → (left ≡ no_trees) ⊎ IsValid entries left
law-valid model entries [] forest left is valid = inr (subst (IsValid entries) (sym is) valid)
law-valid model entries (group ∷ others) forest left is valid =
    elim (kept-valid entries forest is.0 (AreKept-IsSound model entries forest (group ∷ others) is.0 is.1) valid) [
      | inl empty ↦ inl (is.2 ∙ ap (part forest) empty ∙ part-none forest)
      | inr holds ↦ inr (subst (IsValid entries) (sym is.2) holds)
    ]

-- it hangs together as the forest did
pub law-hangs : (model : Lists) (entries : List TypePlace) (above : Option ℕ) (groups : List Group) (forest left : Forest) →
    IsKeptPart model entries groups forest left → Hangs entries above forest → Hangs entries above left
law-hangs model entries above [] forest left is hangs = subst (Hangs entries above) (sym is) hangs
law-hangs model entries above (group ∷ others) forest left is hangs = subst (Hangs entries above) (sym is.2) (Hangs-part entries above forest is.0 hangs)

-- what held of all segments holds of those that are left
pub law-nodes : (P : Segment → Type 0) (model : Lists) (entries : List TypePlace) (groups : List Group) (forest left : Forest) →
    IsKeptPart model entries groups forest left → AllNodes P forest → AllNodes P left
law-nodes P model entries [] forest left is all = subst (AllNodes P) (sym is) all
law-nodes P model entries (group ∷ others) forest left is all = subst (AllNodes P) (sym is.2) (AllNodes-part P forest is.0 all)

-- where there is a group, each segment that is left passes one
pub law-passed : (model : Lists) (entries : List TypePlace) (groups : List Group) (forest left : Forest) → IsKeptPart model entries groups forest left →
    (groups ≡ [] → ⊥) → AllNodes (PassesOne model groups) left
law-passed model entries [] forest left is some = absurd (some refl)
law-passed model entries (group ∷ others) forest left is some =
    subst (AllNodes (PassesOne model (group ∷ others))) (sym is.2) (AreKept-PassesOne model entries forest (group ∷ others) is.0 is.1)
