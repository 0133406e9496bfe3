-- A segment that is hung below an open one.
use Rattle.std.proofs.lemmas.Bool.{eqb-true}
use Rattle.std.proofs.Common.{◌≡◌, ℕ, ◌==◌, Bool, true, false, cond, Option, Some, List, [], ◌∷◌, ◌++◌, refl, ap, sym, subst, ◌∙◌, append_assoc, append-nil}
use Rattle.std.specs.List.{AllByRecursion}
use Rattle.std.proofs.lemmas.Option.{same_Some}
use Rattle.segment_defs.specs.declared.idoc_type.TypePlace.{TypePlace}
use Rattle.segment_defs.specs.IdocType.{parent_of}
use Rattle.idoc_tree.specs.Forest.{Segment, Forest, no_trees, tree, preorder, is_bare, leaf, joined, map_nodes, without, roots}
use Rattle.idoc_tree.specs.Spells.{Hangs}
use Rattle.idoc_tree.specs.Valid.{Family, families_below}
use Rattle.idoc_tree.specs.Siblings.{children_of_open}
use Rattle.idoc_tree.specs.steps.Growing.{hung_below}
use Rattle.idoc_tree.proofs.ForestLemmas.{bare_is_none, preorder-joined, roots-joined}
use Rattle.ale_base.proofs.ListLemmas.{AllByRecursion-append, AllByRecursion-parts}

-- A segment is hung below the open one of a type: the forest before, the siblings there, and the forest after.
pub data HangsBelow (type : ℕ) (segment : Segment) : Forest → List Segment → Forest → Type 0 where
  here : (root : Segment) (below : Forest) → root.type == type ≡ true →
      HangsBelow type segment (tree root below no_trees) (roots below) (tree root (joined below (leaf segment)) no_trees)
  deeper : (root : Segment) (below below' : Forest) (among : List Segment) → root.type == type ≡ false → HangsBelow type segment below among below' →
      HangsBelow type segment (tree root below no_trees) among (tree root below' no_trees)
  later : (root : Segment) (below after after' : Forest) (among : List Segment) → HangsBelow type segment after among after' →
      HangsBelow type segment (tree root below after) among (tree root below after')

module _ (type : ℕ) (segment : Segment) where
  hangs_last : (root : Segment) (below : Forest) (among : List Segment) (b : Bool) → root.type == type ≡ b →
      (children_of_open type below ≡ Some among → HangsBelow type segment below among (hung_below type segment below)) →
      cond b (Some (roots below)) (children_of_open type below) ≡ Some among →
      HangsBelow type segment (tree root below no_trees) among (tree root (cond b (joined below (leaf segment)) (hung_below type segment below)) no_trees)
  hangs_last root below among true same rest found =
      subst (λ among. HangsBelow type segment (tree root below no_trees) among (tree root (joined below (leaf segment)) no_trees))
      (same_Some (roots below) among found) (here root below same)
  hangs_last root below among false same rest found = deeper root below (hung_below type segment below) among same (rest found)

  hangs_in : (root : Segment) (below after : Forest) (among : List Segment) (b : Bool) → is_bare after ≡ b →
      (children_of_open type below ≡ Some among → HangsBelow type segment below among (hung_below type segment below)) →
      (children_of_open type after ≡ Some among → HangsBelow type segment after among (hung_below type segment after)) →
      cond b (cond (root.type == type) (Some (roots below)) (children_of_open type below)) (children_of_open type after) ≡ Some among →
      HangsBelow type segment (tree root below after) among
      (cond b (tree root (cond (root.type == type) (joined below (leaf segment)) (hung_below type segment below)) after)
      (tree root below (hung_below type segment after)))
  hangs_in root below after among true bare last rest found =
      subst (λ after. HangsBelow type segment (tree root below after) among
      (tree root (cond (root.type == type) (joined below (leaf segment)) (hung_below type segment below)) after)) (sym (bare_is_none after bare))
      (hangs_last root below among (root.type == type) refl last found)
  hangs_in root below after among false bare last rest found = later root below after (hung_below type segment after) among (rest found)

  -- where a segment of the type is open, a segment can be hung below it
  pub hangs_below : (forest : Forest) (among : List Segment) → children_of_open type forest ≡ Some among →
      HangsBelow type segment forest among (hung_below type segment forest)
  hangs_below no_trees among found = cc
  hangs_below (tree root below after) among found =
      hangs_in root below after among (is_bare after) refl (hangs_below below among) (hangs_below after among) found

  -- a forest below which a segment hangs has a tree
  pub HangsBelow-not_bare : (forest : Forest) (among : List Segment) (grown : Forest) → HangsBelow type segment forest among grown → is_bare forest ≡ false
  HangsBelow-not_bare _ among grown (here root below same) = refl
  HangsBelow-not_bare _ among grown (deeper root below below' among' same rest) = refl
  HangsBelow-not_bare _ among grown (later root below after after' among' rest) = refl

  -- the two are what the definitions compute
  pub HangsBelow-open : (forest : Forest) (among : List Segment) (grown : Forest) → HangsBelow type segment forest among grown →
      (children_of_open type forest ≡ Some among) × (hung_below type segment forest ≡ grown)
  HangsBelow-open _ _ _ (here root below same) = (
    ap (λ b. cond b (Some (roots below)) (children_of_open type below)) same,
    ap (λ b. tree root (cond b (joined below (leaf segment)) (hung_below type segment below)) no_trees) same,
  )
  HangsBelow-open _ _ _ (deeper root below below' among other rest) =
      let parts = HangsBelow-open below among below' rest in (
        ap (λ b. cond b (Some (roots below)) (children_of_open type below)) other ∙ parts.0,
        ap (λ b. tree root (cond b (joined below (leaf segment)) (hung_below type segment below)) no_trees) other ∙ ap (λ b. tree root b no_trees) parts.1,
      )
  HangsBelow-open _ _ _ (later root below after after' among rest) =
      let parts = HangsBelow-open after among after' rest in
      let bare = HangsBelow-not_bare after among after' rest in (
        ap (λ b. cond b (cond (root.type == type) (Some (roots below)) (children_of_open type below)) (children_of_open type after)) bare ∙ parts.0,
        ap (λ b. cond b (tree root (cond (root.type == type) (joined below (leaf segment)) (hung_below type segment below)) after)
            (tree root below (hung_below type segment after))) bare ∙ ap (tree root below) parts.1,
      )

  -- the segment comes last
  pub HangsBelow-preorder : (forest : Forest) (among : List Segment) (grown : Forest) → HangsBelow type segment forest among grown →
      preorder grown ≡ preorder forest ++ segment ∷ []
  HangsBelow-preorder _ _ _ (here root below same) =
      ap (λ segments. root ∷ (segments ++ [])) (preorder-joined below (leaf segment))
      ∙ ap (λ segments. root ∷ segments) (append-nil (preorder below ++ segment ∷ [])
      ∙ ap (λ segments. segments ++ segment ∷ []) (sym (append-nil (preorder below))))
  HangsBelow-preorder _ _ _ (deeper root below below' among other rest) =
      ap (λ segments. root ∷ (segments ++ [])) (HangsBelow-preorder below among below' rest)
      ∙ ap (λ segments. root ∷ segments) (append-nil (preorder below ++ segment ∷ [])
      ∙ ap (λ segments. segments ++ segment ∷ []) (sym (append-nil (preorder below))))
  HangsBelow-preorder _ _ _ (later root below after after' among rest) =
      ap (λ segments. root ∷ (preorder below ++ segments)) (HangsBelow-preorder after among after' rest)
      ∙ ap (λ segments. root ∷ segments) (sym (append_assoc (preorder below) (preorder after) (segment ∷ [])))

  -- the roots stay
  pub HangsBelow-roots : (forest : Forest) (among : List Segment) (grown : Forest) → HangsBelow type segment forest among grown → roots grown ≡ roots forest
  HangsBelow-roots _ _ _ (here root below same) = refl
  HangsBelow-roots _ _ _ (deeper root below below' among other rest) = refl
  HangsBelow-roots _ _ _ (later root below after after' among rest) = ap (λ segments. root ∷ segments) (HangsBelow-roots after among after' rest)

module _ (entries : List TypePlace) where
  -- two forests that hang together below one segment hang together side by side
  pub Hangs-joined : (above : Option ℕ) (first second : Forest) → Hangs entries above first → Hangs entries above second →
      Hangs entries above (joined first second)
  Hangs-joined above no_trees second ours theirs = theirs
  Hangs-joined above (tree root below after) second ours theirs = (ours.0, ours.1, Hangs-joined above after second ours.2 theirs)

  -- and where they do so side by side, each does
  pub Hangs-parts : (above : Option ℕ) (first second : Forest) → Hangs entries above (joined first second) →
      Hangs entries above first × Hangs entries above second
  Hangs-parts above no_trees second all = (tt, all)
  Hangs-parts above (tree root below after) second all =
      let parts = Hangs-parts above after second all.2 in ((all.0, all.1, parts.0), parts.1)

  -- a change that keeps each segment's type leaves all hanging
  pub Hangs-map_nodes : (change : Segment → Segment) → ((segment : Segment) → (change segment).type ≡ segment.type) → (above : Option ℕ) (forest : Forest) →
      Hangs entries above forest → Hangs entries above (map_nodes change forest)
  Hangs-map_nodes change keeps above no_trees hangs = tt
  Hangs-map_nodes change keeps above (tree root below after) hangs = (
    ap (parent_of entries) (keeps root) ∙ hangs.0,
    subst (λ type. Hangs entries (Some type) (map_nodes change below)) (sym (keeps root)) (Hangs-map_nodes change keeps (Some root.type) below hangs.1),
    Hangs-map_nodes change keeps above after hangs.2,
  )

  hangs_without : (goes : Bool) (root : Segment) (above : Option ℕ) (below after : Forest) → parent_of entries root.type ≡ Some above →
      Hangs entries (Some root.type) below → Hangs entries above after → Hangs entries above (cond goes after (tree root below after))
  hangs_without true root above below after parent under behind = behind
  hangs_without false root above below after parent under behind = (parent, under, behind)

  -- what stays when segments go with all below them still hangs
  pub Hangs-without : (goes : Segment → Bool) (above : Option ℕ) (forest : Forest) → Hangs entries above forest → Hangs entries above (without goes forest)
  Hangs-without goes above no_trees hangs = tt
  Hangs-without goes above (tree root below after) hangs =
      hangs_without (goes root) root above (without goes below) (without goes after) hangs.0
      (Hangs-without goes (Some root.type) below hangs.1) (Hangs-without goes above after hangs.2)

  -- a segment that is hung below its parent's type hangs right
  pub HangsBelow-hangs : (type : ℕ) (segment : Segment) (above : Option ℕ) (forest : Forest) (among : List Segment) (grown : Forest) →
      parent_of entries segment.type ≡ Some (Some type) → HangsBelow type segment forest among grown → Hangs entries above forest → Hangs entries above grown
  HangsBelow-hangs type segment above _ _ _ parent (here root below same) hangs =
      let own : parent_of entries segment.type ≡ Some (Some root.type) = parent ∙ ap (λ s. Some (Some s)) (sym (eqb-true root.type type same)) in
      (hangs.0, Hangs-joined (Some root.type) below (leaf segment) hangs.1 (own, tt, tt), tt)
  HangsBelow-hangs type segment above _ _ _ parent (deeper root below below' among other rest) hangs =
      (hangs.0, HangsBelow-hangs type segment (Some root.type) below among below' parent rest hangs.1, tt)
  HangsBelow-hangs type segment above _ _ _ parent (later root below after after' among rest) hangs =
      (hangs.0, hangs.1, HangsBelow-hangs type segment above after among after' parent rest hangs.2)

  -- and without it the others did
  pub HangsBelow-hung : (type : ℕ) (segment : Segment) (above : Option ℕ) (forest : Forest) (among : List Segment) (grown : Forest) →
      HangsBelow type segment forest among grown → Hangs entries above grown → Hangs entries above forest
  HangsBelow-hung type segment above _ _ _ (here root below same) hangs =
      (hangs.0, (Hangs-parts (Some root.type) below (leaf segment) hangs.1).0, tt)
  HangsBelow-hung type segment above _ _ _ (deeper root below below' among other rest) hangs =
      (hangs.0, HangsBelow-hung type segment (Some root.type) below among below' rest hangs.1, tt)
  HangsBelow-hung type segment above _ _ _ (later root below after after' among rest) hangs =
      (hangs.0, hangs.1, HangsBelow-hung type segment above after among after' rest hangs.2)

-- the families below two forests are those below the first, and then those below the second
pub families_below-joined : (first second : Forest) → families_below (joined first second) ≡ families_below first ++ families_below second
families_below-joined no_trees second = refl
families_below-joined (tree root below after) second =
    ap (λ (fs : List Family). record { above = Some root.type; children = roots below } ∷ fs)
    (ap (λ fs. families_below below ++ fs) (families_below-joined after second)
    ∙ sym (append_assoc (families_below below) (families_below after) (families_below second)))

-- a family with one segment more
abbrev pub more_in : Option ℕ → List Segment → Segment → Family
more_in above among segment = record { above = above; children = among ++ segment ∷ [] }

-- the family of a segment with none below it
abbrev pub none_in : Segment → Family
none_in segment = record { above = Some segment.type; children = [] }

module _ (P : Family → Type 0) (type : ℕ) (segment : Segment) where
  with_roots : (above : Option ℕ) (xs ys : List Segment) → ys ≡ xs → P (record { above = above; children = xs }) → P (record { above = above; children = ys })
  with_roots above xs ys same = subst (λ segments. P (record { above = above; children = segments })) (sym same)

  -- what holds of all families holds of all with a segment more, if it does of the two that change
  pub HangsBelow-families : (forest : Forest) (among : List Segment) (grown : Forest) → P (more_in (Some type) among segment) → P (none_in segment) →
      HangsBelow type segment forest among grown → AllByRecursion P (families_below forest) → AllByRecursion P (families_below grown)
  HangsBelow-families _ _ _ more none (here root below same) all =
      let parts = AllByRecursion-parts P (families_below below) [] all.1 in
      let own : P (more_in (Some root.type) (roots below) segment) = subst (λ s. P (more_in (Some s) (roots below) segment))
      (sym (eqb-true root.type type same)) more in (
        with_roots (Some root.type) (roots below ++ segment ∷ []) (roots (joined below (leaf segment))) (roots-joined below (leaf segment)) own,
        AllByRecursion-append P (families_below (joined below (leaf segment))) []
            (subst (AllByRecursion P) (sym (families_below-joined below (leaf segment)))
            (AllByRecursion-append P (families_below below) (none_in segment ∷ []) parts.0 (none, tt))) tt,
      )
  HangsBelow-families _ _ _ more none (deeper root below below' among other rest) all =
      let parts = AllByRecursion-parts P (families_below below) [] all.1 in (
        with_roots (Some root.type) (roots below) (roots below') (HangsBelow-roots type segment below among below' rest) all.0,
        AllByRecursion-append P (families_below below') [] (HangsBelow-families below among below' more none rest parts.0) tt,
      )
  HangsBelow-families _ _ _ more none (later root below after after' among rest) all =
      let parts = AllByRecursion-parts P (families_below below) (families_below after) all.1 in
      (all.0, AllByRecursion-append P (families_below below) (families_below after') parts.0 (HangsBelow-families after among after' more none rest parts.1))

  -- and back, if the family that loses the segment keeps what holds of it
  pub HangsBelow-fewer : (forest : Forest) (among : List Segment) (grown : Forest) →
      (P (more_in (Some type) among segment) → P (record { above = Some type; children = among })) → HangsBelow type segment forest among grown →
      AllByRecursion P (families_below grown) → AllByRecursion P (families_below forest) × P (more_in (Some type) among segment)
  HangsBelow-fewer _ _ _ less (here root below same) all =
      let is = eqb-true root.type type same in
      let own = subst (λ s. P (more_in (Some s) (roots below) segment)) is
      (with_roots (Some root.type) (roots (joined below (leaf segment))) (roots below ++ segment ∷ []) (sym (roots-joined below (leaf segment))) all.0) in
      let parts = AllByRecursion-parts P (families_below (joined below (leaf segment))) [] all.1 in
      let kept = AllByRecursion-parts P (families_below below) (none_in segment ∷ [])
      (subst (AllByRecursion P) (families_below-joined below (leaf segment)) parts.0) in (
        (subst (λ s. P (record { above = Some s; children = roots below })) (sym is) (less own), AllByRecursion-append P (families_below below) [] kept.0 tt),
        own,
      )
  HangsBelow-fewer _ _ _ less (deeper root below below' among other rest) all =
      let parts = AllByRecursion-parts P (families_below below') [] all.1 in
      let kept = HangsBelow-fewer below among below' less rest parts.0 in (
        (
          with_roots (Some root.type) (roots below') (roots below) (sym (HangsBelow-roots type segment below among below' rest)) all.0,
          AllByRecursion-append P
              (families_below below) [] kept.0 tt,
        ),
        kept.1,
      )
  HangsBelow-fewer _ _ _ less (later root below after after' among rest) all =
      let parts = AllByRecursion-parts P (families_below below) (families_below after') all.1 in
      let kept = HangsBelow-fewer after among after' less rest parts.1 in
      ((all.0, AllByRecursion-append P (families_below below) (families_below after) parts.0 kept.0), kept.1)

  -- what holds of all families holds of the one that a segment joins
  pub HangsBelow-family : (forest : Forest) (among : List Segment) (grown : Forest) → HangsBelow type segment forest among grown →
      AllByRecursion P (families_below forest) → P (record { above = Some type; children = among })
  HangsBelow-family _ _ _ (here root below same) all = subst (λ s. P (record { above = Some s; children = roots below })) (eqb-true root.type type same) all.0
  HangsBelow-family _ _ _ (deeper root below below' among other rest) all =
      HangsBelow-family below among below' rest (AllByRecursion-parts P (families_below below) [] all.1).0
  HangsBelow-family _ _ _ (later root below after after' among rest) all =
      HangsBelow-family after among after' rest (AllByRecursion-parts P (families_below below) (families_below after) all.1).1
