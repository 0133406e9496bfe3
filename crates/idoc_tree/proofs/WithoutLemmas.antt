-- Where the segments of some types go, each with all below it.
use Rattle.std.specs.List.{AllByRecursion}
use Rattle.std.specs.Prelude.{not}
use Rattle.std.proofs.lemmas.Bool.{eqb-true}
use Rattle.std.proofs.Common.{◌≡◌, ℕ, suc, ◌≤◌, ◌==◌, Bool, true, false, cond, Option, Some, None, List, refl, ap, sym, subst, ◌∙◌, arith}
use Rattle.segment_defs.specs.declared.idoc_type.TypePlace.{TypePlace}
use Rattle.segment_defs.specs.IdocType.{parent_of, type_above}
use Rattle.ale_base.proofs.ListLemmas.{AllByRecursion-weaker, AllByRecursion-append, AllByRecursion-both}
use Rattle.idoc_tree.specs.Forest.{Segment, Forest, no_trees, tree, roots, count_of, without}
use Rattle.idoc_tree.specs.Spells.{Hangs}
use Rattle.idoc_tree.specs.Valid.{families_below, families, Fits, HasEnough, Suffices, IsValid}
use Rattle.idoc_tree.specs.Parts.{SegmentSet, none, part, with_root}
use Rattle.idoc_tree.proofs.PartLemmas.{fits-part, Hangs-part, EnoughBelow, EnoughBelow-parts}

-- the segments that do not go, nor hang below one that goes
abbrev pub staying : (Segment → Bool) → Forest → SegmentSet
staying goes no_trees = none
staying goes (tree root under behind) = with_root (not (goes root)) (staying goes under) (staying goes behind)

-- what is left is the part of them
pub without-part : (goes : Segment → Bool) (forest : Forest) → without goes forest ≡ part forest (staying goes forest)
without-part goes no_trees = refl
without-part goes (tree root under behind) = left (goes root) (without-part goes under) (without-part goes behind)
  where
    left : (b : Bool) → without goes under ≡ part under (staying goes under) → without goes behind ≡ part behind (staying goes behind) →
        cond b (without goes behind) (tree root (without goes under) (without goes behind))
        ≡ part (tree root under behind) (with_root (not b) (staying goes under) (staying goes behind))
    left true below after = after
    left false below after = ap (λ (f : Forest). tree root f (without goes behind)) below ∙ ap (tree root (part under (staying goes under))) after

-- it fits, if the whole did
pub without-fits : (entries : List TypePlace) (goes : Segment → Bool) (forest : Forest) → AllByRecursion (Fits entries) (families None forest) →
    AllByRecursion (Fits entries) (families None (without goes forest))
without-fits entries goes forest all =
    subst (λ (f : Forest). AllByRecursion (Fits entries) (families None f)) (sym (without-part goes forest))
    (fits-part entries forest (staying goes forest) all)

-- it hangs together, if the whole did
pub without-hangs : (entries : List TypePlace) (above : Option ℕ) (goes : Segment → Bool) (forest : Forest) → Hangs entries above forest →
    Hangs entries above (without goes forest)
without-hangs entries above goes forest all =
    subst (Hangs entries above) (sym (without-part goes forest)) (Hangs-part entries above forest (staying goes forest) all)

more_left : (type : ℕ) (root : Segment) (left before after : Forest) (b own : Bool) → root.type == type ≡ own → (own ≡ true → b ≡ false) →
    count_of type (roots before) ≤ count_of type (roots after) → cond own (suc (count_of type (roots before))) (count_of type (roots before)) ≤ count_of type
    (roots (cond b after (tree root left after)))
more_left type root left before after true true is stays less = let never = stays refl in cc
more_left type root left before after true false is stays less = less
more_left type root left before after false true is stays less = rw is (omega arith)
more_left type root left before after false false is stays less = rw is less

-- of a type of which none goes there are as many roots as before
pub count_of-without : (type : ℕ) (goes : Segment → Bool) (forest : Forest) → ((segment : Segment) → segment.type ≡ type → goes segment ≡ false) →
    count_of type (roots forest) ≤ count_of type (roots (without goes forest))
count_of-without type goes no_trees stays = omega arith
count_of-without type goes (tree root under behind) stays =
    more_left type root (without goes under) behind (without goes behind) (goes root) (root.type == type) refl
    (λ same. stays root (eqb-true root.type type same)) (count_of-without type goes behind stays)

-- Segments go by their types. Those types below which segments may stay are told by `stays`: the document, and each type
-- that does not go below one that stays. No mandatory type goes below one that stays; it may go where the type above it
-- goes, or one above that.
pub record StaysWhole (entries : List TypePlace) (goes : ℕ → Bool) (stays : Option ℕ → Bool) : Type 0 where
  pub top : stays None ≡ true
  pub below : (type : ℕ) (above : Option ℕ) → parent_of entries type ≡ Some above → stays above ≡ true → goes type ≡ false → stays (Some type) ≡ true
  pub mandatory : AllByRecursion (λ entry. entry.mandatory ≡ true → stays (type_above entries entry) ≡ true → goes entry.segment ≡ false) entries

module _ (entries : List TypePlace) (goes : ℕ → Bool) (stays : Option ℕ → Bool) (whole : StaysWhole entries goes stays) where
  abbrev leaves_type : Segment → Bool
  leaves_type segment = goes segment.type

  -- the family of a type that stays has enough left
  pub without-HasEnough : (above : Option ℕ) (forest : Forest) → stays above ≡ true → HasEnough entries (record { above = above; children = roots forest }) →
      HasEnough entries (record { above = above; children = roots (without leaves_type forest) })
  without-HasEnough above forest here enough =
      AllByRecursion-weaker _ _ entries (λ entry both. λ mandatory own.
      let least : entry.min ≤ count_of entry.segment (roots forest) = both.1 mandatory own in
      let left = count_of-without entry.segment leaves_type forest (λ segment is. ap goes is ∙ both.0 mandatory (ap stays own ∙ here)) in
      omega (arith, least, left))
      (AllByRecursion-both _ (Suffices entries (record { above = above; children = roots forest })) entries whole.mandatory enough)

  below-tree : (root : Segment) (b : Bool) (below after : Forest) →
      (b ≡ false → HasEnough entries (record { above = Some root.type; children = roots below }) × EnoughBelow entries below) → EnoughBelow entries after →
      EnoughBelow entries (cond b after (tree root below after))
  below-tree root true below after under behind = behind
  below-tree root false below after under behind =
      let parts = under refl in (parts.0, AllByRecursion-append (HasEnough entries) (families_below below) (families_below after) parts.1 behind)

  -- and so have all families below it
  pub without-enough : (above : Option ℕ) (forest : Forest) → stays above ≡ true → Hangs entries above forest → EnoughBelow entries forest →
      EnoughBelow entries (without leaves_type forest)
  without-enough above no_trees here hangs all = tt
  without-enough above (tree root under behind) here hangs all =
      let parts = EnoughBelow-parts entries root under behind all in
      below-tree root (goes root.type) (without leaves_type under) (without leaves_type behind)
      (λ is. let own = whole.below root.type above hangs.0 here is in
      (without-HasEnough (Some root.type) under own all.0, without-enough (Some root.type) under own hangs.1 parts.0))
      (without-enough above behind here hangs.2 parts.1)

  -- so a valid forest stays valid
  pub without-valid : (forest : Forest) → Hangs entries None forest → IsValid entries forest → IsValid entries (without leaves_type forest)
  without-valid forest hangs valid = record {
    fits = without-fits entries leaves_type forest valid.fits;
    enough = (without-HasEnough None forest whole.top valid.enough.0, without-enough None forest whole.top hangs valid.enough.1);
  }
