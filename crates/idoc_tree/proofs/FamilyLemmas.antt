-- Families with a segment more, and what the IDoc type asks of them.
use Rattle.std.proofs.lemmas.Bool.{eq-eqb, eqb-true, le-ltb, leb-false, lt-leb, ltb-false, or_parts}
use Rattle.std.specs.Prelude.{slice_get, nat_lt, nat_le, nat_eq}
use Rattle.std.specs.List.{AllByRecursion, IsDistinct}
use Rattle.std.proofs.Common.{◌≡◌, ℕ, suc, ◌<◌, ◌≤◌, ◌==◌, ◌||◌, Bool, true, false, cond, Option, Some, None, List, [], ◌∷◌, ◌++◌, map, refl, ap, sym, subst}
use Rattle.std.proofs.Common.{◌∙◌, arith}
use Rattle.std.proofs.lemmas.Map.Keys.{IsDistinct-head, IsDistinct-tail}
use Rattle.std.proofs.lemmas.Option.{same_Some}
use Rattle.ale_base.proofs.SnocLemmas.{AllByRecursion-snoc, AllByRecursion-front}
use Rattle.segment_defs.specs.declared.idoc_type.TypePlace.{TypePlace}
use Rattle.segment_defs.specs.IdocType.{place_in, entry_of}
use Rattle.idoc_tree.specs.Forest.{Segment, Forest, no_trees, tree, roots, map_nodes, count_of}
use Rattle.idoc_tree.specs.Valid.{Family, families_below, IsOrdered, Fits, HasEnough, IsValid}
use Rattle.idoc_tree.specs.Siblings.{has_later}
use Rattle.idoc_tree.proofs.ForestLemmas.{count_of-append}
use Rattle.ale_base.proofs.ListLemmas.{AllByRecursion-append, AllByRecursion-parts, AllByRecursion-weaker, AllByRecursion-both, AllByRecursion-at}
use Rattle.ale_base.proofs.ListLemmas.{AllByRecursion-from_map}
use Rattle.idoc_tree.proofs.HangingLemmas.{more_in}

-- an entry is that of its own segment type, since no type has two
pub entries-own : (entries : List TypePlace) → IsDistinct nat_eq (map (λ entry. entry.segment) entries) →
    AllByRecursion (λ entry. entry_of entries entry.segment ≡ Some entry) entries
entries-own [] apart = tt
entries-own (first ∷ others) apart = (
  ap (λ b. slice_get (first ∷ others) (cond b 0 (suc (place_in others first.segment)))) (eq-eqb first.segment first.segment refl),
  AllByRecursion-weaker _ _ others (λ entry both. ap (λ b. slice_get (first ∷ others) (cond b 0 (suc (place_in others entry.segment)))) both.1 ∙ both.0)
      (AllByRecursion-both (λ entry. entry_of others entry.segment ≡ Some entry) (λ entry. first.segment == entry.segment ≡ false) others
      (entries-own others (IsDistinct-tail nat_eq first.segment (map (λ entry. entry.segment) others) apart))
      (AllByRecursion-from_map (λ other. first.segment == other ≡ false) (λ entry. entry.segment) others
      (IsDistinct-head nat_eq first.segment (map (λ entry. entry.segment) others) apart))),
)

-- the entry of a segment type is of that type
entry_at_segment : (first : TypePlace) (others : List TypePlace) (type : ℕ) (entry : TypePlace) (b : Bool) → first.segment == type ≡ b →
    (entry_of others type ≡ Some entry → entry.segment ≡ type) → slice_get (first ∷ others) (cond b 0 (suc (place_in others type))) ≡ Some entry →
    entry.segment ≡ type
entry_at_segment first others type entry true same rest found = ap (λ (e : TypePlace). e.segment) (sym (same_Some first entry found))
    ∙ eqb-true first.segment type same
entry_at_segment first others type entry false same rest found = rest found

-- the entry of a segment type is of that type
pub entry-segment : (entries : List TypePlace) (type : ℕ) (entry : TypePlace) → entry_of entries type ≡ Some entry → entry.segment ≡ type
entry-segment [] type entry found = cc
entry-segment (first ∷ others) type entry found =
    entry_at_segment first others type entry (first.segment == type) refl (entry-segment others type entry) found

module _ (entries : List TypePlace) where
  -- none is of a later type
  abbrev pub NoneLater : ℕ → List Segment → Type 0
  NoneLater place segments = AllByRecursion (λ other. place_in entries other.type ≤ place) segments

  -- where the test says no, no segment is of a later type
  pub none_later : (place : ℕ) (segments : List Segment) → has_later entries place segments ≡ false → NoneLater place segments
  none_later place [] test = tt
  none_later place (segment ∷ segments) test =
      let parts = or_parts (nat_lt place (place_in entries segment.type)) (has_later entries place segments) test in
      (ltb-false place (place_in entries segment.type) parts.0, none_later place segments parts.1)

  -- and where none is, the test says no
  pub has_no_later : (place : ℕ) (segments : List Segment) → NoneLater place segments → has_later entries place segments ≡ false
  has_no_later place [] all = refl
  has_no_later place (segment ∷ segments) all =
      ap (λ b. b || has_later entries place segments) (le-ltb place (place_in entries segment.type) all.0) ∙ has_no_later place segments all.1

  -- segments in order stay so with one more behind them that comes in time
  pub IsOrdered-snoc : (segments : List Segment) (segment : Segment) → IsOrdered entries segments → NoneLater (place_in entries segment.type) segments →
      IsOrdered entries (segments ++ segment ∷ [])
  IsOrdered-snoc [] segment ordered all = (tt, tt)
  IsOrdered-snoc (first ∷ segments) segment ordered all = (
    AllByRecursion-snoc (λ other. place_in entries first.type ≤ place_in entries other.type) segments segment ordered.0 all.0,
    IsOrdered-snoc segments
        segment ordered.1 all.1,
  )

  -- segments in order without the last one are so, and the last one came in time
  pub IsOrdered-front : (segments : List Segment) (segment : Segment) → IsOrdered entries (segments ++ segment ∷ []) →
      IsOrdered entries segments × NoneLater (place_in entries segment.type) segments
  IsOrdered-front [] segment ordered = (tt, tt)
  IsOrdered-front (first ∷ segments) segment ordered =
      let parts = AllByRecursion-front (λ other. place_in entries first.type ≤ place_in entries other.type) segments segment ordered.0 in
      let rest = IsOrdered-front segments segment ordered.1 in
      ((parts.0, rest.0), (parts.1, rest.1))

  count_more : (type max : ℕ) (segments : List Segment) (segment : Segment) (b : Bool) → segment.type == type ≡ b → count_of type segments ≤ max →
      (b ≡ true → count_of type segments < max) → count_of type (segments ++ segment ∷ []) ≤ max
  count_more type max segments segment true same few room =
      let one : count_of type (segment ∷ []) ≡ 1 = ap (λ b. cond b 1 0) same in
      omega (arith, count_of-append type segments (segment ∷ []), room refl)
  count_more type max segments segment false same few room =
      let none : count_of type (segment ∷ []) ≡ 0 = ap (λ b. cond b 1 0) same in
      omega (arith, count_of-append type segments (segment ∷ []))

  -- a family with a segment more that comes in time and for which there is room
  pub Fits-more : (above : Option ℕ) (among : List Segment) (segment : Segment) (entry : TypePlace) → IsDistinct nat_eq (map (λ entry. entry.segment) entries) →
      entry_of entries segment.type ≡ Some entry → Fits entries (record { above = above; children = among }) →
      has_later entries (place_in entries segment.type) among ≡ false → nat_le entry.max (count_of segment.type among) ≡ false →
      Fits entries (more_in above among segment)
  Fits-more above among segment entry apart entry_at fits in_time room =
      record {
        ordered = IsOrdered-snoc among segment fits.ordered (none_later (place_in entries segment.type) among in_time);
        at_most = AllByRecursion-weaker _ _ entries
            (λ other both. count_more other.segment other.max among segment (segment.type == other.segment) refl both.0 (λ same.
            let is = eqb-true segment.type other.segment same in
            let own : entry ≡ other = same_Some entry other (sym entry_at ∙ ap (entry_of entries) is ∙ both.1) in
            subst (λ (e : TypePlace). count_of other.segment among < e.max) own
            (subst (λ s. count_of s among < entry.max) is (leb-false entry.max (count_of segment.type among) room))))
            (AllByRecursion-both (λ other. count_of other.segment among ≤ other.max) (λ other. entry_of entries other.segment ≡ Some other) entries fits.at_most
            (entries-own entries apart));
      }

  -- and back
  pub Fits-fewer : (above : Option ℕ) (among : List Segment) (segment : Segment) → Fits entries (more_in above among segment) →
      Fits entries (record { above = above; children = among })
  Fits-fewer above among segment fits =
      record {
        ordered = (IsOrdered-front among segment fits.ordered).0;
        at_most = AllByRecursion-weaker _ _ entries (λ other most. omega (arith, count_of-append other.segment among (segment ∷ []))) fits.at_most;
      }

  -- the last segment of a family that fits came in time
  pub Fits-in_time : (above : Option ℕ) (among : List Segment) (segment : Segment) → Fits entries (more_in above among segment) →
      has_later entries (place_in entries segment.type) among ≡ false
  Fits-in_time above among segment fits = has_no_later (place_in entries segment.type) among (IsOrdered-front among segment fits.ordered).1

  -- the last segment of a family that fits found room
  pub Fits-room : (above : Option ℕ) (among : List Segment) (segment : Segment) (entry : TypePlace) → entry_of entries segment.type ≡ Some entry →
      Fits entries (more_in above among segment) → nat_le entry.max (count_of segment.type among) ≡ false
  Fits-room above among segment entry entry_at fits =
      let most = AllByRecursion-at (λ other. count_of other.segment (among ++ segment ∷ []) ≤ other.max) entries
      (place_in entries segment.type) entry fits.at_most entry_at in
      let own = subst (λ s. count_of s (among ++ segment ∷ []) ≤ entry.max) (entry-segment entries segment.type entry entry_at) most in
      let one : count_of segment.type (segment ∷ []) ≡ 1 = ap (λ b. cond b 1 0) (eq-eqb segment.type segment.type refl) in
      lt-leb entry.max (count_of segment.type among) (omega (arith, count_of-append segment.type among (segment ∷ [])))

-- changes that keep each segment's type
module _ (entries : List TypePlace) (change : Segment → Segment) (keeps : (segment : Segment) → (change segment).type ≡ segment.type) where
  count_of-map : (type : ℕ) (segments : List Segment) → count_of type (map change segments) ≡ count_of type segments
  count_of-map type [] = refl
  count_of-map type (segment ∷ segments) =
      ap (λ s. cond (s == type) (suc (count_of type (map change segments))) (count_of type (map change segments))) (keeps segment)
      ∙ ap (λ n. cond (segment.type == type) (suc n) n) (count_of-map type segments)

  later-map : (place : ℕ) (segments : List Segment) → AllByRecursion (λ other. place ≤ place_in entries other.type) segments →
      AllByRecursion (λ other. place ≤ place_in entries other.type) (map change segments)
  later-map place [] all = tt
  later-map place (segment ∷ segments) all = (subst (λ s. place ≤ place_in entries s) (sym (keeps segment)) all.0, later-map place segments all.1)

  IsOrdered-map : (segments : List Segment) → IsOrdered entries segments → IsOrdered entries (map change segments)
  IsOrdered-map [] ordered = tt
  IsOrdered-map (segment ∷ segments) ordered = (
    subst (λ s. AllByRecursion (λ other. place_in entries s ≤ place_in entries other.type) (map change segments)) (sym (keeps segment))
        (later-map (place_in entries segment.type) segments ordered.0),
    IsOrdered-map segments ordered.1,
  )

  fits_map : (family : Family) → Fits entries family → Fits entries (record { above = family.above; children = map change family.children })
  fits_map family fits =
      record {
        ordered = IsOrdered-map family.children fits.ordered;
        at_most = AllByRecursion-weaker _ _ entries (λ entry most. subst (λ n. n ≤ entry.max) (sym (count_of-map entry.segment family.children)) most)
            fits.at_most;
      }

  enough_map : (family : Family) → HasEnough entries family → HasEnough entries (record { above = family.above; children = map change family.children })
  enough_map family enough =
      AllByRecursion-weaker _ _ entries (λ entry suffices mandatory own.
      subst (λ n. entry.min ≤ n) (sym (count_of-map entry.segment family.children)) (suffices mandatory own)) enough

  roots-map : (forest : Forest) → roots (map_nodes change forest) ≡ map change (roots forest)
  roots-map no_trees = refl
  roots-map (tree root below after) = ap (λ segments. change root ∷ segments) (roots-map after)

  module _ (P : Family → Type 0) (follows : (family : Family) → P family → P (record { above = family.above; children = map change family.children })) where
    mapped : (above : Option ℕ) (forest : Forest) → P (record { above = above; children = roots forest }) →
        P (record { above = above; children = roots (map_nodes change forest) })
    mapped above forest own = subst (λ segments. P (record { above = above; children = segments })) (sym (roots-map forest))
        (follows (record { above = above; children = roots forest }) own)

    families_map : (forest : Forest) → AllByRecursion P (families_below forest) → AllByRecursion P (families_below (map_nodes change forest))
    families_map no_trees all = tt
    families_map (tree root below after) all =
        let parts = AllByRecursion-parts P (families_below below) (families_below after) all.1 in (
          subst (λ s. P (record { above = Some s; children = roots (map_nodes change below) })) (sym (keeps root)) (mapped (Some root.type) below all.0),
          AllByRecursion-append P (families_below (map_nodes change below)) (families_below (map_nodes change after)) (families_map below parts.0)
              (families_map after parts.1),
        )

  -- leave a valid forest valid
  pub IsValid-map_nodes : (forest : Forest) → IsValid entries forest → IsValid entries (map_nodes change forest)
  IsValid-map_nodes forest valid =
      record {
        fits = (mapped (Fits entries) fits_map None forest valid.fits.0, families_map (Fits entries) fits_map forest valid.fits.1);
        enough = (mapped (HasEnough entries) enough_map None forest valid.enough.0, families_map (HasEnough entries) enough_map forest valid.enough.1);
      }
