-- Segments that change and keep their types: the forest hangs together as before, and is valid if it was.
use Rattle.std.specs.List.{AllByRecursion}
use Rattle.std.proofs.Common.{◌≡◌, ℕ, suc, ◌≤◌, ◌==◌, false, cond, Option, Some, None, List, [], ◌∷◌, map, refl, sym, ap, subst, ◌∙◌, arith}
use Rattle.ale_base.proofs.ListLemmas.{AllByRecursion-weaker, AllByRecursion-append, AllByRecursion-parts, AllByRecursion-map}
use Rattle.segment_defs.specs.declared.idoc_type.TypePlace.{TypePlace}
use Rattle.segment_defs.specs.IdocType.{place_in, parent_of}
use Rattle.idoc_tree.specs.Forest.{Segment, Forest, no_trees, tree, roots, count_of, map_nodes, without}
use Rattle.idoc_tree.specs.Spells.{Hangs}
use Rattle.idoc_tree.specs.Valid.{Family, families_below, families, IsOrdered, Fits, HasEnough, IsValid}

-- a forest of which none goes is whole
pub without-none : (forest : Forest) → without (λ segment. false) forest ≡ forest
without-none no_trees = refl
without-none (tree root below after) = ap (λ b. tree root b (without (λ segment. false) after)) (without-none below) ∙ ap (tree root below) (without-none after)

-- a forest of which none changes is the same
pub map_nodes-same : (forest : Forest) → map_nodes (λ segment. segment) forest ≡ forest
map_nodes-same no_trees = refl
map_nodes-same (tree root below after) = ap (λ b. tree root b (map_nodes (λ segment. segment) after)) (map_nodes-same below)
    ∙ ap (tree root below) (map_nodes-same after)

module _ (change : Segment → Segment) (keeps : (segment : Segment) → (change segment).type ≡ segment.type) where
  -- it hangs together as before
  pub Hangs-map_nodes : (entries : List TypePlace) (above : Option ℕ) (forest : Forest) → Hangs entries above forest →
      Hangs entries above (map_nodes change forest)
  Hangs-map_nodes entries above no_trees hangs = tt
  Hangs-map_nodes entries above (tree root below after) hangs = (
    ap (parent_of entries) (keeps root) ∙ hangs.0,
    subst (λ t. Hangs entries (Some t) (map_nodes change below)) (sym (keeps root)) (Hangs-map_nodes entries (Some root.type) below hangs.1),
    Hangs-map_nodes entries above after hangs.2,
  )

  roots-map_nodes : (forest : Forest) → roots (map_nodes change forest) ≡ map change (roots forest)
  roots-map_nodes no_trees = refl
  roots-map_nodes (tree root below after) = ap (λ rs. change root ∷ rs) (roots-map_nodes after)

  count_of-map : (type : ℕ) (segments : List Segment) → count_of type (map change segments) ≡ count_of type segments
  count_of-map type [] = refl
  count_of-map type (segment ∷ segments) =
      ap (λ t. cond (t == type) (suc (count_of type (map change segments))) (count_of type (map change segments))) (keeps segment)
      ∙ ap (λ n. cond (segment.type == type) (suc n) n) (count_of-map type segments)

  IsOrdered-map : (entries : List TypePlace) (segments : List Segment) → IsOrdered entries segments → IsOrdered entries (map change segments)
  IsOrdered-map entries [] ordered = tt
  IsOrdered-map entries (segment ∷ segments) ordered = (
    AllByRecursion-map (λ other. place_in entries (change segment).type ≤ place_in entries other.type) change segments
        (AllByRecursion-weaker _ _ segments (λ other less. omega (arith, less, ap (place_in entries) (keeps segment), ap (place_in entries) (keeps other)))
        ordered.0),
    IsOrdered-map entries segments ordered.1,
  )

  Fits-map : (entries : List TypePlace) (above : Option ℕ) (children : List Segment) → Fits entries (record { above = above; children = children })
      → Fits entries (record { above = above; children = map change children })
  Fits-map entries above children fits = record {
    ordered = IsOrdered-map entries children fits.ordered;
    at_most = AllByRecursion-weaker _ _ entries (λ entry most. omega (arith, most, count_of-map entry.segment children)) fits.at_most;
  }

  HasEnough-map : (entries : List TypePlace) (above : Option ℕ) (children : List Segment) → HasEnough entries (record { above = above; children = children })
      → HasEnough entries (record { above = above; children = map change children })
  HasEnough-map entries above children enough =
      AllByRecursion-weaker _ _ entries (λ entry suffices. λ mandatory own. let least : entry.min ≤ count_of entry.segment children = suffices mandatory own in
      omega (arith, least, count_of-map entry.segment children)) enough

  module _ (P : Family → Type 0) (mapped : (above : Option ℕ) (children : List Segment) → P (record { above = above; children = children }) →
      P (record { above = above; children = map change children })) where
    family-map : (above : Option ℕ) (forest : Forest) → P (record { above = above; children = roots forest }) →
        P (record { above = above; children = roots (map_nodes change forest) })
    family-map above forest is = subst (λ rs. P (record { above = above; children = rs })) (sym (roots-map_nodes forest)) (mapped above (roots forest) is)

    families_below-map : (forest : Forest) → AllByRecursion P (families_below forest) → AllByRecursion P (families_below (map_nodes change forest))
    families_below-map no_trees all = tt
    families_below-map (tree root below after) all =
        let parts = AllByRecursion-parts P (families_below below) (families_below after) all.1 in (
          subst (λ t. P (record { above = Some t; children = roots (map_nodes change below) })) (sym (keeps root)) (family-map (Some root.type) below all.0),
          AllByRecursion-append P (families_below (map_nodes change below)) (families_below (map_nodes change after)) (families_below-map below parts.0)
              (families_below-map after parts.1),
        )

    families-map : (above : Option ℕ) (forest : Forest) → AllByRecursion P (families above forest) → AllByRecursion P (families above (map_nodes change forest))
    families-map above forest all = (family-map above forest all.0, families_below-map forest all.1)

  -- it is valid if it was
  pub IsValid-map_nodes : (entries : List TypePlace) (forest : Forest) → IsValid entries forest → IsValid entries (map_nodes change forest)
  IsValid-map_nodes entries forest valid = record {
    fits = families-map (Fits entries) (Fits-map entries) None forest valid.fits;
    enough = families-map (HasEnough entries) (HasEnough-map entries) None forest valid.enough;
  }
