-- The places of segments: how many there are, and that they fit their data records.
use Rattle.std.specs.List.{AllByRecursion}
use Rattle.std.proofs.Common.{◌≡◌, ℕ, zero, suc, ◌+◌, ◌≤◌, ◌<◌, List, [], ◌∷◌, ◌++◌, length, drop, refl, ap, sym, ◌∙◌, append_assoc, arith}
use Rattle.std.proofs.lemmas.List.{append-nil, length-append}
use Rattle.ale_base.proofs.ListLemmas.{AllByRecursion-append}
use Rattle.idoc_record.specs.declared.place.Place.{Place}
use Rattle.idoc_record.specs.Data.{DataRecord}
use Rattle.idoc_tree.specs.Forest.{Forest, Segment, no_trees, tree, preorder}
use Rattle.idoc_tree.proofs.NodeLemmas.{drop-past}
use Rattle.listings.specs.Places.{places_in, root_places}
use Rattle.listings.specs.Places.{HasDigits}
use Rattle.listings.specs.steps.Levels.{LevelsWithin}

-- each segment has a place
pub places-each : (number above level : ℕ) (forest : Forest) → length (places_in number above level forest) ≡ length (preorder forest)
places-each number above level no_trees = refl
places-each number above level (tree root below after) =
    omega (
      arith,
      length-append (places_in (suc number) number (suc level) below) (places_in (suc number + length (preorder below)) above level after),
      length-append (preorder below) (preorder after),
      places-each (suc number) number (suc level) below,
      places-each (suc number + length (preorder below)) above level after,
    )

-- and it fits
pub places-digits : (number above level : ℕ) (forest : Forest) → number + length (preorder forest) ≤ 1000000 → above < 1000000 → LevelsWithin level forest
    → AllByRecursion HasDigits (places_in number above level forest)
places-digits number above level no_trees few under levels = tt
places-digits number above level (tree root below after) few under levels =
    let sum = length-append (preorder below) (preorder after) in (
      (omega arith, under, omega (arith, levels.0)),
      AllByRecursion-append HasDigits (places_in (suc number) number (suc level) below) (places_in (suc number + length (preorder below)) above level after)
          (places-digits (suc number) number (suc level) below (omega arith) (omega arith) levels.1)
          (places-digits (suc number + length (preorder below)) above level after (omega arith) under levels.2),
    )

-- so it is of data records at the root level
pub root-each : (number : ℕ) (lines : List DataRecord) → length (root_places number lines) ≡ length lines
root-each number [] = refl
root-each number (line ∷ lines) = ap suc (root-each (suc number) lines)

pub root-digits : (number : ℕ) (lines : List DataRecord) → number + length lines ≤ 1000000 → AllByRecursion HasDigits (root_places number lines)
root-digits number [] few = tt
root-digits number (line ∷ lines) few = ((omega arith, omega arith, omega arith), root-digits (suc number) lines (omega arith))

-- the places of a tree and those after it, where that of its root and those below it are there
module _ (before one two : List Place) (number above level next : ℕ) (root : Segment) (below after : Forest)
    (counted : number ≡ suc (length before)) (deeper : next ≡ suc level)
    (first : one ≡ before ++ record { segnum = number; parent = above; level = level } ∷ [])
    (under : two ≡ one ++ places_in (suc (length one)) number next below) where
  first-length : length one ≡ suc (length before)
  first-length = ap length first ∙ length-append before (record { segnum = number; parent = above; level = level } ∷ []) ∙ omega arith

  under-length : length two ≡ suc (length before) + length (preorder below)
  under-length =
      ap length under ∙ length-append one (places_in (suc (length one)) number next below)
      ∙ omega (arith, first-length, places-each (suc (length one)) number next below)

  pub tree-length : length two + length (preorder after) ≡ length before + length (preorder (tree root below after))
  tree-length = omega (arith, under-length, length-append (preorder below) (preorder after))

  pub tree-places : two ++ places_in (suc (length two)) above level after ≡ before ++ places_in (suc (length before)) above level (tree root below after)
  tree-places =
      let place : ℕ → Place = λ n. record { segnum = n; parent = above; level = level } in
      let mine = suc (length before) in
      let deep : places_in (suc (length one)) number next below ≡ places_in (suc mine) mine (suc level) below =
      ap (λ n. places_in (suc n) number next below) first-length
      ∙ ap (λ n. places_in (suc mine) n next below) counted ∙ ap (λ n. places_in (suc mine) mine n below) deeper in
      let rest : places_in (suc (length two)) above level after ≡ places_in (suc mine + length (preorder below)) above level after =
      ap (λ n. places_in n above level after) (omega (arith, under-length)) in
      let whole : two ≡ (before ++ place mine ∷ []) ++ places_in (suc mine) mine (suc level) below =
      under ∙ ap (λ (ps : List Place). ps ++ places_in (suc (length one)) number next below) (first ∙ ap (λ n. before ++ place n ∷ []) counted)
      ∙ ap (λ (ps : List Place). (before ++ place mine ∷ []) ++ ps) deep in
      ap (λ (ps : List Place). ps ++ places_in (suc (length two)) above level after) whole
      ∙ ap (λ (ps : List Place). (before ++ place mine ∷ []) ++ places_in (suc mine) mine (suc level) below ++ ps) rest
      ∙ append_assoc (before ++ place mine ∷ []) (places_in (suc mine) mine (suc level) below)
      (places_in (suc mine + length (preorder below)) above level after)
      ∙ append_assoc before (place mine ∷ []) (places_in (suc mine) mine (suc level) below ++ places_in (suc mine + length (preorder below)) above level after)

-- the places of data records at the root level, from one on
root-drop : (number at : ℕ) (lines : List DataRecord) → at < length lines
    → root_places number (drop at lines) ≡ record { segnum = number; parent = 0; level = 1 } ∷ root_places (suc number) (drop (suc at) lines)
root-drop number at [] within = absurd (omega arith)
root-drop number zero (line ∷ lines) within = refl
root-drop number (suc at) (line ∷ lines) within = root-drop number at lines (omega arith)

pub root-step : (places : List Place) (at number : ℕ) (lines : List DataRecord) → at < length lines → number ≡ suc at
    → places ++ root_places (suc at) (drop at lines) ≡ root_places 1 lines
    → (places ++ record { segnum = number; parent = 0; level = 1 } ∷ []) ++ root_places (suc number) (drop number lines) ≡ root_places 1 lines
root-step places at number lines within counted so_far =
    let place : ℕ → Place = λ n. record { segnum = n; parent = 0; level = 1 } in
    ap (λ n. (places ++ place n ∷ []) ++ root_places (suc n) (drop n lines)) counted
    ∙ append_assoc places (place (suc at) ∷ []) (root_places (suc (suc at)) (drop (suc at) lines))
    ∙ ap (λ (ps : List Place). places ++ ps) (sym (root-drop (suc at) at lines within))
    ∙ so_far

pub root-end : (places : List Place) (at : ℕ) (lines : List DataRecord) → length lines ≤ at
    → places ++ root_places (suc at) (drop at lines) ≡ root_places 1 lines
    → places ≡ root_places 1 lines
root-end places at lines past so_far =
    sym (append-nil places) ∙ ap (λ (ls : List DataRecord). places ++ root_places (suc at) ls) (sym (drop-past lines at past)) ∙ so_far
