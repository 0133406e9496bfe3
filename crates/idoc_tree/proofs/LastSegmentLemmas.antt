-- Each forest that is not bare has a last segment, which hangs where it stands in the IDoc type.
use Rattle.std.proofs.lemmas.Bool.{eq-eqb, ne_eqb}
use Rattle.std.proofs.Common.{◌≡◌, ℕ, ◌<◌, false, Option, Some, None, List, [], refl, subst, arith}
use Rattle.segment_defs.specs.declared.idoc_type.TypePlace.{TypePlace}
use Rattle.segment_defs.specs.IdocType.{place_in, parent_of, IsPreorder}
use Rattle.segment_defs.proofs.IdocTypeLemmas.{above_before}
use Rattle.idoc_tree.specs.Forest.{Segment, Forest, no_trees, tree, is_bare, leaf, joined, roots}
use Rattle.idoc_tree.specs.Spells.{Hangs}
use Rattle.idoc_tree.proofs.HangingLemmas.{HangsBelow, here, deeper, later}

less_than_itself : {n : ℕ} → n < n → ⊥
less_than_itself lt = omega arith

-- whether a segment type stands behind the type above some segments
abbrev pub StandsBehind : List TypePlace → Option ℕ → ℕ → Type 0
StandsBehind entries None type = Unit {0}
StandsBehind entries (Some above) type = place_in entries above < place_in entries type

-- the last segment of a forest: a root, or one that hangs below another
pub data EndsWith (entries : List TypePlace) (above : Option ℕ) (segment : Segment) : Forest → Forest → Type 0 where
  a_root : (front : Forest) → parent_of entries segment.type ≡ Some above → EndsWith entries above segment front (joined front (leaf segment))
  below : (front forest : Forest) (type : ℕ) (among : List Segment) → parent_of entries segment.type ≡ Some (Some type) → StandsBehind entries above type →
      HangsBelow type segment front among forest → EndsWith entries above segment front forest

-- a forest that has a last segment
pub record HasLast (entries : List TypePlace) (above : Option ℕ) (forest : Forest) : Type 0 where
  pub front : Forest
  pub segment : Segment
  pub ends : EndsWith entries above segment front forest

module _ (entries : List TypePlace) (preorder_kept : IsPreorder 0 [] entries) where
  behind : (above : Option ℕ) (type : ℕ) → parent_of entries type ≡ Some above → StandsBehind entries above type
  behind None type parent = tt
  behind (Some above) type parent = above_before entries type above preorder_kept parent

  further : (above : Option ℕ) (type other : ℕ) → StandsBehind entries above type → place_in entries type < place_in entries other →
      StandsBehind entries above other
  further None type other first second = tt
  further (Some above) type other first second = omega arith

  last_after : (above : Option ℕ) (root : Segment) (under after : Forest) → HasLast entries above after → HasLast entries above (tree root under after)
  last_after above root under after last = moved last.front last.segment after last.ends
    where
      moved : (front : Forest) (segment : Segment) (after : Forest) → EndsWith entries above segment front after → HasLast entries above (tree root under after)
      moved front segment _ (a_root _ parent) = record { front = tree root under front; segment = segment; ends = a_root (tree root under front) parent }
      moved front segment after (below _ _ type among parent stands hangs) =
          record {
            front = tree root under front;
            segment = segment;
            ends = below (tree root under front) (tree root under after) type among parent stands
                (later root under front after among hangs);
          }

  last_under : (above : Option ℕ) (root : Segment) (under : Forest) → parent_of entries root.type ≡ Some above → HasLast entries (Some root.type) under →
      HasLast entries above (tree root under no_trees)
  last_under above root under own last = moved last.front last.segment under last.ends
    where
      moved : (front : Forest) (segment : Segment) (under : Forest) → EndsWith entries (Some root.type) segment front under →
          HasLast entries above (tree root under no_trees)
      moved front segment _ (a_root _ parent) =
          record {
            front = tree root front no_trees;
            segment = segment;
            ends = below (tree root front no_trees)
                (tree root (joined front (leaf segment)) no_trees) root.type (roots front) parent (behind above root.type own)
                (here root front (eq-eqb root.type root.type refl));
          }
      moved front segment under (below _ _ type among parent stands hangs) =
          record {
            front = tree root front no_trees;
            segment = segment;
            ends = below (tree root front no_trees) (tree root under no_trees) type among parent
                (further above root.type type (behind above root.type own) stands)
                (deeper root front under among (ne_eqb root.type type
                (λ same. absurd (less_than_itself (subst (λ s. place_in entries s < place_in entries type) same stands)))) hangs);
          }

  -- each forest that is not bare has a last segment
  pub has_last : (above : Option ℕ) (forest : Forest) → is_bare forest ≡ false → Hangs entries above forest → HasLast entries above forest
  has_last above no_trees some hangs = cc
  has_last above (tree root no_trees no_trees) some hangs = record { front = no_trees; segment = root; ends = a_root no_trees hangs.0 }
  has_last above (tree root (tree r b a) no_trees) some hangs = last_under above root (tree r b a) hangs.0 (has_last (Some root.type) (tree r b a) refl hangs.1)
  has_last above (tree root under (tree r b a)) some hangs = last_after above root under (tree r b a) (has_last above (tree r b a) refl hangs.2)
