-- What a walk leaves of a forest, tree by tree.
use Rattle.std.proofs.Common.{◌≡◌, Bool, true, false, cond, inl, inr, refl}
use Rattle.idoc_tree.specs.Forest.{Segment, Forest, no_trees, tree, map_nodes, without}
use Rattle.version_reduce.specs.Left.{IsLeftOf, IsChangedFrom}

-- where segments go and the others change
pub left-of : (MayGo : Segment → Type 0) (MayBecome : Segment → Segment → Type 0) (goes : Segment → Bool) (change : Segment → Segment)
    → ((segment : Segment) → goes segment ≡ true → MayGo segment)
    → ((segment : Segment) → goes segment ≡ false → MayBecome segment (change segment))
    → (forest : Forest) → IsLeftOf MayGo MayBecome forest (map_nodes change (without goes forest))
left-of MayGo MayBecome goes change go become no_trees = refl
left-of MayGo MayBecome goes change go become (tree root below after) =
    step (goes root) refl (left-of MayGo MayBecome goes change go become below) (left-of MayGo MayBecome goes change go become after)
  where
    step : (b : Bool) → goes root ≡ b → IsLeftOf MayGo MayBecome below (map_nodes change (without goes below))
        → IsLeftOf MayGo MayBecome after (map_nodes change (without goes after))
        → IsLeftOf MayGo MayBecome (tree root below after)
        (map_nodes change (cond b (without goes after) (tree root (without goes below) (without goes after))))
    step true is under behind = inl (go root is, behind)
    step false is under behind =
        inr (change root, map_nodes change (without goes below), map_nodes change (without goes after), refl, become root is, under, behind)

-- where each segment changes
pub changed-from : (MayBecome : Segment → Segment → Type 0) (change : Segment → Segment) → ((segment : Segment) → MayBecome segment (change segment))
    → (forest : Forest) → IsChangedFrom MayBecome forest (map_nodes change forest)
changed-from MayBecome change become no_trees = refl
changed-from MayBecome change become (tree root below after) =
    inr (
      change root,
      map_nodes change below,
      map_nodes change after,
      refl,
      become root,
      changed-from MayBecome change become below,
      changed-from MayBecome change become after,
    )
