-- One walk over a forest, in which segments go and the others change: one step on the way to each of the four maps.
use Rattle.std.specs.Prelude.{◌≡◌, ℕ, Bool, true, false, List, length, Option, MatchOption}
use Rattle.idoc_tree.specs.declared.node.Node.{Node}
use Rattle.idoc_tree.specs.Forest.{Segment, Forest, joined, map_nodes, without}
use Rattle.idoc_tree.specs.Nodes.{forest_of}

-- what is left where some segments go, each with all below it, and the others change
abbrev pub walked : (Segment → Bool) → (Segment → Segment) → Forest → Forest
walked goes change forest = map_nodes change (without goes forest)

-- what comes of a segment: nothing where it goes, else the segment changed
abbrev pub ComesOf : (Segment → Bool) → (Segment → Segment) → Segment → Option Segment → Type 0
ComesOf goes change segment sent =
    MatchOption sent (goes segment ≡ true) (λ one. (goes segment ≡ false) × (one ≡ change segment))

-- A walk: what was made of the nodes before, and what is to come of those that are left, is what comes of all.
pub record IsWalk (goes : Segment → Bool) (change : Segment → Segment) (made left : List Node) (count : ℕ) (all : List Node) : Type 0 where
  pub so_far : joined (forest_of made) (walked goes change (forest_of left)) ≡ walked goes change (forest_of all)
  pub counted : count ≡ length left
