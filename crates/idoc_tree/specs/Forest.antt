-- Forests: the segments of a document and how they hang together, without where they lie in memory.
use Rattle.std.specs.Prelude.{ℕ, suc, ◌==◌, Bool, true, false, List, [], ◌∷◌, ◌++◌, if◌then◌else◌}

-- a segment without those below it: its type and its definition, by their numbers, and its data
pub record Segment : Type 0 where
  pub type : ℕ
  pub version : ℕ
  pub sdata : List ℕ

-- no trees; or a first tree, which is its root and the forest below that, and the trees after it
pub data Forest : Type 0 where
  no_trees : Forest
  tree : (root : Segment) → (below after : Forest) → Forest

-- the segments in preorder: each before those below it, and these before those after it
abbrev pub preorder : Forest → List Segment
preorder no_trees = []
preorder (tree root below after) = root ∷ (preorder below ++ preorder after)

-- whether there is no tree
abbrev pub is_bare : Forest → Bool
is_bare no_trees = true
is_bare (tree root below after) = false

-- a segment with none below it
abbrev pub leaf : Segment → Forest
leaf segment = tree segment no_trees no_trees

-- the trees of one forest, and those of another after them
abbrev pub joined : Forest → Forest → Forest
joined no_trees others = others
joined (tree root below after) others = tree root below (joined after others)

-- each segment changed, and all in its place
abbrev pub map_nodes : (Segment → Segment) → Forest → Forest
map_nodes change no_trees = no_trees
map_nodes change (tree root below after) = tree (change root) (map_nodes change below) (map_nodes change after)

-- the segments that go, each with all below it, are left out
abbrev pub without : (Segment → Bool) → Forest → Forest
without goes no_trees = no_trees
without goes (tree root below after) =
    if goes root then without goes after else tree root (without goes below) (without goes after)

-- the roots of the trees, in order
abbrev pub roots : Forest → List Segment
roots no_trees = []
roots (tree root below after) = root ∷ roots after

-- how many of some segments are of a type
abbrev pub count_of : ℕ → List Segment → ℕ
count_of type [] = 0
count_of type (segment ∷ segments) = if segment.type == type then suc (count_of type segments) else count_of type segments

-- of each segment
abbrev pub AllNodes : (Segment → Type 0) → Forest → Type 0
AllNodes P no_trees = Unit {0}
AllNodes P (tree root below after) = P root × AllNodes P below × AllNodes P after
