-- Nodes as forests.
use Rattle.std.specs.Prelude.{slice_get, slice_set, Some}
use Rattle.std.proofs.Common.{◌≡◌, ℕ, suc, ◌+◌, ◌<◌, ◌≤◌, get_or, drop, drop-cons, arith, zero, List, [], ◌∷◌, ◌++◌, length, take, refl, ap, sym, ◌∙◌}
use Rattle.ale_base.proofs.SnocLemmas.{set-last}
use Rattle.idoc_tree.specs.declared.node.Node.{Node}
use Rattle.idoc_tree.specs.declared.node.Node.TheOpen.{Node-F}
use Rattle.idoc_tree.specs.declared.node.Node.TheViews.{out-Node, roll-Node}
use Rattle.idoc_tree.specs.declared.node.Node.TheFolds.{fold-roll-Node, fold_out-Node}
use Rattle.idoc_tree.specs.Forest.{Segment, Forest, no_trees, tree, joined}
use Rattle.idoc_tree.proofs.ForestLemmas.{joined_assoc}
use Rattle.idoc_tree.specs.Nodes.{Tree, tree_step, tree_of, forest_of}

-- the root of a node that is opened
abbrev pub root_of : Node-F Node → Segment
root_of node = record { type = node.segment; version = node.version; sdata = node.sdata }

-- a node that is opened, as a tree
abbrev pub opened : Node-F Node → Tree
opened node = record { root = root_of node; below = forest_of node.children.items }

-- the tree of a node that is put together
pub tree_of-roll : (node : Node-F Node) → tree_of (roll-Node node) ≡ opened node
tree_of-roll = fold-roll-Node Tree tree_step

-- the tree of a node, by its parts
pub tree_of-out : (node : Node) → tree_of node ≡ opened (out-Node node)
tree_of-out = fold_out-Node Tree tree_step

-- the forest of two lists of nodes is their forests joined
pub forest_of-append : (first second : List Node) → forest_of (first ++ second) ≡ joined (forest_of first) (forest_of second)
forest_of-append [] second = refl
forest_of-append (node ∷ nodes) second = ap (tree (tree_of node).root (tree_of node).below) (forest_of-append nodes second)

-- nodes with one more behind them
pub forest_of-snoc : (nodes : List Node) (last : Node) →
    forest_of (nodes ++ last ∷ []) ≡ joined (forest_of nodes) (tree (tree_of last).root (tree_of last).below no_trees)
forest_of-snoc nodes last = forest_of-append nodes (last ∷ [])

-- the forest of some nodes is that of all but the last, and the tree of the last
pub forest_of-last : (nodes : List Node) (at : ℕ) (last : Node) → at + 1 ≡ length nodes → slice_get nodes at ≡ Some last →
    forest_of nodes ≡ joined (forest_of (take at nodes)) (tree (root_of (out-Node last)) (forest_of (out-Node last).children.items) no_trees)
forest_of-last nodes at last long here =
    ap forest_of (set-last nodes at last last long here).0 ∙ forest_of-snoc (take at nodes) last
    ∙ ap (λ (t : Tree). joined (forest_of (take at nodes)) (tree t.root t.below no_trees)) (tree_of-out last)

-- nodes with another one in the place of the last
pub forest_of-set_last : (nodes : List Node) (at : ℕ) (last : Node) (node : Node-F Node) → at + 1 ≡ length nodes → slice_get nodes at ≡ Some last →
    forest_of (slice_set nodes at (roll-Node node)) ≡ joined (forest_of (take at nodes)) (tree (root_of node) (forest_of node.children.items) no_trees)
forest_of-set_last nodes at last node long here =
    ap forest_of (set-last nodes at last (roll-Node node) long here).1 ∙ forest_of-snoc (take at nodes) (roll-Node node)
    ∙ ap (λ (t : Tree). joined (forest_of (take at nodes)) (tree t.root t.below no_trees)) (tree_of-roll node)

-- the nodes from one on
pub forest_of-drop : (nodes : List Node) (at : ℕ) (node : Node) → at < length nodes → node ≡ get_or nodes at node →
    forest_of (drop at nodes) ≡ tree (root_of (out-Node node)) (forest_of (out-Node node).children.items) (forest_of (drop (at + 1) nodes))
forest_of-drop nodes at node within here =
    let next : drop at nodes ≡ node ∷ drop (at + 1) nodes = drop-cons nodes at node within ∙ ap (λ n. n ∷ drop (suc at) nodes) (sym here)
    ∙ ap (λ k. node ∷ drop k nodes) (one_more at) in
    ap forest_of next ∙ ap (λ (t : Tree). tree t.root t.below (forest_of (drop (at + 1) nodes))) (tree_of-out node)
  where
    one_more : (n : ℕ) → suc n ≡ n + 1
    one_more n = omega arith

-- the elements from one on begin with it
pub drop-here : {A : Type 0} (xs : List A) (at : ℕ) (x : A) → at < length xs → x ≡ get_or xs at x → drop at xs ≡ x ∷ drop (at + 1) xs
drop-here xs at x within here = drop-cons xs at x within ∙ ap (λ n. n ∷ drop (suc at) xs) (sym here) ∙ ap (λ k. x ∷ drop k xs) (one_more at)
  where
    one_more : (n : ℕ) → suc n ≡ n + 1
    one_more n = omega arith

-- past the last one there is none
pub drop-past : {A : Type 0} (xs : List A) (at : ℕ) → length xs ≤ at → drop at xs ≡ []
drop-past [] zero past = refl
drop-past [] (suc at) past = refl
drop-past (x ∷ xs) zero past = absurd (omega arith)
drop-past (x ∷ xs) (suc at) past = drop-past xs at (omega arith)

-- the nodes from one on, with that one as a tree
pub trees_of-drop : (nodes : List Node) (at : ℕ) (node : Node) → at < length nodes → node ≡ get_or nodes at node →
    forest_of (drop at nodes) ≡ tree (tree_of node).root (tree_of node).below (forest_of (drop (at + 1) nodes))
trees_of-drop nodes at node within here = ap forest_of (drop-here nodes at node within here)

-- the forest below a node is that of its children
pub below-out : (node : Node) → (tree_of node).below ≡ forest_of (out-Node node).children.items
below-out node = ap (λ (t : Tree). t.below) (tree_of-out node)

-- one more node behind those before, and what is to follow
pub forest_of-push : (nodes : List Node) (last : Node) (others : Forest) → joined (forest_of (nodes ++ last ∷ [])) others
    ≡ joined (forest_of nodes) (tree (tree_of last).root (tree_of last).below others)
forest_of-push nodes last others =
    ap (λ (f : Forest). joined f others) (forest_of-snoc nodes last)
    ∙ joined_assoc (forest_of nodes) (tree (tree_of last).root (tree_of last).below no_trees) others

-- trees with the same root and the same below it are the same
pub trees_are_same : (one two : Tree) → one.root ≡ two.root → one.below ≡ two.below → one ≡ two
trees_are_same one two root below =
    let with : Segment → Tree = λ r. record { root = r; below = one.below } in
    let over : Forest → Tree = λ b. record { root = two.root; below = b } in
    ap with root ∙ ap over below
