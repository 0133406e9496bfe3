-- The last of some nodes has the open ones: what is below them, and what is hung there.
use Rattle.std.proofs.Common.{◌≡◌, ℕ, ◌==◌, true, false, Some, List, [], ◌∷◌, ◌++◌, refl, ap, sym, ◌∙◌, if◌then◌else◌}
use Rattle.std.specs.Prelude.{IsSome, slice_get, slice_set, length, ◌+◌, ◌-◌, ◌<◌, take}
use Rattle.std.proofs.Common.{arith, get_or, length-append}
use Rattle.std.proofs.lemmas.Option.{slice_get_read}
use Rattle.idoc_tree.specs.declared.node.Node.TheOpen.{Node-F}
use Rattle.idoc_tree.specs.declared.node.Node.{Node}
use Rattle.idoc_tree.specs.declared.node.Node.TheViews.{out-Node, roll-Node}
use Rattle.idoc_tree.specs.Nodes.{forest_of}
use Rattle.idoc_tree.proofs.NodeLemmas.{root_of, forest_of-last, forest_of-set_last}
use Rattle.idoc_tree.specs.Forest.{Segment, Forest, no_trees, tree, preorder, leaf, joined, roots}
use Rattle.idoc_tree.specs.Siblings.{children_of_open}
use Rattle.idoc_tree.specs.steps.Growing.{hung_below}
use Rattle.idoc_tree.proofs.ForestLemmas.{is_bare-joined, preorder-joined}

-- the last tree has the open segments
pub children_of_open-last : (type : ℕ) (forest : Forest) (root : Segment) (below : Forest) → children_of_open type (joined forest (tree root below no_trees))
    ≡ (if root.type == type then Some (roots below) else children_of_open type below)
children_of_open-last type no_trees root below = refl
children_of_open-last type (tree r b a) root below =
    ap (λ x. if x then (if r.type == type then Some (roots b) else children_of_open type b) else children_of_open type (joined a (tree root below no_trees)))
    (is_bare-joined a root below no_trees)
    ∙ children_of_open-last type a root below

-- a segment is hung into the last tree
pub hung_below-last : (type : ℕ) (segment : Segment) (forest : Forest) (root : Segment) (below : Forest) →
    hung_below type segment (joined forest (tree root below no_trees))
    ≡ joined forest (tree root (if root.type == type then joined below (leaf segment) else hung_below type segment below) no_trees)
hung_below-last type segment no_trees root below = refl
hung_below-last type segment (tree r b a) root below =
    let behind = joined a (tree root below no_trees) in
    ap (λ x. if x then tree r (if r.type == type then joined b (leaf segment) else hung_below type segment b) behind else tree r b
    (hung_below type segment behind)) (is_bare-joined a root below no_trees)
    ∙ ap (tree r b) (hung_below-last type segment a root below)

-- where a node is open there is a last one
pub last_open : (type : ℕ) (nodes : List Node) (count : ℕ) (last : Node) → IsSome (children_of_open type (forest_of nodes)) → count ≡ length nodes →
    last ≡ get_or nodes (count - 1) last → (count - 1 + 1 ≡ length nodes) × (slice_get nodes (count - 1) ≡ Some last)
last_open type [] count last some all here = cc
last_open type (node ∷ nodes) count last some all here =
    (omega arith, slice_get_read (node ∷ nodes) count (count - 1) last all (omega arith) here)

-- the same of nodes
module _ (type : ℕ) (nodes : List Node) (at : ℕ) (last : Node) (long : at + 1 ≡ length nodes) (here : slice_get nodes at ≡ Some last) where
  -- there are fewer segments below the last node than in all
  pub fewer_below : length (preorder (forest_of (out-Node last).children.items)) < length (preorder (forest_of nodes))
  fewer_below =
      let below = forest_of (out-Node last).children.items in
      let front = forest_of (take at nodes) in
      rw (forest_of-last nodes at last long here, preorder-joined front (tree (root_of (out-Node last)) below no_trees))
      (omega (arith, length-append (preorder front) (root_of (out-Node last) ∷ (preorder below ++ [])), length-append (preorder below) []))

  -- the children of a last node of the type are those that are looked for
  pub children_of_open-found : (out-Node last).segment == type ≡ true →
      children_of_open type (forest_of nodes) ≡ Some (roots (forest_of (out-Node last).children.items))
  children_of_open-found found =
      ap (children_of_open type) (forest_of-last nodes at last long here)
      ∙ children_of_open-last type (forest_of (take at nodes)) (root_of (out-Node last)) (forest_of (out-Node last).children.items)
      ∙ ap (λ b. if b then Some (roots (forest_of (out-Node last).children.items)) else children_of_open type (forest_of (out-Node last).children.items)) found

  -- and else they are looked for below it
  pub children_of_open-deeper : (out-Node last).segment == type ≡ false →
      children_of_open type (forest_of nodes) ≡ children_of_open type (forest_of (out-Node last).children.items)
  children_of_open-deeper other =
      ap (children_of_open type) (forest_of-last nodes at last long here)
      ∙ children_of_open-last type (forest_of (take at nodes)) (root_of (out-Node last)) (forest_of (out-Node last).children.items)
      ∙ ap (λ b. if b then Some (roots (forest_of (out-Node last).children.items)) else children_of_open type (forest_of (out-Node last).children.items)) other

  -- nodes whose last one has other children, hung with one more
  pub hung_below-found : (segment : Segment) (children : Node-F Node) → (out-Node last).segment == type ≡ true → root_of children ≡ root_of (out-Node last) →
      forest_of children.children.items ≡ joined (forest_of (out-Node last).children.items) (leaf segment) → forest_of (slice_set nodes at (roll-Node children))
      ≡ hung_below type segment (forest_of nodes)
  hung_below-found segment children found root more =
      forest_of-set_last nodes at last children long here
      ∙ ap (λ forest. joined (forest_of (take at nodes)) (tree (root_of children) forest no_trees)) more
      ∙ ap (λ r. joined (forest_of (take at nodes)) (tree r (joined (forest_of (out-Node last).children.items) (leaf segment)) no_trees)) root
      ∙ ap (λ b. joined (forest_of (take at nodes))
      (tree (root_of (out-Node last)) (if b then joined (forest_of (out-Node last).children.items) (leaf segment) else hung_below type segment
      (forest_of (out-Node last).children.items)) no_trees)) (sym found)
      ∙ sym (ap (hung_below type segment) (forest_of-last nodes at last long here)
      ∙ hung_below-last type segment (forest_of (take at nodes)) (root_of (out-Node last)) (forest_of (out-Node last).children.items))

  -- where the last node is of another type, a segment that is hung below it is hung into the forest
  pub hung_below-deeper : (segment : Segment) (children : Node-F Node) → (out-Node last).segment == type ≡ false → root_of children ≡ root_of (out-Node last) →
      forest_of children.children.items ≡ hung_below type segment (forest_of (out-Node last).children.items) →
      forest_of (slice_set nodes at (roll-Node children)) ≡ hung_below type segment (forest_of nodes)
  hung_below-deeper segment children other root more =
      forest_of-set_last nodes at last children long here
      ∙ ap (λ forest. joined (forest_of (take at nodes)) (tree (root_of children) forest no_trees)) more
      ∙ ap (λ r. joined (forest_of (take at nodes)) (tree r (hung_below type segment (forest_of (out-Node last).children.items)) no_trees)) root
      ∙ ap (λ b. joined (forest_of (take at nodes))
      (tree (root_of (out-Node last)) (if b then joined (forest_of (out-Node last).children.items) (leaf segment) else hung_below type segment
      (forest_of (out-Node last).children.items)) no_trees)) (sym other)
      ∙ sym (ap (hung_below type segment) (forest_of-last nodes at last long here)
      ∙ hung_below-last type segment (forest_of (take at nodes)) (root_of (out-Node last)) (forest_of (out-Node last).children.items))
