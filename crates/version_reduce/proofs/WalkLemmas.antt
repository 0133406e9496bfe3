-- A walk over nodes, step by step.
use Rattle.std.proofs.Common.{◌≡◌, ℕ, ◌+◌, Bool, true, false, List, [], ◌∷◌, ◌++◌, length, refl, ap, sym, ◌∙◌, arith}
use Rattle.std.proofs.lemmas.Bool.{cond-true, cond-false}
use Rattle.idoc_tree.specs.declared.node.Node.{Node}
use Rattle.idoc_tree.specs.Forest.{Segment, Forest, tree, joined, map_nodes, without}
use Rattle.idoc_tree.specs.Nodes.{tree_of, forest_of}
use Rattle.idoc_tree.proofs.ForestLemmas.{joined-no_trees}
use Rattle.idoc_tree.proofs.NodeLemmas.{forest_of-push}
use Rattle.version_reduce.specs.steps.Walked.{walked, IsWalk}

module _ (goes : Segment → Bool) (change : Segment → Segment) where
  -- a segment that goes takes all below it away
  walked-gone : (root : Segment) (below after : Forest) → goes root ≡ true → walked goes change (tree root below after) ≡ walked goes change after
  walked-gone root below after is = ap (map_nodes change) (cond-true (goes root) (without goes after) (tree root (without goes below) (without goes after)) is)

  -- one that stays is changed
  walked-kept : (root : Segment) (below after : Forest) → goes root ≡ false
      → walked goes change (tree root below after) ≡ tree (change root) (walked goes change below) (walked goes change after)
  walked-kept root below after is = ap (map_nodes change) (cond-false (goes root) (without goes after) (tree root (without goes below) (without goes after)) is)

  -- a walk begins with all to come
  pub walk-begins : (made left : List Node) (count : ℕ) (all : List Node) → made ≡ [] → left ≡ all → count ≡ length all
      → IsWalk goes change made left count all
  walk-begins made left count all none same long = record {
    so_far = ap (λ ns. joined (forest_of ns) (walked goes change (forest_of left))) none ∙ ap (λ ns. walked goes change (forest_of ns)) same;
    counted = long ∙ ap length (sym same);
  }

  module _ (made left all rest : List Node) (count next : ℕ) (node : Node) (walk : IsWalk goes change made left count all) (first : left ≡ node ∷ rest)
      (less : next + 1 ≡ count) where
    counted_behind : next ≡ length rest
    counted_behind = omega (arith, walk.counted, ap length first)

    -- a node goes
    pub walk-passes : goes (tree_of node).root ≡ true → IsWalk goes change made rest next all
    walk-passes is = record {
      so_far = ap (joined (forest_of made)) (sym (walked-gone (tree_of node).root (tree_of node).below (forest_of rest) is)
          ∙ ap (λ ns. walked goes change (forest_of ns)) (sym first)) ∙ walk.so_far;
      counted = counted_behind;
    }

    -- a node stays
    pub walk-keeps : (one : Node) (more : List Node) → more ≡ made ++ one ∷ [] → goes (tree_of node).root ≡ false →
        (tree_of one).root ≡ change (tree_of node).root
        → (tree_of one).below ≡ walked goes change (tree_of node).below → IsWalk goes change more rest next all
    walk-keeps one more pushed is root below = let others = walked goes change (forest_of rest) in record {
      so_far = ap (λ ns. joined (forest_of ns) others) pushed ∙ forest_of-push made one others
          ∙ ap (λ r. joined (forest_of made) (tree r (tree_of one).below others)) root
          ∙ ap (λ b. joined (forest_of made) (tree (change (tree_of node).root) b others)) below
          ∙ ap (joined (forest_of made)) (sym (walked-kept (tree_of node).root (tree_of node).below (forest_of rest) is)
          ∙ ap (λ ns. walked goes change (forest_of ns)) (sym first))
          ∙ walk.so_far;
      counted = counted_behind;
    }

  none_left : (left : List Node) → 0 ≡ length left → left ≡ []
  none_left [] none = refl
  none_left (node ∷ left) none = absurd (omega arith)

  -- where none is left, what was made is what comes of all
  pub walk-ends : (made left : List Node) (count : ℕ) (all : List Node) → count ≡ 0 → IsWalk goes change made left count all
      → forest_of made ≡ walked goes change (forest_of all)
  walk-ends made left count all none walk =
      sym (joined-no_trees (forest_of made))
      ∙ ap (λ ns. joined (forest_of made) (walked goes change (forest_of ns))) (sym (none_left left (sym none ∙ walk.counted)))
      ∙ walk.so_far
