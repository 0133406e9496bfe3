-- The siblings of the next segment, as the last of some nodes tell.
use Rattle.std.proofs.lemmas.Bool.{eq-eqb, eqb-true, le-leb, lt-leb}
use Rattle.std.specs.Prelude.{nat_lt, nat_le, slice_get}
use Rattle.std.specs.List.{AllByRecursion}
use Rattle.std.proofs.Common.{◌≡◌, ℕ, zero, suc, ◌+◌, ◌-◌, ◌<◌, ◌≤◌, ◌==◌, ◌||◌, Bool, true, false, cond, Some, List, [], ◌∷◌, ◌++◌, length, take, refl, ap}
use Rattle.std.proofs.Common.{sym, subst, ◌∙◌, arith}
use Rattle.std.proofs.lemmas.Bool.Decides.{nat_tests}
use Rattle.std.proofs.lemmas.Option.{same_Some, slice_get_within}
use Rattle.segment_defs.specs.declared.idoc_type.TypePlace.{TypePlace}
use Rattle.segment_defs.specs.IdocType.{place_in}
use Rattle.segment_defs.proofs.IdocTypeLemmas.{place_in-injective}
use Rattle.idoc_tree.specs.declared.node.Node.{Node}
use Rattle.idoc_tree.specs.declared.node.Node.TheViews.{out-Node}
use Rattle.idoc_tree.specs.Forest.{Segment, no_trees, tree, roots, count_of}
use Rattle.idoc_tree.specs.Nodes.{Tree, forest_of}
use Rattle.idoc_tree.specs.Valid.{IsOrdered}
use Rattle.idoc_tree.specs.Siblings.{has_later}
use Rattle.idoc_tree.specs.steps.Growing.{AreLast}
use Rattle.idoc_tree.proofs.ForestLemmas.{roots-joined}
use Rattle.idoc_tree.proofs.NodeLemmas.{root_of, tree_of-out, forest_of-last}
use Rattle.ale_base.proofs.ListLemmas.{AllByRecursion-at, AllByRecursion-weaker, AllByRecursion-both}
use Rattle.idoc_tree.proofs.FamilyLemmas.{NoneLater, IsOrdered-front}

lower_is_enough : (a b c : ℕ) → b ≤ c → (nat_lt a b || nat_lt a c) ≡ nat_lt a c
lower_is_enough a b c le = grind (arith, nat_tests)

-- of segments in order the last one tells whether one is later
later-last : (entries : List TypePlace) (place : ℕ) (segments : List Segment) (last : Segment) → NoneLater entries (place_in entries last.type) segments →
    has_later entries place (segments ++ last ∷ []) ≡ nat_lt place (place_in entries last.type)
later-last entries place [] last all = or_none (nat_lt place (place_in entries last.type))
  where
    or_none : (b : Bool) → (b || false) ≡ b
    or_none true = refl
    or_none false = refl
later-last entries place (segment ∷ segments) last all =
    ap (λ b. nat_lt place (place_in entries segment.type) || b) (later-last entries place segments last all.1)
    ∙ lower_is_enough place (place_in entries segment.type) (place_in entries last.type) all.0

-- the last root is the segment of the last node
pub roots-last : (nodes : List Node) (at : ℕ) (last : Node) → at + 1 ≡ length nodes → slice_get nodes at ≡ Some last →
    roots (forest_of nodes) ≡ roots (forest_of (take at nodes)) ++ root_of (out-Node last) ∷ []
roots-last nodes at last long here =
    ap roots (forest_of-last nodes at last long here)
    ∙ roots-joined (forest_of (take at nodes)) (tree (root_of (out-Node last)) (forest_of (out-Node last).children.items) no_trees)

-- the same of nodes
pub has_later-last : (entries : List TypePlace) (place : ℕ) (nodes : List Node) (last : Node) → IsOrdered entries (roots (forest_of nodes)) →
    slice_get nodes (length nodes - 1) ≡ Some last → has_later entries place (roots (forest_of nodes)) ≡ nat_lt place (place_in entries (out-Node last).segment)
has_later-last entries place nodes last ordered here =
    let long : length nodes - 1 + 1 ≡ length nodes = omega (arith, slice_get_within nodes (length nodes - 1) last here) in
    let is = roots-last nodes (length nodes - 1) last long here in
    let front = roots (forest_of (take (length nodes - 1) nodes)) in
    ap (has_later entries place) is
    ∙ later-last entries place front (root_of (out-Node last))
    (IsOrdered-front entries front (root_of (out-Node last)) (subst (IsOrdered entries) is ordered)).1

-- the segments of a type that none is later than stand behind all others
pub AreLast-ordered : (entries : List TypePlace) (type : ℕ) (segments : List Segment) → place_in entries type < length entries → IsOrdered entries segments →
    NoneLater entries (place_in entries type) segments → AreLast type segments
AreLast-ordered entries type [] within ordered all = tt
AreLast-ordered entries type (segment ∷ segments) within ordered all = (
  λ same. AllByRecursion-weaker _ _ segments (λ other both.
      let is = eqb-true segment.type type same in
      let least : place_in entries type ≤ place_in entries other.type = subst (λ s. place_in entries s ≤ place_in entries other.type) is both.0 in
      let places : place_in entries type ≡ place_in entries other.type = omega arith in
      let own : type ≡ other.type = place_in-injective entries type other.type within places in
      subst (λ s. s == type ≡ true) own (eq-eqb type type refl))
      (AllByRecursion-both (λ other. place_in entries segment.type ≤ place_in entries other.type) (λ other. place_in entries other.type ≤ place_in entries type)
      segments ordered.0 all.1),
  AreLast-ordered entries type segments within ordered.1 all.1,
)

-- no more segments are of a type than there are
pub count_of-length : (type : ℕ) (segments : List Segment) → count_of type segments ≤ length segments
count_of-length type [] = omega arith
count_of-length type (segment ∷ segments) = at_most (segment.type == type) (count_of-length type segments)
  where
    at_most : (b : Bool) → count_of type segments ≤ length segments → cond b (suc (count_of type segments)) (count_of type segments) ≤ suc (length segments)
    at_most true few = omega arith
    at_most false few = omega arith

-- all of one type
count_of-all : (type : ℕ) (segments : List Segment) → AllByRecursion (λ other. other.type == type ≡ true) segments → count_of type segments ≡ length segments
count_of-all type [] all = refl
count_of-all type (segment ∷ segments) all =
    ap (λ b. cond b (suc (count_of type segments)) (count_of type segments)) all.0 ∙ ap suc (count_of-all type segments all.1)

tells : (type max : ℕ) (first : Segment) (segments : List Segment) (segment : Segment) (b : Bool) → first.type == type ≡ b →
    (b ≡ true → AllByRecursion (λ other. other.type == type ≡ true) segments) →
    ((at : ℕ) → at + max ≡ length segments → slice_get segments at ≡ Some segment → nat_le max (count_of type segments) ≡ (segment.type == type)) → (at : ℕ) →
    1 ≤ max → at + max ≡ suc (length segments) → slice_get (first ∷ segments) at ≡ Some segment →
    nat_le max (cond b (suc (count_of type segments)) (count_of type segments)) ≡ (segment.type == type)
tells type max first segments segment true same others rest at some all here =
    le-leb max (suc (count_of type segments)) (omega (arith, count_of-all type segments (others refl)))
    ∙ sym (AllByRecursion-at (λ other. other.type == type ≡ true) (first ∷ segments) at segment (same, others refl) here)
tells type max first segments segment false other others rest zero some all here =
    lt-leb max (count_of type segments) (omega (arith, count_of-length type segments))
    ∙ sym (subst (λ (i : Segment). i.type == type ≡ false) (same_Some first segment here) other)
tells type max first segments segment false other others rest (suc at) some all here = rest at (omega arith) here

-- Where the segments of a type come last, the one that is `max` before the end tells whether there are as many.
pub count_of-last : (type max : ℕ) (segments : List Segment) (at : ℕ) (segment : Segment) → AreLast type segments → 1 ≤ max → at + max ≡ length segments →
    slice_get segments at ≡ Some segment → nat_le max (count_of type segments) ≡ (segment.type == type)
count_of-last type max [] at segment last some all here = cc
count_of-last type max (first ∷ segments) at segment last some all here =
    tells type max first segments segment (first.type == type) refl last.0 (λ at all here. count_of-last type max segments at segment last.1 some all here) at
    some all here

-- there are as many roots as nodes
pub length-roots : (nodes : List Node) → length (roots (forest_of nodes)) ≡ length nodes
length-roots [] = refl
length-roots (node ∷ nodes) = ap suc (length-roots nodes)

-- the root at a place is the segment of the node there
pub slice_get-roots : (nodes : List Node) (at : ℕ) (node : Node) → slice_get nodes at ≡ Some node →
    slice_get (roots (forest_of nodes)) at ≡ Some (root_of (out-Node node))
slice_get-roots [] at node here = cc
slice_get-roots (first ∷ nodes) zero node here = ap Some (ap (λ (t : Tree). t.root) (tree_of-out first))
    ∙ ap (λ n. Some (root_of (out-Node n))) (same_Some first node here)
slice_get-roots (first ∷ nodes) (suc at) node here = slice_get-roots nodes at node here

-- the same of nodes
pub is_full-nodes : (type max : ℕ) (nodes : List Node) (node : Node) → AreLast type (roots (forest_of nodes)) → 1 ≤ max → max ≤ length nodes →
    slice_get nodes (length nodes - max) ≡ Some node → nat_le max (count_of type (roots (forest_of nodes))) ≡ ((out-Node node).segment == type)
is_full-nodes type max nodes node last some within here =
    count_of-last type max (roots (forest_of nodes)) (length nodes - max) (root_of (out-Node node)) last some (omega (arith, length-roots nodes))
    (slice_get-roots nodes (length nodes - max) node here)

-- fewer nodes than may be are not too many of a type
pub not_full-nodes : (type max : ℕ) (nodes : List Node) → length nodes < max → nat_le max (count_of type (roots (forest_of nodes))) ≡ false
not_full-nodes type max nodes short =
    lt-leb max (count_of type (roots (forest_of nodes))) (omega (arith, count_of-length type (roots (forest_of nodes)), length-roots nodes))
