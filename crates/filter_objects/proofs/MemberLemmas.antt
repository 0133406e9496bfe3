-- Sets in memory, and the nodes beside them.
use Rattle.std.proofs.Common.{◌≡◌, ℕ, suc, ◌+◌, ◌<◌, ◌≤◌, ◌==◌, ◌&&◌, Bool, true, false, cond, get_or, drop, List, [], ◌∷◌, ◌++◌, length, min, refl, ap, sym}
use Rattle.std.proofs.Common.{◌∙◌, ◌⊎◌, inl, inr, arith}
use Rattle.idoc_tree.specs.declared.node.Node.{Node}
use Rattle.idoc_tree.specs.Forest.{Segment, Forest, no_trees, tree, roots, count_of}
use Rattle.idoc_tree.specs.Nodes.{forest_of, tree_of}
use Rattle.idoc_tree.specs.Parts.{SegmentSet, none, takes, leaves, part, union, with_root}
use Rattle.idoc_tree.proofs.NodeLemmas.{drop-here, drop-past, trees_of-drop}
use Rattle.idoc_tree.proofs.PartLemmas.{part-none}
use Rattle.idoc_tree.proofs.SetLemmas.{union-none}
use Rattle.filter_objects.specs.declared.member.Member.{Member}
use Rattle.filter_objects.specs.declared.member.Member.TheOpen.{Member-F}
use Rattle.filter_objects.specs.declared.member.Member.TheViews.{out-Member, roll-Member}
use Rattle.filter_objects.specs.declared.member.Member.TheFolds.{fold-roll-Member, fold_out-Member}
use Rattle.filter_objects.specs.steps.Members.{Seen, member_step, member_of, set_of, followed, seen_either, seen_union}

-- a member that is opened, as it is seen
abbrev pub opened : Member-F Member → Seen
opened member = record { kept = member.kept; below = set_of member.below.items }

-- a member that is put together is seen by its parts
pub member_of-roll : (member : Member-F Member) → member_of (roll-Member member) ≡ opened member
member_of-roll = fold-roll-Member Seen member_step

-- and so is one that is taken apart
pub member_of-out : (member : Member) → member_of member ≡ opened (out-Member member)
member_of-out = fold_out-Member Seen member_step

-- sets may be put behind each other in any grouping
pub followed_assoc : (first second third : SegmentSet) → followed (followed first second) third ≡ followed first (followed second third)
followed_assoc none second third = refl
followed_assoc (takes below after) second third = ap (takes below) (followed_assoc after second third)
followed_assoc (leaves after) second third = ap leaves (followed_assoc after second third)

-- nothing more behind a set
pub followed-none : (set : SegmentSet) → followed set none ≡ set
followed-none none = refl
followed-none (takes below after) = ap (takes below) (followed-none after)
followed-none (leaves after) = ap leaves (followed-none after)

-- what follows a tree
pub followed-with_root : (kept : Bool) (below after others : SegmentSet) → followed (with_root kept below after) others
    ≡ with_root kept below (followed after others)
followed-with_root true below after others = refl
followed-with_root false below after others = refl

-- members behind others are the sets behind each other
pub set_of-append : (first second : List Member) → set_of (first ++ second) ≡ followed (set_of first) (set_of second)
set_of-append [] second = refl
set_of-append (member ∷ members) second =
    ap (with_root (member_of member).kept (member_of member).below) (set_of-append members second)
    ∙ sym (followed-with_root (member_of member).kept (member_of member).below (set_of members) (set_of second))

-- one more member behind those before, and what is to follow
pub set_of-push : (members : List Member) (member : Member-F Member) (others : SegmentSet) → followed (set_of (members ++ roll-Member member ∷ [])) others
    ≡ followed (set_of members) (with_root member.kept (set_of member.below.items) others)
set_of-push members member others =
    ap (λ (s : SegmentSet). followed s others) (set_of-append members (roll-Member member ∷ []))
    ∙ followed_assoc (set_of members) (set_of (roll-Member member ∷ [])) others
    ∙ ap (λ (m : Seen). followed (set_of members) (followed (with_root m.kept m.below none) others)) (member_of-roll member)
    ∙ ap (followed (set_of members)) (followed-with_root member.kept (set_of member.below.items) none others)

-- the members from one on
pub set_of-drop : (members : List Member) (at : ℕ) (member : Member) → at < length members → member ≡ get_or members at member →
    set_of (drop at members) ≡ with_root (member_of member).kept (member_of member).below (set_of (drop (at + 1) members))
set_of-drop members at member within here = ap set_of (drop-here members at member within here)

part-next : (nodes : List Node) (members : List Member) (at : ℕ) (node : Node) (member : Member) → at < length nodes → at < length members →
    node ≡ get_or nodes at node → member ≡ get_or members at member → part (forest_of (drop at nodes)) (set_of (drop at members))
    ≡ part (tree (tree_of node).root (tree_of node).below (forest_of (drop (at + 1) nodes)))
    (with_root (member_of member).kept (member_of member).below (set_of (drop (at + 1) members)))
part-next nodes members at node member in_nodes in_set node_is member_is =
    ap (λ (f : Forest). part f (set_of (drop at members))) (trees_of-drop nodes at node in_nodes node_is)
    ∙ ap (part (tree (tree_of node).root (tree_of node).below (forest_of (drop (at + 1) nodes)))) (set_of-drop members at member in_set member_is)

-- the nodes from one on that are in the set, where that one is
pub part-has : (nodes : List Node) (members : List Member) (at : ℕ) (node : Node) (member : Member) → at < length nodes → at < length members →
    node ≡ get_or nodes at node → member ≡ get_or members at member → (member_of member).kept ≡ true →
    part (forest_of (drop at nodes)) (set_of (drop at members)) ≡ tree (tree_of node).root (part (tree_of node).below (member_of member).below)
    (part (forest_of (drop (at + 1) nodes)) (set_of (drop (at + 1) members)))
part-has nodes members at node member in_nodes in_set node_is member_is kept =
    part-next nodes members at node member in_nodes in_set node_is member_is
    ∙ ap (λ (b : Bool). part (tree (tree_of node).root (tree_of node).below (forest_of (drop (at + 1) nodes)))
    (with_root b (member_of member).below (set_of (drop (at + 1) members)))) kept

-- and where it is not
pub part-lacks : (nodes : List Node) (members : List Member) (at : ℕ) (node : Node) (member : Member) → at < length nodes → at < length members →
    node ≡ get_or nodes at node → member ≡ get_or members at member → (member_of member).kept ≡ false →
    part (forest_of (drop at nodes)) (set_of (drop at members)) ≡ part (forest_of (drop (at + 1) nodes)) (set_of (drop (at + 1) members))
part-lacks nodes members at node member in_nodes in_set node_is member_is out =
    part-next nodes members at node member in_nodes in_set node_is member_is
    ∙ ap (λ (b : Bool). part (tree (tree_of node).root (tree_of node).below (forest_of (drop (at + 1) nodes)))
    (with_root b (member_of member).below (set_of (drop (at + 1) members)))) out

either_past : (a b c : ℕ) → min a b ≤ c → (a ≤ c) ⊎ (b ≤ c)
either_past a b c past = grind arith

-- none is past the end of the nodes or of the members
pub part-past : (nodes : List Node) (members : List Member) (at : ℕ) → min (length nodes) (length members) ≤ at →
    part (forest_of (drop at nodes)) (set_of (drop at members)) ≡ no_trees
part-past nodes members at past =
    elim (either_past (length nodes) (length members) at past) [
      | inl no_nodes ↦ ap (λ (ns : List Node). part (forest_of ns) (set_of (drop at members))) (drop-past nodes at no_nodes)
      | inr no_members ↦ ap (λ (ms : List Member). part (forest_of (drop at nodes)) (set_of ms)) (drop-past members at no_members)
          ∙ part-none (forest_of (drop at nodes))
    ]

-- how the count goes on
pub count-next : (segment : ℕ) (root : Segment) (under behind : Forest) (kept : Bool) (below after : SegmentSet) →
    count_of segment (roots (part (tree root under behind) (with_root kept below after)))
    ≡ cond (kept && (root.type == segment)) (suc (count_of segment (roots (part behind after)))) (count_of segment (roots (part behind after)))
count-next segment root under behind true below after = refl
count-next segment root under behind false below after = refl

pub count_of-next : (segment : ℕ) (nodes : List Node) (members : List Member) (at : ℕ) (node : Node) (member : Member) (b : Bool) → at < length nodes →
    at < length members → node ≡ get_or nodes at node → member ≡ get_or members at member → ((member_of member).kept && ((tree_of node).root.type == segment))
    ≡ b → count_of segment (roots (part (forest_of (drop at nodes)) (set_of (drop at members))))
    ≡ cond b (suc (count_of segment (roots (part (forest_of (drop (at + 1) nodes)) (set_of (drop (at + 1) members))))))
    (count_of segment (roots (part (forest_of (drop (at + 1) nodes)) (set_of (drop (at + 1) members)))))
count_of-next segment nodes members at node member b in_nodes in_set node_is member_is test =
    ap (λ (f : Forest). count_of segment (roots f)) (part-next nodes members at node member in_nodes in_set node_is member_is)
    ∙ count-next segment (tree_of node).root (tree_of node).below (forest_of (drop (at + 1) nodes)) (member_of member).kept (member_of member).below
    (set_of (drop (at + 1) members))
    ∙ ap (λ (t : Bool). cond t (suc (count_of segment (roots (part (forest_of (drop (at + 1) nodes)) (set_of (drop (at + 1) members))))))
    (count_of segment (roots (part (forest_of (drop (at + 1) nodes)) (set_of (drop (at + 1) members)))))) test

-- the union of two trees is that of their roots and of what is below
pub union-with_root : (kept other : Bool) (below b after a : SegmentSet) → union (with_root kept below after) (with_root other b a)
    ≡ with_root (seen_either kept other below b).kept (seen_either kept other below b).below (union after a)
union-with_root true true below b after a = refl
union-with_root true false below b after a = refl
union-with_root false true below b after a = refl
union-with_root false false below b after a = refl

-- the same, without opening the member
pub set_of-one : (members : List Member) (member : Member) (others : SegmentSet) → followed (set_of (members ++ member ∷ [])) others
    ≡ followed (set_of members) (with_root (member_of member).kept (member_of member).below others)
set_of-one members member others =
    ap (λ (s : SegmentSet). followed s others) (set_of-append members (member ∷ []))
    ∙ followed_assoc (set_of members) (set_of (member ∷ [])) others
    ∙ ap (followed (set_of members)) (followed-with_root (member_of member).kept (member_of member).below none others)

-- the union from one member on
pub union-drop : (one two : List Member) (at : ℕ) (member other all : Member) → at < length one → at < length two → member ≡ get_or one at member →
    other ≡ get_or two at other → member_of all ≡ seen_union (member_of member) (member_of other) → union (set_of (drop at one)) (set_of (drop at two))
    ≡ with_root (member_of all).kept (member_of all).below (union (set_of (drop (at + 1) one)) (set_of (drop (at + 1) two)))
union-drop one two at member other all in_one in_two member_is other_is all_is =
    ap (λ (s : SegmentSet). union s (set_of (drop at two))) (set_of-drop one at member in_one member_is)
    ∙ ap (union (with_root (member_of member).kept (member_of member).below (set_of (drop (at + 1) one)))) (set_of-drop two at other in_two other_is)
    ∙ union-with_root (member_of member).kept (member_of other).kept (member_of member).below (member_of other).below (set_of (drop (at + 1) one))
    (set_of (drop (at + 1) two))
    ∙ ap (λ (m : Seen). with_root m.kept m.below (union (set_of (drop (at + 1) one)) (set_of (drop (at + 1) two)))) (sym all_is)

-- past the end of one of them the others stand alone
pub union-past : (one two : List Member) (at : ℕ) → min (length one) (length two) ≤ at → union (set_of (drop at one)) (set_of (drop at two))
    ≡ followed (set_of (drop at one)) (set_of (drop at two))
union-past one two at past =
    elim (either_past (length one) (length two) at past) [
      | inl no_one ↦
          ap (λ (ms : List Member). union (set_of ms) (set_of (drop at two))) (drop-past one at no_one)
          ∙ ap (λ (ms : List Member). followed (set_of ms) (set_of (drop at two))) (sym (drop-past one at no_one))
      | inr no_two ↦
          ap (λ (ms : List Member). union (set_of (drop at one)) (set_of ms)) (drop-past two at no_two)
          ∙ union-none (set_of (drop at one))
          ∙ sym (followed-none (set_of (drop at one)))
          ∙ ap (λ (ms : List Member). followed (set_of (drop at one)) (set_of ms)) (sym (drop-past two at no_two))
    ]
