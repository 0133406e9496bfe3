-- Forests put together, changed and cut.
use Rattle.std.proofs.Common.{◌≡◌, ℕ, suc, ◌+◌, ◌==◌, Bool, true, false, List, [], ◌∷◌, ◌++◌, map, cond, refl, ap, sym, ◌∙◌, arith, append_assoc}
use Rattle.std.proofs.lemmas.List.{map-append}
use Rattle.idoc_tree.specs.Forest.{Segment, Forest, no_trees, tree, preorder, is_bare, joined, map_nodes, without, roots, count_of, AllNodes}

-- a forest with trees behind it is not bare
pub is_bare-joined : (forest : Forest) (root : Segment) (below after : Forest) → is_bare (joined forest (tree root below after)) ≡ false
is_bare-joined no_trees root below after = refl
is_bare-joined (tree r b a) root below after = refl

-- a forest with no trees after it is itself
pub joined-no_trees : (forest : Forest) → joined forest no_trees ≡ forest
joined-no_trees no_trees = refl
joined-no_trees (tree root below after) = ap (tree root below) (joined-no_trees after)

-- forests may be joined in any grouping
pub joined_assoc : (first second third : Forest) → joined (joined first second) third ≡ joined first (joined second third)
joined_assoc no_trees second third = refl
joined_assoc (tree root below after) second third = ap (tree root below) (joined_assoc after second third)

-- a bare forest is none
pub bare_is_none : (forest : Forest) → is_bare forest ≡ true → forest ≡ no_trees
bare_is_none no_trees bare = refl
bare_is_none (tree root below after) bare = cc

-- the preorder of two forests is that of the first, and then that of the second
pub preorder-joined : (first second : Forest) → preorder (joined first second) ≡ preorder first ++ preorder second
preorder-joined no_trees second = refl
preorder-joined (tree root below after) second =
    ap (λ (segments : List Segment). root ∷ segments)
    (ap (λ (segments : List Segment). preorder below ++ segments) (preorder-joined after second)
    ∙ sym (append_assoc (preorder below) (preorder after) (preorder second)))

-- a change of each segment changes each in the list of all
pub preorder-map_nodes : (change : Segment → Segment) (forest : Forest) → preorder (map_nodes change forest) ≡ map change (preorder forest)
preorder-map_nodes change no_trees = refl
preorder-map_nodes change (tree root below after) =
    ap (λ (segments : List Segment). change root ∷ segments)
    (ap (λ (segments : List Segment). segments ++ preorder (map_nodes change after)) (preorder-map_nodes change below)
    ∙ ap (λ (segments : List Segment). map change (preorder below) ++ segments) (preorder-map_nodes change after)
    ∙ sym (map-append change (preorder below) (preorder after)))

-- a change of each segment of two forests changes each of them
pub map_nodes-joined : (change : Segment → Segment) (first second : Forest) →
    map_nodes change (joined first second) ≡ joined (map_nodes change first) (map_nodes change second)
map_nodes-joined change no_trees second = refl
map_nodes-joined change (tree root below after) second = ap (tree (change root) (map_nodes change below)) (map_nodes-joined change after second)

-- segments that go leave each of two forests
pub without-joined : (goes : Segment → Bool) (first second : Forest) → without goes (joined first second) ≡ joined (without goes first) (without goes second)
without-joined goes no_trees second = refl
without-joined goes (tree root below after) second =
    rw (without-joined goes after second) (moved (goes root))
  where
    moved : (b : Bool) → cond b (joined (without goes after) (without goes second))
        (tree root (without goes below) (joined (without goes after) (without goes second)))
        ≡ joined (cond b (without goes after) (tree root (without goes below) (without goes after))) (without goes second)
    moved true = refl
    moved false = refl

-- the roots of two forests are those of the first, and then those of the second
pub roots-joined : (first second : Forest) → roots (joined first second) ≡ roots first ++ roots second
roots-joined no_trees second = refl
roots-joined (tree root below after) second = ap (λ (segments : List Segment). root ∷ segments) (roots-joined after second)

-- the segments of a type in two lists are those of both
pub count_of-append : (type : ℕ) (first second : List Segment) → count_of type (first ++ second) ≡ count_of type first + count_of type second
count_of-append type [] second = omega arith
count_of-append type (segment ∷ segments) second =
    counted (segment.type == type) (count_of-append type segments second)
  where
    counted : (b : Bool) → count_of type (segments ++ second) ≡ count_of type segments + count_of type second →
        cond b (suc (count_of type (segments ++ second))) (count_of type (segments ++ second))
        ≡ cond b (suc (count_of type segments)) (count_of type segments) + count_of type second
    counted true same = omega arith
    counted false same = same

-- what holds of the segments of two forests holds of both joined
pub AllNodes-joined : (P : Segment → Type 0) (first second : Forest) → AllNodes P first → AllNodes P second → AllNodes P (joined first second)
AllNodes-joined P no_trees second here there = there
AllNodes-joined P (tree root below after) second here there = (here.0, here.1, AllNodes-joined P after second here.2 there)

-- and what holds of both joined holds of each
pub AllNodes-parts : (P : Segment → Type 0) (first second : Forest) → AllNodes P (joined first second) → AllNodes P first × AllNodes P second
AllNodes-parts P no_trees second all = (tt, all)
AllNodes-parts P (tree root below after) second all =
    let parts = AllNodes-parts P after second all.2 in ((all.0, all.1, parts.0), parts.1)

-- what follows of each segment follows of all
pub AllNodes-weaker : (P Q : Segment → Type 0) (forest : Forest) → ((segment : Segment) → P segment → Q segment) → AllNodes P forest → AllNodes Q forest
AllNodes-weaker P Q no_trees follows all = tt
AllNodes-weaker P Q (tree root below after) follows all =
    (follows root all.0, AllNodes-weaker P Q below follows all.1, AllNodes-weaker P Q after follows all.2)

-- what holds of each changed segment holds of all of the changed forest
pub AllNodes-map_nodes : (P : Segment → Type 0) (change : Segment → Segment) (forest : Forest) → AllNodes (λ segment. P (change segment)) forest →
    AllNodes P (map_nodes change forest)
AllNodes-map_nodes P change no_trees all = tt
AllNodes-map_nodes P change (tree root below after) all =
    (all.0, AllNodes-map_nodes P change below all.1, AllNodes-map_nodes P change after all.2)

without-kept : (P : Segment → Type 0) (goes : Bool) (root : Segment) (below after : Forest) → (goes ≡ false → P root) → AllNodes P below → AllNodes P after →
    AllNodes P (cond goes after (tree root below after))
without-kept P true root below after here under behind = behind
without-kept P false root below after here under behind = (here refl, under, behind)

-- the segments that stay are those of which the test says no
pub AllNodes-without : (goes : Segment → Bool) (forest : Forest) → AllNodes (λ segment. goes segment ≡ false) (without goes forest)
AllNodes-without goes no_trees = tt
AllNodes-without goes (tree root below after) =
    without-kept (λ segment. goes segment ≡ false) (goes root) root (without goes below) (without goes after) (λ stays. stays)
    (AllNodes-without goes below) (AllNodes-without goes after)

-- and what held of them holds
pub AllNodes-without_kept : (P : Segment → Type 0) (goes : Segment → Bool) (forest : Forest) → AllNodes P forest → AllNodes P (without goes forest)
AllNodes-without_kept P goes no_trees all = tt
AllNodes-without_kept P goes (tree root below after) all =
    without-kept P (goes root) root (without goes below) (without goes after) (λ _. all.0)
    (AllNodes-without_kept P goes below all.1) (AllNodes-without_kept P goes after all.2)
