-- What the IDoc type asks of the segments below one segment: their order, and how many there are of each type.
use Rattle.std.specs.Prelude.{◌≡◌, ℕ, ◌<◌, ◌≤◌, true, List, [], ◌∷◌, ◌++◌, Option, Some, None}
use Rattle.std.specs.List.{AllByRecursion}
use Rattle.segment_defs.specs.declared.idoc_type.TypePlace.{TypePlace}
use Rattle.segment_defs.specs.IdocType.{place_in, type_above}
use Rattle.idoc_tree.specs.Forest.{Segment, Forest, no_trees, tree, roots, count_of}

-- a family: the segments right below one segment, whose type is `above`, or the roots of a document, above which is none
pub record Family : Type 0 where
  pub above : Option ℕ
  pub children : List Segment

-- the families below each segment, in preorder
abbrev pub families_below : Forest → List Family
families_below no_trees = []
families_below (tree root below after) =
    record { above = Some root.type; children = roots below } ∷ (families_below below ++ families_below after)

-- a family with those below it. In that of a document's roots, number 0, the family of segment k is number k.
abbrev pub families : Option ℕ → Forest → List Family
families above forest = record { above = above; children = roots forest } ∷ families_below forest

-- the segments stand in the order of their entries
abbrev pub IsOrdered : List TypePlace → List Segment → Type 0
IsOrdered entries [] = Unit {0}
IsOrdered entries (segment ∷ segments) =
    AllByRecursion (λ other. place_in entries segment.type ≤ place_in entries other.type) segments × IsOrdered entries segments

-- the segments of a family stand in order, and none of their types occurs too often
pub record Fits (entries : List TypePlace) (family : Family) : Type 0 where
  pub ordered : IsOrdered entries family.children
  pub at_most : AllByRecursion (λ entry. count_of entry.segment family.children ≤ entry.max) entries

-- an entry is not mandatory in a family, or has enough segments there
abbrev pub Suffices : List TypePlace → Family → TypePlace → Type 0
Suffices entries family entry =
    entry.mandatory ≡ true → type_above entries entry ≡ family.above → entry.min ≤ count_of entry.segment family.children

-- no mandatory type occurs too seldom in a family
abbrev pub HasEnough : List TypePlace → Family → Type 0
HasEnough entries family = AllByRecursion (Suffices entries family) entries

-- an entry is mandatory in a family and has too few segments there
pub record Lacks (entries : List TypePlace) (family : Family) (entry : TypePlace) : Type 0 where
  pub mandatory : entry.mandatory ≡ true
  pub own : type_above entries entry ≡ family.above
  pub few : count_of entry.segment family.children < entry.min

-- A forest is valid if all its families are. How its segments hang below each other is said by `Hangs`.
pub record IsValid (entries : List TypePlace) (forest : Forest) : Type 0 where
  pub fits : AllByRecursion (Fits entries) (families None forest)
  pub enough : AllByRecursion (HasEnough entries) (families None forest)
