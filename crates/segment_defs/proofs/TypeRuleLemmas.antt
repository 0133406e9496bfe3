-- The entries above an entry of an IDoc type, and a walk upwards over them.
use Rattle.std.specs.Prelude.{Contains, slice_get}
use Rattle.std.proofs.Common.{◌≡◌, ◌↔◌, ◌⊎◌, inl, inr, ℕ, zero, suc, ◌+◌, ◌-◌, ◌<◌, ◌≤◌, Bool, true, false, cond, eqb, Option, Some, None, List, [], ◌∷◌, ◌++◌}
use Rattle.std.proofs.Common.{length, get_or, take, drop, drop-cons, refl, sym, ap, subst, ◌∙◌, add-one, arith}
use Rattle.std.specs.Option.{ForSome, SomeIff}
use Rattle.std.proofs.lemmas.Bool.{false≢true, ne_eqb}
use Rattle.std.proofs.lemmas.Bool.Decides.{Decides-eqb}
use Rattle.std.proofs.lemmas.List.{take_more, take-append-drop}
use Rattle.std.proofs.lemmas.Option.{slice_get_read, slice_get_within, same_Some}
use Rattle.segment_defs.specs.declared.idoc_type.TypePlace.{TypePlace}
use Rattle.segment_defs.specs.IdocType.{upward_from, path_of, IsPreorder}
use Rattle.segment_defs.specs.declared.limits.TheConstants.{MOST_LEVELS}
use Rattle.segment_defs.specs.IdocType.{path_behind}
use Rattle.ale_base.proofs.ListLemmas.{slice_get-first, drop-first}
use Rattle.ale_base.proofs.MemberLemmas.{Contains-cons, Contains-there}

-- how far a walk upwards has to go at most
abbrev pub left_above : Option ℕ → ℕ
left_above None = 0
left_above (Some place) = suc place

-- the entry at a place has this parent
abbrev HasParent : List TypePlace → ℕ → Option ℕ → Type 0
HasParent entries place parent = (entry : TypePlace) × (slice_get entries place ≡ Some entry) × (entry.parent ≡ parent)

-- a path upwards: the parent of each entry is the next, which stands before it, and the first stands before this place
abbrev pub IsUpward : List TypePlace → ℕ → List ℕ → Type 0
IsUpward entries end [] = Unit {0}
IsUpward entries end (place ∷ path) =
    (place < end) × HasParent entries place (slice_get path 0) × IsUpward entries place path

IsUpward-before : (entries : List TypePlace) (low high : ℕ) (path : List ℕ) → low ≤ high → IsUpward entries low path → IsUpward entries high path
IsUpward-before entries low high [] small up = tt
IsUpward-before entries low high (place ∷ path) small up = (omega (arith, up.0), up.1, up.2)

length-upward : (entries : List TypePlace) (end : ℕ) (path : List ℕ) → IsUpward entries end path → length path ≤ end
length-upward entries end [] up = omega arith
length-upward entries end (place ∷ path) up = omega (arith, up.0, length-upward entries place path up.2)

-- the part of a path from one of its entries on
upward_from-upward : (entries : List TypePlace) (end parent : ℕ) (path : List ℕ) → IsUpward entries end path → IsUpward entries end (upward_from parent path)
upward_from-upward entries end parent [] up = tt
upward_from-upward entries end parent (place ∷ path) up = elim (eqb place parent) as
    (λ same. IsUpward entries end (cond same (place ∷ path) (upward_from parent path))) [
      | true ↦ up
      | false ↦ let small : place < end = up.0 in IsUpward-before entries place end (upward_from parent path) (omega arith)
          (upward_from-upward entries place parent path up.2)
    ]

upward_from-first : (parent : ℕ) (path : List ℕ) → Contains path parent → slice_get (upward_from parent path) 0 ≡ Some parent
upward_from-first parent [] has = absurd (omega (arith, has.1))
upward_from-first parent (place ∷ path) has = (elim (eqb place parent) as
    (λ same. (eqb place parent ≡ same) → slice_get (cond same (place ∷ path) (upward_from parent path)) 0 ≡ Some parent) [
      | true ↦ λ is. ap Some ((Decides-eqb place parent).0 is)
      | false ↦ λ is. elim (Contains-cons place path parent has) [
        | inl same ↦ absurd (false≢true (sym is ∙ (Decides-eqb place parent).1 same))
        | inr later ↦ upward_from-first parent path later
      ]
    ]) refl

-- an entry is on a path exactly where a part of the path begins with it
pub upward_from-some : (parent : ℕ) (path : List ℕ) → Contains path parent → 1 ≤ length (upward_from parent path)
upward_from-some parent path has = slice_get_within (upward_from parent path) 0 parent (upward_from-first parent path has)

-- an entry above which something stands on a path is on the path
pub Contains-from_some : (parent : ℕ) (path : List ℕ) → 1 ≤ length (upward_from parent path) → Contains path parent
Contains-from_some parent [] some = absurd (omega arith)
Contains-from_some parent (place ∷ path) some = (elim (eqb place parent) as
    (λ same. (eqb place parent ≡ same) → 1 ≤ length (cond same (place ∷ path) (upward_from parent path)) → Contains (place ∷ path) parent) [
      | true ↦ λ is some. (0, omega arith, (Decides-eqb place parent).0 is)
      | false ↦ λ is some. Contains-there place path parent (Contains-from_some parent path some)
    ]) refl some

-- the path of an entry is one upwards, if that of the entry before it is
path_of-upward : (entries : List TypePlace) (place : ℕ) (before : List ℕ) (parent : Option ℕ) → HasParent entries place parent →
    ForSome parent (Contains before) → IsUpward entries place before → IsUpward entries (suc place) (path_of place parent before)
path_of-upward entries place before None here above up = (omega arith, here, tt)
path_of-upward entries place before (Some parent) here above up =
    let first = upward_from-first parent before (above parent refl) in
    (omega arith, subst (HasParent entries place) (sym first) here, upward_from-upward entries place parent before up)

path_behind-upward_at : (entries : List TypePlace) (place : ℕ) (before : List ℕ) (rest : List TypePlace) → drop place entries ≡ rest →
    IsPreorder place before rest → IsUpward entries place before → IsUpward entries (place + length rest) (path_behind place before rest)
path_behind-upward_at entries place before [] cut ordered up = IsUpward-before entries place (place + 0) before (omega arith) up
path_behind-upward_at entries place before (entry ∷ rest) cut ordered up =
    let parts = drop-first place entries rest entry cut in
    let next = path_of-upward entries place before entry.parent (entry, parts.0, refl) ordered.0 up in
    IsUpward-before entries (suc place + length rest) (place + suc (length rest)) _ (omega arith)
    (path_behind-upward_at entries (suc place) (path_of place entry.parent before) rest parts.1 ordered.2 next)

-- the path behind entries in preorder goes upward from the last one
pub path_behind-upward : (entries : List TypePlace) → IsPreorder 0 [] entries → IsUpward entries (length entries) (path_behind 0 [] entries)
path_behind-upward entries ordered =
    IsUpward-before entries (0 + length entries) (length entries) _ (omega arith) (path_behind-upward_at entries 0 [] entries refl ordered tt)

path_of-first : (place : ℕ) (parent : Option ℕ) (before : List ℕ) → slice_get (path_of place parent before) 0 ≡ Some place
path_of-first place None before = refl
path_of-first place (Some parent) before = refl

path_behind-first_at : (place : ℕ) (before : List ℕ) (entry : TypePlace) (rest : List TypePlace) → slice_get (path_behind place before (entry ∷ rest)) 0
    ≡ Some (place + length rest)
path_behind-first_at place before entry [] =
    path_of-first place entry.parent before ∙ ap Some (omega arith)
path_behind-first_at place before entry (next ∷ rest) =
    path_behind-first_at (suc place) (path_of place entry.parent before) next rest ∙ ap Some (omega arith)

-- how many entries of a path were counted from an entry upwards, with those to come
abbrev pub counted : ℕ → ℕ → List ℕ → ℕ
counted zero place path = length (upward_from place path)
counted (suc levels) place path = suc levels + length path

-- A walk is at an entry, or above all: a path upwards begins there, and what was counted is right.
pub record IsWalk (entries : List TypePlace) (place levels : ℕ) (above : Option ℕ) (whole : List ℕ) : Type 0 where
  pub path : List ℕ
  pub up : IsUpward entries (length entries) path
  pub next : above ≡ slice_get path 0
  pub fits : levels + length path ≤ length entries
  pub right : counted levels place path ≡ length (upward_from place whole)

last-first : (entries : List TypePlace) (last : Option ℕ) → SomeIff last (1 ≤ length entries) (length entries - 1) →
    last ≡ slice_get (path_behind 0 [] entries) 0
last-first [] None last = refl
last-first [] (Some place) last = absurd (omega (arith, last.0))
last-first (entry ∷ rest) None last = absurd (last (omega arith))
last-first (entry ∷ rest) (Some place) last =
    ap Some (omega (arith, last.1)) ∙ sym (path_behind-first_at 0 [] entry rest)

-- a walk over the entries upward begins at the last one, where there is one
pub walk-begins : (entries : List TypePlace) (place : ℕ) (above : Option ℕ) → IsPreorder 0 [] entries →
    SomeIff above (1 ≤ length entries) (length entries - 1) → IsWalk entries place 0 above (path_behind 0 [] entries)
walk-begins entries place above ordered last = let up = path_behind-upward entries ordered in record {
  path = path_behind 0 [] entries;
  up = up;
  next = last-first entries above last;
  fits = omega (arith, length-upward entries (length entries) (path_behind 0 [] entries) up);
  right = refl;
}

counted-more : (place levels at : ℕ) (rest : List ℕ) → (0 < levels) ⊎ (at ≡ place) → counted (suc levels) place rest ≡ counted levels place (at ∷ rest)
counted-more place zero at rest (inl some) = absurd (omega arith)
counted-more place zero at rest (inr same) = rw ((Decides-eqb at place).1 same) (omega arith)
counted-more place (suc levels) at rest why = omega arith

counted-same : (place levels at : ℕ) (rest : List ℕ) → levels ≤ 0 → (at ≡ place → ⊥) → counted levels place rest ≡ counted levels place (at ∷ rest)
counted-same place zero at rest none other = rw (ne_eqb at place other) refl
counted-same place (suc levels) at rest none other = absurd (omega arith)

left-below : (entries : List TypePlace) (at : ℕ) (path : List ℕ) → IsUpward entries at path → left_above (slice_get path 0) < left_above (Some at)
left-below entries at [] up = omega arith
left-below entries at (place ∷ path) up = omega (arith, up.0)

counted-none : (place levels : ℕ) (path : List ℕ) → None ≡ slice_get path 0 → levels ≡ counted levels place path
counted-none place zero [] none = refl
counted-none place (suc levels) [] none = omega arith
counted-none place levels (other ∷ path) none = absurd (cc)

-- what a walk has at the entry where it is
record IsAt (entries : List TypePlace) (place levels at : ℕ) (above : Option ℕ) (whole : List ℕ) : Type 0 where
  rest : List ℕ
  within : at < length entries
  up : IsUpward entries at rest
  next : above ≡ slice_get rest 0
  fits : suc (levels + length rest) ≤ length entries
  right : counted levels place (at ∷ rest) ≡ length (upward_from place whole)

module _ (entries : List TypePlace) (place levels at : ℕ) (whole : List ℕ) (above : Option ℕ) (is : above ≡ Some at)
    (walk : IsWalk entries place levels above whole) where
  split : (rest : List ℕ) × (walk.path ≡ at ∷ rest)
  split = slice_get-first walk.path at (sym walk.next ∙ is)

  -- where a walk goes on, it is at an entry of the list
  pub walk-within : at < length entries
  walk-within = let up = subst (IsUpward entries (length entries)) split.1 walk.up in up.0

  at_parent : (entry : TypePlace) → entry ≡ get_or entries at entry → (parent : Option ℕ) → parent ≡ entry.parent → IsAt entries place levels at parent whole
  at_parent entry here parent same =
      let rest = split.0 in
      let up : IsUpward entries (length entries) (at ∷ rest) = subst (IsUpward entries (length entries)) split.1 walk.up in
      let read : slice_get entries at ≡ Some entry = slice_get_read entries (length entries) at entry refl up.0 here in
      let found : up.1.0 ≡ entry = same_Some _ _ (sym up.1.1 ∙ read) in record {
        rest = rest;
        within = up.0;
        up = up.2;
        next = same ∙ ap (λ entry. entry.parent) (sym found) ∙ up.1.2;
        fits = omega (arith, walk.fits, ap length split.1);
        right = ap (counted levels place) (sym split.1) ∙ walk.right;
      }

  module _ (entry : TypePlace) (here : entry ≡ get_or entries at entry) (parent : Option ℕ) (same : parent ≡ entry.parent) where
    -- a walk that counts the entry, and goes on to its parent
    pub walk-counts : (0 < levels) ⊎ (at ≡ place) → IsWalk entries place (levels + 1) parent whole
    walk-counts why = let now = at_parent entry here parent same in rw add-one (record {
      path = now.rest;
      up = IsUpward-before entries at (length entries) now.rest (omega (arith, now.within)) now.up;
      next = now.next;
      fits = omega (arith, now.fits);
      right = counted-more place levels at now.rest why ∙ now.right;
    })

    -- a walk that passes the entry
    pub walk-passes : levels ≤ 0 → (at ≡ place → ⊥) → IsWalk entries place levels parent whole
    walk-passes none other = let now = at_parent entry here parent same in record {
      path = now.rest;
      up = IsUpward-before entries at (length entries) now.rest (omega (arith, now.within)) now.up;
      next = now.next;
      fits = omega (arith, now.fits);
      right = counted-same place levels at now.rest none other ∙ now.right;
    }

    -- a walk has fewer entries left at each step
    pub walk-smaller : left_above parent < left_above above
    walk-smaller = let now = at_parent entry here parent same in rw (is, now.next) (left-below entries at now.rest now.up)

-- a walk that ends has counted all
pub walk-ends : (entries : List TypePlace) (place levels : ℕ) (whole : List ℕ) (above : Option ℕ) → above ≡ None → IsWalk entries place levels above whole →
    levels ≡ length (upward_from place whole)
walk-ends entries place levels whole above none walk =
    counted-none place levels walk.path (sym none ∙ walk.next) ∙ walk.right

-- an entry with this parent may stand at a place behind a path
abbrev pub CanFollow : ℕ → List ℕ → Option ℕ → Type 0
CanFollow place before parent =
    ForSome parent (Contains before) × (length (path_of place parent before) ≤ MOST_LEVELS)

-- an entry with a parent can follow exactly where the walk met the parent, not too deep
pub can_follow-decided : (place parent : ℕ) (before : List ℕ) (r : Bool) →
    (r ≡ true) ↔ ((1 ≤ length (upward_from parent before)) × (length (upward_from parent before) ≤ MOST_LEVELS - 1)) →
    (r ≡ true) ↔ CanFollow place before (Some parent)
can_follow-decided place parent before r decided = (
  λ is. let small = decided.0 is in (
    λ other same. subst (Contains before) (same_Some parent other same) (Contains-from_some parent before small.0),
    omega (arith, small.1),
  ),
  λ can. decided.1 (upward_from-some parent before (can.0 parent refl), omega (arith, can.1)),
)

-- an entry that can follow some makes a preorder with them
pub IsPreorder-join : (start : ℕ) (before : List ℕ) (front : List TypePlace) (entry : TypePlace) (place : ℕ) → place ≡ start + length front →
    IsPreorder start before front → CanFollow place (path_behind start before front) entry.parent → IsPreorder start before (front ++ entry ∷ [])
IsPreorder-join start before [] entry place at ordered can =
    let here : place ≡ start = omega arith in
    let now = subst (λ place. CanFollow place before entry.parent) here can in (now.0, now.1, tt)
IsPreorder-join start before (first ∷ front) entry place at ordered can =
    (ordered.0, ordered.1, IsPreorder-join (suc start) (path_of start first.parent before) front entry place (omega (arith, at)) ordered.2 can)

IsPreorder-parts : (start : ℕ) (before : List ℕ) (front : List TypePlace) (entry : TypePlace) (behind : List TypePlace) (place : ℕ) →
    place ≡ start + length front → IsPreorder start before (front ++ entry ∷ behind) → CanFollow place (path_behind start before front) entry.parent
IsPreorder-parts start before [] entry behind place at ordered =
    let here : start ≡ place = omega arith in
    subst (λ place. CanFollow place before entry.parent) here (ordered.0, ordered.1)
IsPreorder-parts start before (first ∷ front) entry behind place at ordered =
    IsPreorder-parts (suc start) (path_of start first.parent before) front entry behind place (omega (arith, at)) ordered.2

module _ (entries : List TypePlace) (place : ℕ) (entry : TypePlace) (within : place < length entries) (here : entry ≡ get_or entries place entry) (r : Bool)
    (decided : (r ≡ true) ↔ CanFollow (length (take place entries)) (path_behind 0 [] (take place entries)) entry.parent) where
  -- an entry that can follow those before it
  pub preorder-more : r ≡ true → IsPreorder 0 [] (take place entries) → IsPreorder 0 [] (take (place + 1) entries)
  preorder-more is ordered =
      let cut : take (place + 1) entries ≡ take place entries ++ entry ∷ [] = take_more entries place entry within
      ∙ ap (λ e. take place entries ++ e ∷ []) (sym here) in
      subst (IsPreorder 0 []) (sym cut) (IsPreorder-join 0 [] (take place entries) entry (length (take place entries)) (omega arith) ordered (decided.0 is))

  -- one that cannot
  pub preorder-fails : r ≡ false → (false ≡ true) ↔ IsPreorder 0 [] entries
  preorder-fails is =
      let rest : drop place entries ≡ entry ∷ drop (suc place) entries = subst (λ e. drop place entries ≡ e ∷ drop (suc place) entries) (sym here)
      (drop-cons entries place entry within) in
      let cut : entries ≡ take place entries ++ entry ∷ drop (suc place) entries = sym (take-append-drop place entries)
      ∙ ap (λ es. take place entries ++ es) rest in (
        λ never. absurd (false≢true never),
        λ ordered. sym is ∙ decided.1 (IsPreorder-parts 0 [] (take place entries) entry (drop (suc place) entries) (length (take place entries)) (omega arith)
            (subst (IsPreorder 0 []) cut ordered)),
      )
