-- The entries above an entry of an IDoc type: there are as many as its level tells, and no more than there may be.
use Rattle.std.specs.Prelude.{if◌then◌else◌, nat_eq, slice_get}
use Rattle.std.specs.List.{IsDistinct}
use Rattle.std.specs.Option.{option_and_then, option_map, SomeIff}
use Rattle.std.proofs.Common.{◌≡◌, ℕ, zero, suc, ◌+◌, ◌-◌, ◌<◌, ◌≤◌, ◌==◌, Bool, true, false, Option}
use Rattle.std.proofs.Common.{Some, None, List, [], ◌∷◌, length, map, take, refl, sym, ap, subst, ◌∙◌, arith}
use Rattle.std.proofs.lemmas.Bool.{cond-false, cond-true, eq-eqb}
use Rattle.std.proofs.lemmas.Option.{same_Some, slice_get-map, slice_get_within}
use Rattle.ale_base.proofs.ListLemmas.{AllByRecursion-at}
use Rattle.ale_base.proofs.OptionLemmas.{option_map-Some}
use Rattle.segment_defs.specs.declared.idoc_type.TypePlace.{TypePlace}
use Rattle.segment_defs.specs.declared.limits.TheConstants.{MOST_LEVELS}
use Rattle.segment_defs.specs.IdocType.{IsPreorder, entry_of, parent_of, path_behind, path_of, place_in, type_above, upward_from}
use Rattle.segment_defs.proofs.IdocTypeLemmas.{above_before, parent-before}
use Rattle.segment_defs.proofs.TypeRuleLemmas.{IsUpward, walk-begins}

-- what begins a preorder is one
front-preorder : (place count : ℕ) (before : List ℕ) (entries : List TypePlace) → IsPreorder place before entries → IsPreorder place before (take count entries)
front-preorder place zero before entries ordered = tt
front-preorder place (suc count) before [] ordered = tt
front-preorder place (suc count) before (entry ∷ entries) ordered =
    (ordered.0, ordered.1, front-preorder (suc place) count (path_of place entry.parent before) entries ordered.2)

-- no path of a preorder is longer than there may be levels
front-short : (from place : ℕ) (before : List ℕ) (entries : List TypePlace) → IsPreorder from before entries → place < length entries
    → length (path_behind from before (take (suc place) entries)) ≤ MOST_LEVELS
front-short from place before [] ordered within = absurd (omega arith)
front-short from zero before (entry ∷ entries) ordered within = ordered.1
front-short from (suc place) before (entry ∷ entries) ordered within =
    front-short (suc from) place (path_of from entry.parent before) entries ordered.2 (omega arith)

-- an entry of the front of some entries is theirs
front-entry : (count place : ℕ) (entries : List TypePlace) (entry : TypePlace)
    → slice_get (take count entries) place ≡ Some entry → slice_get entries place ≡ Some entry
front-entry zero place entries entry here = absurd (cc)
front-entry (suc count) place [] entry here = absurd (cc)
front-entry (suc count) zero (first ∷ entries) entry here = here
front-entry (suc count) (suc place) (first ∷ entries) entry here = front-entry count place entries entry here

-- so a path upwards in the front is one in all
front-upward : (count end : ℕ) (entries : List TypePlace) (path : List ℕ) → IsUpward (take count entries) end path → IsUpward entries end path
front-upward count end entries [] up = tt
front-upward count end entries (place ∷ path) up =
    (up.0, (up.1.0, front-entry count place entries up.1.0 up.1.1, up.1.2), front-upward count place entries path up.2)

front-length : (entries : List TypePlace) (place : ℕ) → place < length entries → length (take (suc place) entries) ≡ suc place
front-length [] place within = absurd (omega arith)
front-length (entry ∷ entries) zero within = refl
front-length (entry ∷ entries) (suc place) within = ap suc (front-length entries place (omega arith))

-- two paths upwards from one entry are one
same-upward : (entries : List TypePlace) (end other : ℕ) (path second : List ℕ) → IsUpward entries end path → IsUpward entries other second
    → slice_get path 0 ≡ slice_get second 0 → path ≡ second
same-upward entries end other [] [] up also first = refl
same-upward entries end other [] (place ∷ second) up also first = absurd (cc)
same-upward entries end other (place ∷ path) [] up also first = absurd (cc)
same-upward entries end other (place ∷ path) (again ∷ second) up also first =
    let same : place ≡ again = same_Some place again first in
    let entry : up.1.0 ≡ also.1.0 = same_Some up.1.0 also.1.0 (sym up.1.1 ∙ ap (slice_get entries) same ∙ also.1.1) in
    let next : slice_get path 0 ≡ slice_get second 0 = sym up.1.2 ∙ ap (λ (e : TypePlace). e.parent) entry ∙ also.1.2 in
    ap (λ (p : ℕ). p ∷ path) same ∙ ap (λ (ps : List ℕ). again ∷ ps) (same-upward entries place again path second up.2 also.2 next)

-- a place of a list has an entry
slice_get_none : {A : Type 0} (xs : List A) (place : ℕ) → place < length xs → slice_get xs place ≡ None → ⊥
slice_get_none [] place within none = absurd (omega arith)
slice_get_none (x ∷ xs) zero within none = cc
slice_get_none (x ∷ xs) (suc place) within none = slice_get_none xs place (omega arith) none

-- a path upwards from an entry, of so many entries
pub record HasLevel (entries : List TypePlace) (level place : ℕ) : Type 0 where
  pub path : List ℕ
  pub up : IsUpward entries (suc place) path
  pub first : slice_get path 0 ≡ Some place
  pub long : length path ≡ level

-- a part of a path is no longer than it
upward-shorter : (place : ℕ) (path : List ℕ) → length (upward_from place path) ≤ length path
upward-shorter place [] = omega arith
upward-shorter place (other ∷ path) = by_test (other == place) (upward-shorter place path)
  where
    by_test : (b : Bool) → length (upward_from place path) ≤ length path → length (if b then other ∷ path else upward_from place path) ≤ suc (length path)
    by_test true rest = omega arith
    by_test false rest = omega arith

-- the part from the first entry is the whole
upward-whole : (place : ℕ) (path : List ℕ) → slice_get path 0 ≡ Some place → upward_from place path ≡ path
upward-whole place [] first = absurd (cc)
upward-whole place (other ∷ path) first =
    cond-true (other == place) (other ∷ path) (upward_from place path) (eq-eqb other place (same_Some other place first))

-- each entry has a level, and none is too deep
own-level : (entries : List TypePlace) (place : ℕ) → IsPreorder 0 [] entries → place < length entries
    → (level : ℕ) × HasLevel entries level place × (level ≤ MOST_LEVELS)
own-level entries place ordered within =
    let front = take (suc place) entries in
    let whole = path_behind 0 [] front in
    let count : length front ≡ suc place = front-length entries place within in
    let last : SomeIff (Some place) (1 ≤ length front) (length front - 1) = (omega arith, omega arith) in
    let walk = walk-begins front place (Some place) (front-preorder 0 (suc place) [] entries ordered) last in
    let long : length walk.path ≡ length (upward_from place whole) = ap length (sym (upward-whole place walk.path (sym walk.next))) ∙ walk.right in (
      length walk.path,
      record {
        path = walk.path;
        up = front-upward (suc place) (suc place) entries walk.path (subst (λ (end : ℕ). IsUpward front end walk.path) count walk.up);
        first = sym walk.next;
        long = refl;
      },
      omega (arith, long, upward-shorter place whole, front-short 0 place [] entries ordered within),
    )

-- a level that an entry has is not too deep
pub level-most : (entries : List TypePlace) (level place : ℕ) → IsPreorder 0 [] entries
    → HasLevel entries level place → place < length entries → level ≤ MOST_LEVELS
level-most entries level place ordered has within =
    let own = own-level entries place ordered within in
    let same : has.path ≡ own.1.path = same-upward entries (suc place) (suc place) has.path own.1.path has.up own.1.up (has.first ∙ sym own.1.first) in
    omega (arith, has.long, ap length same, own.1.long, own.2)

-- where no type has two entries, the place of a type is that of its entry
place-own : (entries : List TypePlace) (place : ℕ) (entry : TypePlace)
    → IsDistinct nat_eq (map (λ entry. entry.segment) entries) → slice_get entries place ≡ Some entry
    → place_in entries entry.segment ≡ place
unfolding IsDistinct
place-own [] place entry apart here = absurd (cc)
place-own (first ∷ entries) zero entry apart here =
    cond-true (first.segment == entry.segment) 0 (suc (place_in entries entry.segment))
    (eq-eqb first.segment entry.segment (ap (λ e. e.segment) (same_Some first entry here)))
place-own (first ∷ entries) (suc place) entry apart here =
    let named : slice_get (map (λ (e : TypePlace). e.segment) entries) place ≡ Some entry.segment
    = slice_get-map (λ (e : TypePlace). e.segment) entries place ∙ ap (option_map (λ (e : TypePlace). e.segment)) here in
    cond-false (first.segment == entry.segment) 0 (suc (place_in entries entry.segment))
    (AllByRecursion-at (λ other. nat_eq first.segment other ≡ false) (map (λ e. e.segment) entries) place entry.segment apart.0 named)
    ∙ ap suc (place-own entries place entry apart.1 here)

-- a path with an entry before it whose parent begins it
longer-upward : (entries : List TypePlace) (place above : ℕ) (path : List ℕ) → above < place → IsUpward entries (suc above) path → slice_get path 0 ≡ Some above
    → IsUpward entries place path
longer-upward entries place above [] less up first = absurd (cc)
longer-upward entries place above (other ∷ path) less up first =
    let same : other ≡ above = same_Some other above first in
    (omega arith, up.1, up.2)

module _ (entries : List TypePlace) (ordered : IsPreorder 0 [] entries) (apart : IsDistinct nat_eq (map (λ entry. entry.segment) entries)) where
  -- a type has a level where its entry has one
  abbrev pub TypeHasLevel : ℕ → ℕ → Type 0
  TypeHasLevel level type = HasLevel entries level (place_in entries type) × (place_in entries type < length entries)

  -- a type at the root level has level 1
  pub root-level : (type : ℕ) → parent_of entries type ≡ Some None → TypeHasLevel 1 type
  root-level type is =
      let own = option_map-Some (type_above entries) (entry_of entries type) None is in
      let within = slice_get_within entries (place_in entries type) own.0 own.1 in (
        record {
          path = place_in entries type ∷ [];
          up = (omega arith, (own.0, own.1, bare own.0 own.1 own.2), tt);
          first = refl;
          long = refl;
        },
        within,
      )
    where
      bare : (entry : TypePlace) → slice_get entries (place_in entries type) ≡ Some entry → type_above entries entry ≡ None → entry.parent ≡ None
      bare entry here none = of_parent entry.parent refl none
        where
          of_entry : (parent : ℕ) (o : Option TypePlace) → slice_get entries parent ≡ o → parent < length entries
              → option_map (λ (e : TypePlace). e.segment) o ≡ None → ⊥
          of_entry parent None there within none = slice_get_none entries parent within there
          of_entry parent (Some above) there within none = cc

          of_parent : (o : Option ℕ) → entry.parent ≡ o
              → option_and_then (λ place. option_map (λ (e : TypePlace). e.segment) (slice_get entries place)) o ≡ None
              → entry.parent ≡ None
          of_parent None child none = child
          of_parent (Some parent) child none =
              let less : parent < 0 + place_in entries type = parent-before entries 0 [] (place_in entries type) entry parent ordered tt here child in
              let within = slice_get_within entries (place_in entries type) entry here in
              absurd (of_entry parent (slice_get entries parent) refl (omega arith) none)

  -- a type below another one is one level deeper
  pub next-level : (level type above : ℕ) → TypeHasLevel level above → parent_of entries type ≡ Some (Some above) → TypeHasLevel (suc level) type
  next-level level type above has is =
      let own = option_map-Some (type_above entries) (entry_of entries type) (Some above) is in
      let within = slice_get_within entries (place_in entries type) own.0 own.1 in
      let less = above_before entries type above ordered is in (
        record {
          path = place_in entries type ∷ has.0.path;
          up = (
            omega arith,
            (own.0, own.1, child own.0 own.2 ∙ sym has.0.first),
            longer-upward entries (place_in entries type) (place_in entries above) has.0.path less has.0.up has.0.first,
          );
          first = refl;
          long = ap suc has.0.long;
        },
        within,
      )
    where
      child : (entry : TypePlace) → type_above entries entry ≡ Some above → entry.parent ≡ Some (place_in entries above)
      child entry is = of_parent entry.parent refl is
        where
          of_parent : (o : Option ℕ) → entry.parent ≡ o
              → option_and_then (λ place. option_map (λ (e : TypePlace). e.segment) (slice_get entries place)) o ≡ Some above
              → entry.parent ≡ Some (place_in entries above)
          of_parent None child is = absurd (cc)
          of_parent (Some parent) child is =
              let found = option_map-Some (λ (e : TypePlace). e.segment) (slice_get entries parent) above is in
              child ∙ ap Some (sym (place-own entries parent found.0 apart found.1) ∙ ap (place_in entries) found.2)
