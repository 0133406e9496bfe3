-- The entries of an IDoc type: where those of segment types and of their parents stand.
use Rattle.std.specs.Prelude.{slice_get}
use Rattle.std.specs.List.{AllByRecursion}
use Rattle.std.specs.Option.{option_map, option_and_then}
use Rattle.std.proofs.Common.{◌≡◌, ℕ, zero, suc, ◌+◌, ◌<◌, ◌≤◌, ◌==◌, Bool, true, false, cond, Option, Some, None, List, [], ◌∷◌, length, inl, inr, refl, sym}
use Rattle.std.proofs.Common.{ap, subst, ◌∙◌, arith}
use Rattle.std.proofs.lemmas.Bool.{cases_Bool, cond-true, cond-false, eq-eqb, eqb-true}
use Rattle.std.proofs.lemmas.Option.{same_Some}
use Rattle.std.proofs.lemmas.List.Elements.{All-from_recursion, All-contains}
use Rattle.segment_defs.specs.declared.idoc_type.TypePlace.{TypePlace}
use Rattle.segment_defs.specs.IdocType.{place_in, entry_of, type_above, parent_of, upward_from, path_of, IsPreorder}
use Rattle.ale_base.proofs.OptionLemmas.{option_map-Some}
use Rattle.ale_base.proofs.ListLemmas.{AllByRecursion-weaker}

-- the first entry of a segment type is of this type
pub entry-at_place : (entries : List TypePlace) (segment : ℕ) → place_in entries segment < length entries
    → (entry : TypePlace) × (slice_get entries (place_in entries segment) ≡ Some entry) × (entry.segment ≡ segment)
entry-at_place [] segment within = absurd (omega arith)
entry-at_place (entry ∷ entries) segment within =
    let P = λ (p : ℕ). (e : TypePlace) × (slice_get (entry ∷ entries) p ≡ Some e) × (e.segment ≡ segment) in
    let place = place_in entries segment in
    elim (cases_Bool (entry.segment == segment)) [
      | inl same ↦ subst P (sym (cond-true (entry.segment == segment) 0 (suc place) same)) (entry, refl, eqb-true entry.segment segment same)
      | inr other ↦
          let there : place_in (entry ∷ entries) segment ≡ suc place = cond-false (entry.segment == segment) 0 (suc place) other in
          subst P (sym there) (entry-at_place entries segment (omega arith))
    ]

-- the first place, or one further than a place, is at most one further than a greater place
cond-least : (b : Bool) (m n : ℕ) → m ≤ n → cond b 0 (suc m) ≤ suc n
cond-least true m n least = omega arith
cond-least false m n least = omega arith

-- no entry of a segment type stands before the first one
pub place_in-least : (entries : List TypePlace) (place : ℕ) (entry : TypePlace) → slice_get entries place ≡ Some entry → place_in entries entry.segment ≤ place
place_in-least [] place entry here = cc
place_in-least (other ∷ entries) zero entry here =
    let same : other.segment ≡ entry.segment = ap (λ e. e.segment) (same_Some other entry here) in
    let first : place_in (other ∷ entries) entry.segment ≡ 0 = cond-true (other.segment == entry.segment) 0 (suc (place_in entries entry.segment))
    (eq-eqb other.segment entry.segment same) in
    omega arith
place_in-least (other ∷ entries) (suc place) entry here =
    cond-least (other.segment == entry.segment) (place_in entries entry.segment) place (place_in-least entries place entry here)

-- two segment types whose first entry is the same one are the same type
pub place_in-injective : (entries : List TypePlace) (a b : ℕ) → place_in entries a < length entries → place_in entries a ≡ place_in entries b → a ≡ b
place_in-injective entries a b within same =
    let first = entry-at_place entries a within in
    let second = entry-at_place entries b (omega arith) in
    let entry : first.0 ≡ second.0 = same_Some first.0 second.0 (sym first.1 ∙ ap (slice_get entries) same ∙ second.1) in
    sym first.2 ∙ ap (λ e. e.segment) entry ∙ second.2

-- what holds of each place of a path holds of its part from an entry upwards
upward_from-all : (P : ℕ → Type 0) (place : ℕ) (path : List ℕ) → AllByRecursion P path → AllByRecursion P (upward_from place path)
upward_from-all P place [] all = tt
upward_from-all P place (other ∷ path) all =
    elim (other == place) as (λ b. AllByRecursion P (cond b (other ∷ path) (upward_from place path))) [
      | true ↦ all
      | false ↦ upward_from-all P place path all.1
    ]

-- the path of an entry has places up to its own
path_of-below : (place : ℕ) (parent : Option ℕ) (before : List ℕ) → AllByRecursion (λ p. p < place) before →
    AllByRecursion (λ p. p < suc place) (path_of place parent before)
path_of-below place None before below = (omega arith, tt)
path_of-below place (Some parent) before below = (
  omega arith,
  upward_from-all (λ p. p < suc place) parent before
      (AllByRecursion-weaker (λ p. p < place) (λ p. p < suc place) before (λ p less. omega arith) below),
)

-- the parent of an entry stands before it
pub parent-before : (entries : List TypePlace) (from : ℕ) (before : List ℕ) (place : ℕ) (entry : TypePlace) (parent : ℕ) → IsPreorder from before entries
    → AllByRecursion (λ p. p < from) before → slice_get entries place ≡ Some entry → entry.parent ≡ Some parent → parent < from + place
parent-before [] from before place entry parent preorder below here child = cc
parent-before (other ∷ entries) from before zero entry parent preorder below here child =
    let first : other.parent ≡ Some parent = ap (λ e. e.parent) (same_Some other entry here) ∙ child in
    let less : parent < from = All-contains (λ p. p < from) before parent (All-from_recursion (λ p. p < from) before below) (preorder.0 parent first) in
    omega arith
parent-before (other ∷ entries) from before (suc place) entry parent preorder below here child =
    let less : parent < suc from + place = parent-before entries (suc from) (path_of from other.parent before) place entry parent preorder.2
    (path_of-below from other.parent before below) here child in
    omega arith

-- the type above an entry is that of the entry at its parent's place
above-place : (entries : List TypePlace) (parent : Option ℕ) (above : ℕ) →
    option_and_then (λ place. option_map (λ e. e.segment) (slice_get entries place)) parent ≡ Some above
    → (place : ℕ) × (entry : TypePlace) × (parent ≡ Some place) × (slice_get entries place ≡ Some entry) × (entry.segment ≡ above)
above-place entries None above is = cc
above-place entries (Some place) above is =
    let found = option_map-Some (λ (e : TypePlace). e.segment) (slice_get entries place) above is in
    (place, found.0, refl, found.1, found.2)

-- the first entry of the type above a segment type stands before its own
pub above_before : (entries : List TypePlace) (segment above : ℕ) → IsPreorder 0 [] entries → parent_of entries segment ≡ Some (Some above) →
    place_in entries above < place_in entries segment
above_before entries segment above preorder is =
    let own = option_map-Some (type_above entries) (entry_of entries segment) (Some above) is in
    let parent = above-place entries own.0.parent above own.2 in
    let less : parent.0 < 0 + place_in entries segment = parent-before entries 0 [] (place_in entries segment) own.0 parent.0 preorder tt own.1 parent.2 in
    let least : place_in entries parent.1.segment ≤ parent.0 = place_in-least entries parent.0 parent.1 parent.3 in
    let first : place_in entries above ≤ parent.0 = subst (λ s. place_in entries s ≤ parent.0) parent.4 least in
    omega arith
