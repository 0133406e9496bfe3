-- The lists of all systems, one by one, and units by their numbers.
use Rattle.std.specs.Prelude.{slice_get, slice_index_or, Contains}
use Rattle.std.proofs.Common.{◌≡◌, ℕ, zero, suc, ◌+◌, ◌-◌, ◌<◌, ◌≤◌, Some, List, [], ◌∷◌, ◌++◌, length, get_or, inl, inr}
use Rattle.std.proofs.Common.{refl, sym, ap, subst, ◌∙◌, arith}
use Rattle.std.proofs.lemmas.Bool.{cases_lt, false_from_ne_true}
use Rattle.std.proofs.lemmas.List.{get_or_past, length-append}
use Rattle.std.proofs.lemmas.Option.{slice_get_within, get_or_from_slice_get, slice_get-get_or, slice_get-map, slice_get_read}
use Rattle.std.specs.Borrow.{Bor}
use Rattle.std.specs.Option.{option_map}
use Rattle.ale_base.specs.Tid.{TidOf}
use Rattle.ale_base.proofs.ListLemmas.{place_of, slice_get_push}
use Rattle.ale_base.proofs.MemberLemmas.{Contains-map_back}
use Rattle.unit_core.specs.declared.ale_unit.AleUnit.{AleUnit}
use Rattle.unit_core.specs.Queues.{is_listed, tids_of}
use Rattle.unit_core.specs.Once.{NoneTwice}
use Rattle.unit_core.proofs.TidLemmas.{Contains-is_listed}
use Rattle.unit_core.specs.Systems.{of_system, lent, AreNumbered}

-- ---- the list of a system

-- of each element one thing was made
pub record AreMadeOf {A B : Type 0} (R : A → B → Type 0) (xs : List A) (made : List B) : Type 0 where
  pub all : length made ≡ length xs
  pub each : (k : ℕ) (x : A) (y : B) → slice_get xs k ≡ Some x → slice_get made k ≡ Some y → R x y

pub AreMadeOf-none : {A B : Type 0} (R : A → B → Type 0) → AreMadeOf R [] []
AreMadeOf-none R = record { all = refl; each = λ k x y at made. cc }

-- and of one element more
pub AreMadeOf-more : {A B : Type 0} (R : A → B → Type 0) (xs : List A) (made : List B) (x : A) (y : B) → AreMadeOf R xs made → R x y
    → AreMadeOf R (xs ++ x ∷ []) (made ++ y ∷ [])
AreMadeOf-more R xs made x y are new = record {
  all = length-append made (y ∷ []) ∙ ap (λ n. n + 1) are.all ∙ sym (length-append xs (x ∷ []));
  each = λ k v w at at_made. elim (slice_get_push xs x k v at) [
    | inl before ↦ elim (slice_get_push made y k w at_made) [
      | inl there ↦ are.each k v w before there
      | inr last ↦ let short : k < length xs = slice_get_within xs k v before in absurd (omega (arith, short, last.0, are.all))
    ]
    | inr last ↦ elim (slice_get_push made y k w at_made) [
      | inl there ↦ let short : k < length made = slice_get_within made k w there in absurd (omega (arith, short, last.0, are.all))
      | inr also ↦ subst (λ u. R u w) last.1 (subst (R x) also.1 new)
    ]
  ];
}

-- what holds of each list and what was made of it, and of the empty list and what stands for it, holds of those at each place
pub at_each_place : {A B : Type 0} (R : List A → B → Type 0) (lists : List (List A)) (made : List B) (nothing : B) → AreMadeOf R lists made → R [] nothing
    → (k : ℕ) → R (slice_index_or lists k []) (slice_index_or made k nothing)
at_each_place R lists made nothing are empty k =
    elim (cases_lt k (length lists)) [
      | inl within ↦ are.each k (get_or lists k []) (get_or made k nothing) (slice_get-get_or lists k [] within)
          (slice_get-get_or made k nothing (omega (arith, are.all, within)))
      | inr past ↦ subst (λ list. R list (get_or made k nothing)) (sym (get_or_past lists k [] past))
          (subst (R []) (sym (get_or_past made k nothing (omega (arith, are.all, past)))) empty)
    ]

-- the list that is lent for a system
pub list-lent : {A : Type 0} (lists : List (Bor (List A))) (system number : ℕ) (list : Bor (List A)) → number ≡ system → 1 ≤ system
    → number - 1 < length lists → list ≡ get_or lists (number - 1) list → list.now ≡ of_system (lent lists) system
list-lent lists zero number list same least within found = absurd (omega (arith, least))
list-lent {A} lists (suc k) number list same least within found =
    let place : number - 1 ≡ k = omega (arith, same) in
    let at : slice_get lists k ≡ Some list = sym (ap (slice_get lists) place) ∙ slice_get_read lists (length lists) (number - 1) list refl within found in
    sym (get_or_from_slice_get (lent lists) k list.now []
    (slice_get-map (λ (l : Bor (List A)). l.now) lists k ∙ ap (option_map (λ (l : Bor (List A)). l.now)) at))

-- ---- numbered units

-- a unit that a system committed stands at the place of its number
pub numbered-place : (committed : ℕ → List AleUnit) (system : ℕ) (unit : AleUnit) → AreNumbered committed → Contains (committed system) unit
    → (slice_get (committed system) (unit.tid.unit - 1) ≡ Some unit) × (unit.sender ≡ system) × (unit.tid.system ≡ system)
numbered-place committed system unit are has =
    let found = place_of (committed system) unit has in
    let its = are.numbered system found.0 unit found.1 in
    let number : unit.tid.unit ≡ found.0 + 1 = ap (λ (t : TidOf). t.unit) its.tid in
    let place : unit.tid.unit - 1 ≡ found.0 = omega (arith, number) in
    (ap (slice_get (committed system)) place ∙ found.1, its.sender, ap (λ (t : TidOf). t.system) its.tid)

-- numbers from so many on
numbered_from : (system n : ℕ) (units : List AleUnit)
    → ((k : ℕ) (unit : AleUnit) → slice_get units k ≡ Some unit → unit.tid ≡ record { system = system; unit = n + k + 1 }) → NoneTwice (tids_of units)
numbered_from system n [] are = tt
numbered_from system n (u ∷ us) are = (
  false_from_ne_true (is_listed u.tid (tids_of us)) (λ listed.
      let back = Contains-map_back (λ (v : AleUnit). v.tid) us u.tid (Contains-is_listed u.tid (tids_of us) listed) in
      let found = place_of us back.0 back.1 in
      let mine : u.tid.unit ≡ n + 0 + 1 = ap (λ (t : TidOf). t.unit) (are 0 u refl) in
      let its : back.0.tid.unit ≡ n + suc found.0 + 1 = ap (λ (t : TidOf). t.unit) (are (suc found.0) back.0 found.1) in
      let same : back.0.tid.unit ≡ u.tid.unit = ap (λ (t : TidOf). t.unit) back.2 in
      omega (arith, mine, its, same)),
  numbered_from system (n + 1) us (λ k v at.
      are (suc k) v at ∙ ap (λ (m : ℕ). record { system = system; unit = m }) (let e : n + suc k + 1 ≡ n + 1 + k + 1 = omega arith in e)),
)

-- no id stands twice among the units that a system committed
pub numbered-NoneTwice : (committed : ℕ → List AleUnit) (system : ℕ) → AreNumbered committed → NoneTwice (tids_of (committed system))
numbered-NoneTwice committed system are =
    numbered_from system 0 (committed system) (λ k unit at. (are.numbered system k unit at).tid
    ∙ ap (λ (m : ℕ). record { system = system; unit = m }) (let e : k + 1 ≡ 0 + k + 1 = omega arith in e))
