-- The systems of a world, and another state of one of them.
use Rattle.std.specs.Prelude.{slice_get, slice_set, slice_index_or}
use Rattle.std.proofs.Common.{◌≡◌, ◌≢◌, ℕ, zero, suc, ◌-◌, ◌≤◌, Bool, true, false, Option, Some, None, List, [], ◌∷◌, ◌++◌, length, inl, inr, ◌⊎◌, refl, sym}
use Rattle.std.proofs.Common.{ap, subst, ◌∙◌, arith}
use Rattle.std.proofs.lemmas.Bool.{cases_eq}
use Rattle.std.proofs.lemmas.List.{length-set}
use Rattle.std.proofs.lemmas.Option.{same_Some, slice_get_within}
use Rattle.ale_base.proofs.ListLemmas.{slice_get-set, slice_get-set_other}
use Rattle.unit_core.specs.declared.records.Record.{Record}
use Rattle.unit_core.proofs.OnceLemmas.{Joins}
use Rattle.trfc_protocol.specs.declared.world.World.{World}
use Rattle.trfc_protocol.specs.declared.world.SystemState.{SystemState}
use Rattle.trfc_protocol.specs.Meaning.{Meaning}
use Rattle.trfc_protocol.specs.Worlds.{state_of, log_or_none, rest_or_none, up_or_not, log_with, log_found, log_of, is_up, offers_at, offers_now, with_state_at}
use Rattle.trfc_protocol.specs.Worlds.{with_state, without_claim}

-- an element is written where it was
pub slice_set-same : {A : Type 0} (xs : List A) (k : ℕ) (x y : A) → slice_get xs k ≡ Some x → y ≡ x → slice_set xs k y ≡ xs
slice_set-same [] k x y here same = refl
slice_set-same (z ∷ zs) zero x y here same = ap (λ v. v ∷ zs) (same ∙ sym (same_Some z x here))
slice_set-same (z ∷ zs) (suc k) x y here same = ap (λ vs. z ∷ vs) (slice_set-same zs k x y here same)

-- the place of a system
pub less_one : (k : ℕ) → suc k - 1 ≡ k
less_one k = omega arith

-- a place past the end
pub get_past : {A : Type 0} (xs : List A) (k : ℕ) (d : A) → slice_get xs k ≡ None → slice_index_or xs k d ≡ d
get_past [] k d none = refl
get_past (x ∷ xs) zero d none = cc
get_past (x ∷ xs) (suc k) d none = get_past xs k d none

-- a system that is known has a place
pub state_of-set : (systems : List SystemState) (system : ℕ) (state new : SystemState) → state_of systems system ≡ Some state
    → state_of (slice_set systems (system - 1) new) system ≡ Some new
state_of-set systems zero state new known = cc
state_of-set systems (suc k) state new known = rw (less_one k) (slice_get-set systems k state new known)

-- the state of another system stays
pub state_of-set_other : (systems : List SystemState) (system other : ℕ) (state new : SystemState) → state_of systems system ≡ Some state → other ≢ system
    → state_of (slice_set systems (system - 1) new) other ≡ state_of systems other
state_of-set_other systems zero other state new known differs = cc
state_of-set_other systems (suc k) zero state new known differs = refl
state_of-set_other systems (suc k) (suc j) state new known differs =
    rw (less_one k) (slice_get-set_other systems k j new (λ same. differs (ap suc same)))

-- a system that is known has a number from 1 on
pub state_of-least : (systems : List SystemState) (system : ℕ) (state : SystemState) → state_of systems system ≡ Some state → 1 ≤ system
state_of-least systems zero state known = cc
state_of-least systems (suc k) state known = omega arith

-- and up to the number of systems
pub state_of-most : (systems : List SystemState) (system : ℕ) (state : SystemState) → state_of systems system ≡ Some state → system ≤ length systems
state_of-most systems zero state known = omega arith
state_of-most systems (suc k) state known = omega (arith, slice_get_within systems k state known)

-- a system that is up is known
up_known : (found : Option SystemState) → up_or_not found ≡ true → (state : SystemState) × (found ≡ Some state)
up_known None up = cc
up_known (Some state) up = (state, refl)

-- a state that has nothing to find has one log
pub log_found-settled : (choice : Bool) (found : Option SystemState) → rest_or_none found ≡ None → log_found choice found ≡ log_or_none found
log_found-settled false found none = refl
log_found-settled true None none = refl
log_found-settled true (Some state) none = ap (log_with state.log) none

-- what is found is the log, or the log and one record
pub log_found-cases : (choice : Bool) (found : Option SystemState)
    → (log_found choice found ≡ log_or_none found) ⊎ ((rest : Record) × (log_found choice found ≡ log_or_none found ++ rest ∷ []))
log_found-cases false found = inl refl
log_found-cases true None = inl refl
log_found-cases true (Some state) = at state.rest refl
  where
    at : (rest : Option Record) → state.rest ≡ rest
        → (log_with state.log state.rest ≡ state.log) ⊎ ((next : Record) × (log_with state.log state.rest ≡ state.log ++ next ∷ []))
    at None is = inl (ap (log_with state.log) is)
    at (Some next) is = inr (next, ap (log_with state.log) is)

module _ {R : Type 0} (world : World R) where
  -- a system that is up is known
  pub is_up-known : (system : ℕ) → is_up world system ≡ true → (state : SystemState) × (state_of world.systems system ≡ Some state)
  is_up-known system up = up_known (state_of world.systems system) up

  -- what a known system offers, by its log
  pub offers_now-known : (rules : Meaning) (system : ℕ) (state : SystemState) (function : List ℕ) → state_of world.systems system ≡ Some state
      → offers_now rules world system function ≡ rules.offers system (log_of world system) function
  offers_now-known rules system state function known =
      ap (λ found. offers_at rules system found function) known ∙ sym (ap (λ found. rules.offers system (log_or_none found) function) known)

  -- another state of a system that is not known leaves the world
  pub with_state-unknown : (system : ℕ) (change : SystemState → SystemState) → state_of world.systems system ≡ None
      → with_state world system change ≡ world
  with_state-unknown system change unknown = ap (with_state_at world (system - 1) change) unknown

  -- a claim that goes and another state come in any order
  pub without_claim-with_state : (system number : ℕ) (change : SystemState → SystemState)
      → without_claim (with_state world system change) number ≡ with_state (without_claim world number) system change
  without_claim-with_state system number change = at (state_of world.systems system)
    where
      at : (found : Option SystemState)
          → without_claim (with_state_at world (system - 1) change found) number ≡ with_state_at (without_claim world number) (system - 1) change found
      at None = refl
      at (Some state) = refl

  module _ (system : ℕ) (change : SystemState → SystemState) (state : SystemState) (known : state_of world.systems system ≡ Some state) where
    -- another state of a known system
    pub with_state-known : with_state world system change ≡ record world { systems = slice_set world.systems (system - 1) (change state) }
    with_state-known = ap (with_state_at world (system - 1) change) known

    -- the number of systems stays
    pub length-with_state : length (with_state world system change).systems ≡ length world.systems
    length-with_state = ap (λ (w : World R). length w.systems) with_state-known ∙ length-set world.systems (system - 1) (change state)

    -- the state of that system
    pub state_of-here : state_of (with_state world system change).systems system ≡ Some (change state)
    state_of-here = ap (λ (w : World R). state_of w.systems system) with_state-known ∙ state_of-set world.systems system state (change state) known

    -- the state of each other system
    pub state_of-elsewhere : (other : ℕ) → other ≢ system → state_of (with_state world system change).systems other ≡ state_of world.systems other
    state_of-elsewhere other differs =
        ap (λ (w : World R). state_of w.systems other) with_state-known
        ∙ state_of-set_other world.systems system other state (change state) known differs

    -- what holds of the state of that system, and of all others as they were, holds of each
    pub at_each_state : (P : ℕ → Option SystemState → Type 0) → P system (Some (change state))
        → ((other : ℕ) → other ≢ system → P other (state_of world.systems other))
        → (other : ℕ) → P other (state_of (with_state world system change).systems other)
    at_each_state P here elsewhere other =
        elim (cases_eq other system) [
          | inl same ↦ subst (λ s. P s (state_of (with_state world system change).systems s)) (sym same) (subst (P system) (sym state_of-here) here)
          | inr differs ↦ subst (P other) (sym (state_of-elsewhere other differs)) (elsewhere other differs)
        ]

    -- the rest of the world stays
    pub kept-with_state : ((with_state world system change).claims ≡ world.claims) × ((with_state world system change).next_number ≡ world.next_number)
        × ((with_state world system change).rules ≡ world.rules)
    kept-with_state =
        let same = with_state-known in
        (ap (λ (w : World R). w.claims) same, ap (λ (w : World R). w.next_number) same, ap (λ (w : World R). w.rules) same)

    -- a log that another state makes one record longer
    pub joins-with_state : (next : Record) → (change state).log ≡ state.log ++ next ∷ []
        → Joins (log_of world) (log_of (with_state world system change)) system next
    joins-with_state next longer = record {
      here = ap log_or_none state_of-here ∙ longer ∙ sym (ap (λ found. log_or_none found ++ next ∷ []) known);
      elsewhere = λ other differs. ap log_or_none (state_of-elsewhere other differs);
    }

    -- what is up stays so, where another state leaves it up
    pub is_up-with_state : (state.up ≡ true → (change state).up ≡ true) → (other : ℕ) → is_up world other ≡ true
        → is_up (with_state world system change) other ≡ true
    is_up-with_state stays =
        at_each_state (λ s found. is_up world s ≡ true → up_or_not found ≡ true) (λ up. stays (sym (ap up_or_not known) ∙ up)) (λ _ _ up. up)
