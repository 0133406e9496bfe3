-- What a record, a claim and a fall make of a world: how many runs and executions have ended by it, and which claims it has.
use Rattle.std.specs.Prelude.{slice_get, slice_set, filter}
use Rattle.std.specs.List.{sum_by}
use Rattle.std.proofs.Common.{◌≡◌, ℕ, zero, suc, ◌+◌, ◌-◌, ◌==◌, not, Bool, true, cond, Option, Some, None, List, [], ◌∷◌, refl, sym, ap, subst, arith}
use Rattle.std.proofs.lemmas.List.Sums.{sum_by-cons, sum_by_push}
use Rattle.unit_core.specs.declared.records.Record.{Record}
use Rattle.trfc_protocol.specs.declared.world.World.{World}
use Rattle.trfc_protocol.specs.declared.world.SystemState.{SystemState}
use Rattle.trfc_protocol.specs.Worlds.{is_up, state_of, state_with, state_down, with_state, with_state_at, with_record, with_fall, one_fall_more}
use Rattle.trfc_protocol.proofs.WorldLemmas.{is_up-known}
use Rattle.unit_landscape.specs.Joining.{without_named, after_record}
use Rattle.unit_works.specs.Finished.{is_ending, endings_in, finished_in}

-- ---- sums over the systems

-- a sum over a list in which an element is replaced
sum_by-replaced : {X : Type 0} (f : X → ℕ) (xs : List X) (k : ℕ) (x y : X) → slice_get xs k ≡ Some x → sum_by f (slice_set xs k y) + f x ≡ sum_by f xs + f y
sum_by-replaced f [] k x y here = cc
sum_by-replaced f (z ∷ zs) zero x y here =
    let same : z ≡ x = cc in
    let first = sum_by-cons f y zs in
    let second = sum_by-cons f z zs in
    let third : f z ≡ f x = ap f same in
    omega (arith, first, second, third)
sum_by-replaced f (z ∷ zs) (suc k) x y here =
    let first = sum_by-cons f z (slice_set zs k y) in
    let second = sum_by-cons f z zs in
    let third = sum_by-replaced f zs k x y here in
    omega (arith, first, second, third)

replaced_at : (f : SystemState → ℕ) (systems : List SystemState) (system : ℕ) (state new : SystemState) → state_of systems system ≡ Some state
    → sum_by f (slice_set systems (system - 1) new) + f state ≡ sum_by f systems + f new
replaced_at f systems zero state new here = cc
replaced_at f systems (suc k) state new here =
    let place : suc k - 1 ≡ k = omega arith in
    subst (λ p. sum_by f (slice_set systems p new) + f state ≡ sum_by f systems + f new) (sym place) (sum_by-replaced f systems k state new here)

-- how many endings a record is
abbrev pub one_if : Bool → ℕ
one_if is = cond is 1 0

module _ {R : Type 0} (world : World R) (system : ℕ) where
  -- another state of a system adds what its log has more
  finished-state : (change : SystemState → SystemState) (more : ℕ) (state : SystemState) → state_of world.systems system ≡ Some state
      → endings_in (change state).log ≡ endings_in state.log + more → finished_in (with_state world system change) ≡ finished_in world + more
  finished-state change more state known adds =
      let first = replaced_at (λ (s : SystemState). endings_in s.log) world.systems system state (change state) known in
      let second : finished_in (with_state world system change) ≡ sum_by (λ (s : SystemState). endings_in s.log)
      (slice_set world.systems (system - 1) (change state)) =
      ap (λ found. finished_in (with_state_at world (system - 1) change found)) known in
      omega (arith, first, second, adds)

  -- the claims stay
  claims-state : (change : SystemState → SystemState) (found : Option SystemState) → (with_state_at world (system - 1) change found).claims ≡ world.claims
  claims-state change None = refl
  claims-state change (Some state) = refl

  -- a record at a system that is up
  finished-joined : (next : Record) → is_up world system ≡ true → finished_in (with_record world system next) ≡ finished_in world + one_if (is_ending next)
  finished-joined next up =
      let known = is_up-known world system up in
      finished-state (state_with next) (one_if (is_ending next)) known.0 known.1 (sum_by_push (λ r. cond (is_ending r) 1 0) (known.0).log next)

  -- with the claim that goes with it
  pub finished-record : (next : Record) (claim : Option ℕ) → is_up world system ≡ true
      → finished_in (after_record world system next claim) ≡ finished_in world + one_if (is_ending next)
  finished-record next None up = finished-joined next up
  finished-record next (Some number) up = finished-joined next up

  pub claims-record : (next : Record) (claim : Option ℕ) → (after_record world system next claim).claims ≡ (without_named world claim).claims
  claims-record next None = claims-state (state_with next) (state_of world.systems system)
  claims-record next (Some number) = ap (filter (λ held. not (held.number == number))) (claims-state (state_with next) (state_of world.systems system))

-- a system that is up falls: nothing more has ended, and there are no claims
pub finished-fall : {R : Type 0} (world : World R) (system : ℕ) (rest : Option Record) → is_up world system ≡ true
    → finished_in (with_fall world system rest) ≡ finished_in world
finished-fall {R} world system rest up =
    let bare : World R = record world { claims = []; falls = one_fall_more world.falls } in
    let known = is_up-known world system up in
    let first = finished-state bare system (state_down rest) 0 known.0 known.1 (omega arith) in
    omega (arith, first)

pub claims-fall : {R : Type 0} (world : World R) (system : ℕ) (rest : Option Record) → (with_fall world system rest).claims ≡ []
claims-fall {R} world system rest =
    claims-state (record world { claims = []; falls = one_fall_more world.falls }) system (state_down rest) (state_of world.systems system)
