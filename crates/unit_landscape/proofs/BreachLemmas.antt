-- The logs of a world and the units of its tables, lent one by one, are those over which the exactly-once law is said.
use Rattle.std.specs.Prelude.{MatchOption, slice_get, slice_index_or, map}
use Rattle.std.specs.Borrow.{Bor}
use Rattle.std.proofs.Common.{◌≡◌, ◌↔◌, ℕ, zero, suc, Option, Some, None, List, [], ◌∷◌, length, refl, sym, ap, subst, ◌∙◌, arith}
use Rattle.std.proofs.lemmas.List.{length-map}
use Rattle.unit_core.specs.declared.ale_unit.AleUnit.{AleUnit}
use Rattle.unit_core.specs.declared.records.Record.{Record}
use Rattle.unit_core.specs.Inside.{IsLegalInside}
use Rattle.unit_core.specs.Once.{Once}
use Rattle.unit_core.specs.Systems.{AreNumbered, lent, of_system}
use Rattle.once_check.specs.declared.breach.Breach.{Breach}
use Rattle.once_check.specs.Breaches.{IsUnbroken, IsFirstBreach}
use Rattle.trfc_protocol.specs.declared.held.Held.{Held}
use Rattle.trfc_protocol.specs.declared.world.SystemState.{SystemState}
use Rattle.trfc_protocol.specs.declared.world.World.{World}
use Rattle.trfc_protocol.specs.Legal.{IsLawful}
use Rattle.trfc_protocol.specs.Meaning.{Meaning}
use Rattle.trfc_protocol.specs.Worlds.{committed_by, log_of, log_or_none, state_of}
use Rattle.trfc_protocol.proofs.InsideLemmas.{AreNumbered-legal, IsLegalInside-legal}
use Rattle.system_tables.specs.Tables.{TablesOf}
use Rattle.unit_landscape.specs.InStep.{AreInStep, AreInStepWith}
use Rattle.unit_landscape.specs.Opening.{BeginsLegal}
use Rattle.unit_landscape.specs.Breaches.{BreaksAs, KeepsOnce}

-- as many lists are lent as there are lists
pub length-lent : {A : Type 0} (lists : List (Bor (List A))) (all : List (List A)) → lent lists ≡ all → length lists ≡ length all
length-lent {A} lists all are = sym (length-map lists (λ (list : Bor (List A)). list.now)) ∙ ap length are

-- the logs of all systems, by their numbers
pub logs-by : (systems : List SystemState) (system : ℕ)
    → of_system (map (λ (state : SystemState). state.log) systems) system ≡ log_or_none (state_of systems system)
logs-by systems zero = refl
logs-by systems (suc k) = at systems k
  where
    at : (systems : List SystemState) (k : ℕ) → slice_index_or (map (λ (state : SystemState). state.log) systems) k [] ≡ log_or_none (slice_get systems k)
    at [] k = refl
    at (state ∷ systems) zero = refl
    at (state ∷ systems) (suc k) = at systems k

module _ {A : Type 0} (stands : A → List Record → Type 0) (rules : Meaning) (lawful : IsLawful rules) (systems : List SystemState) (claims : List Held)
    (tables : List (TablesOf A)) (are : AreInStep stands rules systems claims tables) where
  units-at : (committed : List Record → List AleUnit) → committed [] ≡ [] → (systems : List SystemState) (tables : List (TablesOf A)) (k : ℕ)
      → length tables ≡ length systems
      → ((state : SystemState) (its : TablesOf A) → slice_get systems k ≡ Some state → slice_get tables k ≡ Some its → its.units ≡ committed state.log)
      → slice_index_or (map (λ (its : TablesOf A). its.units) tables) k [] ≡ committed (log_or_none (slice_get systems k))
  units-at committed none [] [] k all each = sym none
  units-at committed none [] (its ∷ tables) k all each = absurd (omega (arith, all))
  units-at committed none (state ∷ systems) [] k all each = absurd (omega (arith, all))
  units-at committed none (state ∷ systems) (its ∷ tables) zero all each = each state its refl refl
  units-at committed none (state ∷ systems) (its ∷ tables) (suc k) all each = units-at committed none systems tables k (omega (arith, all)) each

  -- the units of the tables are those that each system committed
  units-by : (system : ℕ) → of_system (map (λ (its : TablesOf A). its.units) tables) system ≡ rules.committed system (log_or_none (state_of systems system))
  units-by zero = sym (lawful.nothing_at_first zero)
  units-by (suc k) = units-at (rules.committed (suc k)) (lawful.nothing_at_first (suc k)) systems tables k are.all
      (λ state its at there. (are.each k state its at there).units)

module _ {R A : Type 0} (meaning : R → Meaning) (stands : A → List Record → Type 0) (world : World R) (tables : List (TablesOf A))
    (lawful : IsLawful (meaning world.rules)) (begins : BeginsLegal meaning world) (in_step : AreInStepWith stands meaning world tables)
    (logs : List (List Record)) (units : List (List AleUnit)) (logs_are : logs ≡ map (λ (state : SystemState). state.log) world.systems)
    (units_are : units ≡ map (λ (its : TablesOf A). its.units) tables) where
  abbrev rules : Meaning
  rules = meaning world.rules

  same_logs : of_system logs ≡ log_of world
  same_logs = ap (λ (all : List (List Record)). of_system all) logs_are ∙ (λ i system. logs-by world.systems system i)

  same_units : of_system units ≡ committed_by rules world
  same_units =
      ap (λ (all : List (List AleUnit)). of_system all) units_are
      ∙ (λ i system. units-by stands rules lawful world.systems world.claims tables in_step system i)

  -- the units are numbered
  pub units-numbered : AreNumbered (of_system units)
  units-numbered = AreNumbered-legal rules (log_of world) (of_system units) lawful begins.legal (λ system. ap (λ (by : ℕ → List AleUnit). by system) same_units)

  -- the first breach of the law in lists that are lent is that of the world
  pub breaks-as : (found : Option Breach) → MatchOption found (IsUnbroken (of_system units) (of_system logs)) (IsFirstBreach (of_system units) (of_system logs))
      → BreaksAs rules world found
  breaks-as found is =
      subst (λ by. MatchOption found (IsUnbroken by (log_of world)) (IsFirstBreach by (log_of world))) same_units
      (subst (λ by. MatchOption found (IsUnbroken (of_system units) by) (IsFirstBreach (of_system units) by)) same_logs is)

  -- and there is none exactly where the world keeps the law
  pub keeps-once : (found : Option Breach)
      → (((system : ℕ) → IsLegalInside (of_system logs system)) → (found ≡ None) ↔ Once (of_system units) (of_system logs))
      → (found ≡ None) ↔ KeepsOnce rules world
  keeps-once found law =
      let inside : (system : ℕ) → IsLegalInside (log_of world system) =
      λ system. IsLegalInside-legal rules system (log_of world system) (begins.legal system) in
      subst (λ by. (found ≡ None) ↔ Once by (log_of world)) same_units
      (subst (λ by. ((system : ℕ) → IsLegalInside (by system)) → (found ≡ None) ↔ Once (of_system units) by) same_logs law inside)
