-- The state of all systems, and what changes it.
use Rattle.std.specs.Prelude.{ℕ, zero, suc, ◌+◌, ◌-◌, ◌^◌, min, Bool, true, false, not, ◌==◌, ◌&&◌, Option, Some, None, List, [], ◌∷◌, ◌++◌, find, filter}
use Rattle.std.specs.Prelude.{slice_get, slice_set, take, length}
use Rattle.std.specs.List.{list_any}
use Rattle.ale_base.specs.Tid.{TidOf, is_tid}
use Rattle.unit_core.specs.declared.ale_unit.AleUnit.{AleUnit}
use Rattle.unit_core.specs.declared.records.Record.{Record}
use Rattle.unit_core.specs.Queues.{unit_named}
use Rattle.trfc_protocol.specs.declared.world.World.{World}
use Rattle.trfc_protocol.specs.declared.world.SystemState.{SystemState}
use Rattle.trfc_protocol.specs.declared.held.Held.{Held}
use Rattle.trfc_protocol.specs.declared.held.HeldKind.{HeldKind}
use Rattle.trfc_protocol.specs.declared.held.HeldKind.TheVariants.{Out, In, Direct}
use Rattle.trfc_protocol.specs.Meaning.{Meaning}

-- the state of a system; systems are numbered from 1
abbrev pub state_of : List SystemState → ℕ → Option SystemState
state_of systems zero = None
state_of systems (suc k) = slice_get systems k

-- the log of a state, and no records where there is none
abbrev pub log_or_none : Option SystemState → List Record
log_or_none (Some state) = state.log
log_or_none None = []

-- the record that a state may find, and none where there is no state
abbrev pub rest_or_none : Option SystemState → Option Record
rest_or_none (Some state) = state.rest
rest_or_none None = None

-- whether there is a state and it is up
abbrev pub up_or_not : Option SystemState → Bool
up_or_not (Some state) = state.up
up_or_not None = false

-- the log of a system
abbrev pub log_of : {R : Type 0} → World R → ℕ → List Record
log_of world system = log_or_none (state_of world.systems system)

-- whether a system is up
abbrev pub is_up : {R : Type 0} → World R → ℕ → Bool
is_up world system = up_or_not (state_of world.systems system)

-- the record that a system which is down may find at its opening
abbrev pub rest_of : {R : Type 0} → World R → ℕ → Option Record
rest_of world system = rest_or_none (state_of world.systems system)

-- a log with what was found behind it
abbrev pub log_with : List Record → Option Record → List Record
log_with log None = log
log_with log (Some next) = log ++ next ∷ []

-- the log of a state, with its rest or without
abbrev pub log_found : Bool → Option SystemState → List Record
log_found false found = log_or_none found
log_found true (Some state) = log_with state.log state.rest
log_found true None = []

-- the log of each system under a choice: with the record that it may find where the choice is so, and without elsewhere
abbrev pub log_under : {R : Type 0} → (ℕ → Bool) → World R → ℕ → List Record
log_under choice world system = log_found (choice system) (state_of world.systems system)

-- the units that a system committed; a system that the landscape does not have has no records, and so none
abbrev pub committed_by : {R : Type 0} → Meaning → World R → ℕ → List AleUnit
committed_by rules world system = rules.committed system (log_of world system)

-- the unit of this id, as its sender committed it
abbrev pub committed_unit : {R : Type 0} → Meaning → World R → TidOf → Option AleUnit
committed_unit rules world tid = unit_named tid (committed_by rules world tid.system)

-- whether a system offers a function; one that the landscape does not have offers none
abbrev pub offers_at : Meaning → ℕ → Option SystemState → List ℕ → Bool
offers_at rules system (Some state) function = rules.offers system state.log function
offers_at rules system None function = false

-- whether a system offers a function now
abbrev pub offers_now : {R : Type 0} → Meaning → World R → ℕ → List ℕ → Bool
offers_now rules world system = offers_at rules system (state_of world.systems system)

-- the state with one more record in its log
abbrev pub state_with : Record → SystemState → SystemState
state_with next state = record state { log = state.log ++ next ∷ [] }

-- the last record of a log
abbrev pub last_of : List Record → Option Record
last_of log = slice_get log (length log - 1)

-- the state without the last record of its log
abbrev pub state_without_last : SystemState → SystemState
state_without_last state = record state { log = take (length state.log - 1) state.log }

-- the state of a system that is down, with the record that it may find at its opening
abbrev pub state_down : Option Record → SystemState → SystemState
state_down rest state = record state { up = false; rest = rest }

-- the state of a system that is opened: what it may find it finds
abbrev pub state_open : SystemState → SystemState
state_open state = record { log = log_with state.log state.rest; up = true; rest = None }

-- the world with another state at a place, where a state is there
abbrev pub with_state_at : {R : Type 0} → World R → ℕ → (SystemState → SystemState) → Option SystemState → World R
with_state_at world k change None = world
with_state_at world k change (Some state) = record world { systems = slice_set world.systems k (change state) }

-- the world with another state of a system, where the landscape has it
abbrev pub with_state : {R : Type 0} → World R → ℕ → (SystemState → SystemState) → World R
with_state world system change = with_state_at world (system - 1) change (state_of world.systems system)

-- the world with one more record in the log of a system, where the landscape has it
abbrev pub with_record : {R : Type 0} → World R → ℕ → Record → World R
with_record world system next = with_state world system (state_with next)

-- the number of falls after one more; it stays at the greatest number
abbrev pub one_fall_more : ℕ → ℕ
one_fall_more falls = min (falls + 1) (2 ^ 64 - 1)

-- the world in which a system fell that was up: all claims are gone
abbrev pub with_fall : {R : Type 0} → World R → ℕ → Option Record → World R
with_fall world system rest =
    with_state (record world { claims = []; falls = one_fall_more world.falls }) system (state_down rest)

-- the world with one more claim, under the next number
abbrev pub with_claim : {R : Type 0} → World R → TidOf → ℕ → HeldKind → World R
with_claim world tid system kind =
    record world {
      claims = world.claims ++ record { number = world.next_number; tid = tid; system = system; kind = kind } ∷ [];
      next_number = world.next_number + 1;
    }

-- the world without the claim of this number
abbrev pub without_claim : {R : Type 0} → World R → ℕ → World R
without_claim world number = record world { claims = filter (λ held. not (held.number == number)) world.claims }

-- whether two kinds are the same
abbrev pub is_kind : HeldKind → HeldKind → Bool
is_kind Out Out = true
is_kind In In = true
is_kind Direct Direct = true
is_kind _ _ = false

-- whether a claim of this kind holds the unit of this id
abbrev pub is_claimed : HeldKind → TidOf → List Held → Bool
is_claimed kind tid claims = list_any (λ held. is_kind held.kind kind && is_tid held.tid tid) claims

-- the claim of this number
abbrev pub claim_of : ℕ → List Held → Option Held
claim_of number claims = find (λ held. held.number == number) claims

-- whether a claim of this kind holds the unit of this id at a system
abbrev pub is_claimed_at : HeldKind → ℕ → TidOf → List Held → Bool
is_claimed_at kind system tid claims = list_any (λ held. is_kind held.kind kind && (held.system == system) && is_tid held.tid tid) claims
