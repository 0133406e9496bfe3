-- Why each system is down.
use Rattle.std.specs.Prelude.{◌≡◌, ℕ, ◌-◌, Bool, true, false, Some, List, length, replicate, slice_set, slice_index_or, Result, Ok, Err}
use Rattle.trfc_protocol.specs.declared.world.SystemState.{SystemState}
use Rattle.trfc_protocol.specs.declared.event.Event.{Event}
use Rattle.trfc_protocol.specs.declared.event.Event.TheVariants.{Fall, Open}
use Rattle.trfc_protocol.specs.Worlds.{state_of}
use Rattle.unit_landscape.specs.declared.append_end.AppendEnd.{AppendEnd}
use Rattle.unit_landscape.specs.declared.append_end.AppendEnd.TheVariants.{Volume, Full, Before, After}
use Rattle.unit_landscape.specs.declared.cause.Cause.{Cause}
use Rattle.unit_landscape.specs.declared.cause.Cause.TheVariants.{Up, Crashed, Faulted, Overran, Short}

-- all systems are up
abbrev pub no_causes : List Cause
no_causes = replicate 16 Up

-- the causes with this one of a system
abbrev pub with_cause : List Cause → ℕ → Cause → List Cause
with_cause causes system cause = slice_set causes (system - 1) cause

-- the cause of one system
abbrev pub cause_in : List Cause → ℕ → Cause
cause_in causes system = slice_index_or causes (system - 1) Up

-- whether a system of this cause is up
abbrev pub is_of_up : Cause → Bool
is_of_up Up = true
is_of_up Crashed = false
is_of_up Faulted = false
is_of_up (Overran size) = false
is_of_up Short = false

-- there is a place for each of the 16 system numbers, and a system is down exactly where its cause says so
pub record AreCausesOf (systems : List SystemState) (causes : List Cause) : Type 0 where
  pub sixteen : length causes ≡ 16
  pub each : (system : ℕ) (state : SystemState) → state_of systems system ≡ Some state → is_of_up (cause_in causes system) ≡ state.up

-- the causes behind an append to the log of a system: where the volume failed, or memory ran out behind the record, it is down by that
abbrev pub told_by : {T : Type 0} → List Cause → ℕ → Result T AppendEnd → List Cause
told_by causes system (Ok done) = causes
told_by causes system (Err Volume) = with_cause causes system Faulted
told_by causes system (Err (Full size)) = causes
told_by causes system (Err Before) = causes
told_by causes system (Err After) = with_cause causes system Short

-- the causes behind an event: of a fall that nothing but the event asks for, and of an opening
abbrev pub causes_after : Event → List Cause → List Cause
causes_after (Fall system kept) causes = with_cause causes system Crashed
causes_after (Open system) causes = with_cause causes system Up
causes_after _ causes = causes
