-- The first unit that is offered at a system. Only private functions cite this: `ClaimedOut` and `ClaimedIn` of `Calls` say what a claim
-- is.
use Rattle.std.specs.Prelude.{◌≡◌, ◌⊎◌, ℕ, true, false, Option, Some, None}
use Rattle.ale_base.specs.Tid.{TidOf}
use Rattle.ale_base.specs.declared.way.Way.TheVariants.{Outgoing, Incoming}
use Rattle.unit_core.specs.declared.ale_unit.AleUnit.{AleUnit}
use Rattle.trfc_protocol.specs.declared.world.World.{World}
use Rattle.trfc_protocol.specs.Meaning.{Meaning}
use Rattle.trfc_protocol.specs.Worlds.{is_up, committed_unit}
use Rattle.trfc_protocol.specs.Offered.{is_offered_outbound, is_offered_inbound}
use Rattle.unit_landscape.specs.LogAnswers.{first_to_go}

-- a unit is the first that is offered outbound at a system
pub record IsFirstOut {R : Type 0} (rules : Meaning) (world : World R) (system : ℕ) (unit : AleUnit) : Type 0 where
  pub up : is_up world system ≡ true
  pub first : first_to_go rules world system Outgoing ≡ Some unit.tid
  pub offered : is_offered_outbound rules world unit.tid ≡ true
  pub here : unit.tid.system ≡ system
  pub named : committed_unit rules world unit.tid ≡ Some unit

-- the first unit that is offered outbound at a system, or none
abbrev pub IsNextOut : {R : Type 0} → Meaning → World R → ℕ → Option AleUnit → Type 0
IsNextOut rules world system None =
    (is_up world system ≡ false) ⊎ ((tid : TidOf) → tid.system ≡ system → is_offered_outbound rules world tid ≡ false)
IsNextOut rules world system (Some unit) = IsFirstOut rules world system unit

-- a unit is the first that is offered inbound at a system
pub record IsFirstIn {R : Type 0} (rules : Meaning) (world : World R) (system : ℕ) (tid : TidOf) : Type 0 where
  pub up : is_up world system ≡ true
  pub first : first_to_go rules world system Incoming ≡ Some tid
  pub offered : is_offered_inbound world system tid ≡ true

-- the first unit that is offered inbound at a system, or none
abbrev pub IsNextIn : {R : Type 0} → Meaning → World R → ℕ → Option TidOf → Type 0
IsNextIn rules world system None = (is_up world system ≡ false) ⊎ ((tid : TidOf) → is_offered_inbound world system tid ≡ false)
IsNextIn rules world system (Some tid) = IsFirstIn rules world system tid
