-- When nothing is left to do.
use Rattle.std.specs.Prelude.{◌≡◌, ℕ, Bool, true, false, not, ◌&&◌, Option, Some, List}
use Rattle.std.specs.List.{list_all}
use Rattle.std.specs.Option.{option_map_or}
use Rattle.ale_base.specs.Tid.{TidOf}
use Rattle.unit_core.specs.declared.ale_unit.AleUnit.{AleUnit}
use Rattle.system_tables.specs.Tables.{unit_numbered}
use Rattle.system_tables.specs.OfLog.{is_unconfirmed}
use Rattle.trfc_protocol.specs.declared.world.World.{World}
use Rattle.trfc_protocol.specs.Meaning.{Meaning}
use Rattle.trfc_protocol.specs.Worlds.{log_of, is_up, committed_unit}
use Rattle.trfc_protocol.specs.Offered.{is_offered_outbound, is_offered_inbound}

-- nothing is left to do: no unit is offered at any system in either direction, and no unit that is done and not ended has both its
-- systems up
pub record IsQuiet {R : Type 0} (rules : Meaning) (world : World R) : Type 0 where
  pub outbound : (tid : TidOf) → is_offered_outbound rules world tid ≡ false
  pub inbound : (system : ℕ) (tid : TidOf) → is_offered_inbound world system tid ≡ false
  pub confirmed : (tid : TidOf) (unit : AleUnit) → committed_unit rules world tid ≡ Some unit → is_unconfirmed tid (log_of world tid.system) ≡ true
      → (is_up world tid.system && is_up world unit.receiver) ≡ false

-- ---- the same of one system, which private functions alone cite

-- no unit of a system that is done and not ended has both its systems up
abbrev pub AreConfirmed : {R : Type 0} → Meaning → World R → ℕ → Type 0
AreConfirmed rules world system = (tid : TidOf) (unit : AleUnit) → tid.system ≡ system → committed_unit rules world tid ≡ Some unit
    → is_unconfirmed tid (log_of world tid.system) ≡ true → (is_up world tid.system && is_up world unit.receiver) ≡ false

-- nothing is left to do at a system
pub record IsQuietAt {R : Type 0} (rules : Meaning) (world : World R) (system : ℕ) : Type 0 where
  pub outbound : (tid : TidOf) → tid.system ≡ system → is_offered_outbound rules world tid ≡ false
  pub inbound : (tid : TidOf) → is_offered_inbound world system tid ≡ false
  pub confirmed : AreConfirmed rules world system

-- whether there is a unit, and its receiver is up
abbrev pub receiver_up : {R : Type 0} → World R → Option AleUnit → Bool
receiver_up world found = option_map_or (λ (unit : AleUnit). is_up world unit.receiver) found false

-- whether none of the units of these numbers has a receiver that is up; the first number of each is not read
abbrev pub none_up : {R : Type 0} → World R → List AleUnit → List (ℕ × ℕ) → Bool
none_up world units numbers = list_all (λ (of_one : ℕ × ℕ). not (receiver_up world (unit_numbered of_one.1 units))) numbers
