-- Units go their whole way where nothing holds them up.
use Rattle.std.specs.Prelude.{◌≡◌, ◌≤◌, ℕ, true, false, Some, List, []}
use Rattle.ale_base.specs.Tid.{TidOf}
use Rattle.ale_base.specs.declared.way.Way.{Way}
use Rattle.unit_core.specs.declared.ale_unit.AleUnit.{AleUnit}
use Rattle.unit_core.specs.Filters.{done_in, ended_in, executed, forgotten_in, is_marked, is_stopped, received}
use Rattle.unit_core.specs.Queues.{is_among, is_listed}
use Rattle.trfc_protocol.specs.declared.world.World.{World}
use Rattle.trfc_protocol.specs.Worlds.{committed_unit, is_up, log_of, offers_now}
use Rattle.document_state.specs.declared.model_rules.ModelRules.{ModelRules}
use Rattle.document_state.specs.Meaning.{model_meaning}
use Rattle.unit_works.specs.Wires.{letters_left}
use Rattle.unit_works.specs.Worked.{Lines}

module _ {R : Type 0} (world : World R) where
  -- no queue is stopped at any system, and no unit is marked
  pub record IsClear : Type 0 where
    pub started : (system : ℕ) (way : Way) (destination : ℕ) (name : List ℕ) → is_stopped way destination name (log_of world system) ≡ false
    pub unmarked : (system : ℕ) (way : Way) (tid : TidOf) → is_marked way tid (log_of world system) ≡ false

  -- a unit went its whole way: its receiver took it in, executed it and forgot its id, and its sender noted that it is done, and ended
  pub record IsThrough (unit : AleUnit) : Type 0 where
    pub taken_in : is_among unit.tid (received (log_of world unit.receiver)) ≡ true
    pub ran : is_listed unit.tid (executed (log_of world unit.receiver)) ≡ true
    pub done : is_listed unit.tid (done_in (log_of world unit.tid.system)) ≡ true
    pub forgotten : is_listed unit.tid (forgotten_in (log_of world unit.receiver)) ≡ true
    pub ended : is_listed unit.tid (ended_in (log_of world unit.tid.system)) ≡ true

-- all systems are up
abbrev pub AreUp : World ModelRules → Type 0
AreUp world = (system : ℕ) → 1 ≤ system → system ≤ world.rules.systems → is_up world system ≡ true

-- each unit that was committed has a function that its receiver offers
abbrev pub AreOffered : World ModelRules → Type 0
AreOffered world = (tid : TidOf) (unit : AleUnit) → committed_unit (model_meaning world.rules.systems) world tid ≡ Some unit
    → offers_now (model_meaning world.rules.systems) world unit.receiver unit.function ≡ true

-- each unit that was committed went its whole way
abbrev pub AreThrough : World ModelRules → Type 0
AreThrough world = (tid : TidOf) (unit : AleUnit) → committed_unit (model_meaning world.rules.systems) world tid ≡ Some unit → IsThrough world unit

-- no unit has a letter left, so all that is sent comes
abbrev pub NoneLeft : Lines → Type 0
NoneLeft lines = (tid : TidOf) → letters_left lines tid ≡ []
