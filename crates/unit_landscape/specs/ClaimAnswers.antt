-- The claim on the unit that is next in a direction, by the queues of its system.
use Rattle.std.specs.Prelude.{◌≡◌, ℕ, true, Some}
use Rattle.ale_base.specs.Tid.{TidOf}
use Rattle.ale_base.specs.declared.way.Way.{Way}
use Rattle.plain_queues.specs.Offered.{first_offered, is_offered}
use Rattle.plain_queues.specs.Changes.{claimed}
use Rattle.system_tables.specs.Tables.{TablesOf, queues_of, with_queues}

-- a unit is next in a direction: it is offered, and of those that are it was added first
pub record IsNextUnit {A : Type 0} (way : Way) (tid : TidOf) (tables : TablesOf A) : Type 0 where
  pub first : first_offered (queues_of way tables) ≡ Some tid
  pub offered : is_offered tid (queues_of way tables) ≡ true

-- a unit is claimed under this number in the queues of a direction
abbrev pub IsClaimedUnit : {A : Type 0} → Way → TidOf → ℕ → TablesOf A → TablesOf A → Type 0
IsClaimedUnit way tid number before after = after ≡ with_queues way (claimed number tid (queues_of way before)) before
