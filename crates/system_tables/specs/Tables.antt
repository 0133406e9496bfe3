-- What is seen of the tables of a system.
use Rattle.std.specs.Prelude.{ℕ, ◌-◌, ◌==◌, Option, None, List, [], ◌++◌, take, slice_get, if◌then◌else◌}
use Rattle.ale_base.specs.Tid.{TidOf}
use Rattle.ale_base.specs.declared.way.Way.{Way}
use Rattle.ale_base.specs.declared.way.Way.TheVariants.{Outgoing, Incoming}
use Rattle.unit_core.specs.declared.ale_unit.AleUnit.{AleUnit}
use Rattle.plain_queues.specs.Queues.{QueuesOf, no_queues}

-- the units that a system committed, in order; the ids that it received, in the order of receipt; those of them that it has not
-- forgotten; those that are done and not ended; its outbound and its inbound queues; and the tables of its application
pub record TablesOf (A : Type 0) : Type 0 where
  pub units : List AleUnit
  pub received : List TidOf
  pub seen : List TidOf
  pub unconfirmed : List TidOf
  pub outgoing : QueuesOf
  pub incoming : QueuesOf
  pub application : A

-- empty tables, but for those of the application
abbrev pub no_tables : {A : Type 0} → A → TablesOf A
no_tables application = record { units = []; received = []; seen = []; unconfirmed = []; outgoing = no_queues; incoming = no_queues; application = application }

-- the unit of a number, from 1
abbrev pub unit_numbered : ℕ → List AleUnit → Option AleUnit
unit_numbered number units = if number == 0 then None else slice_get units (number - 1)

-- more units are entered behind those there
abbrev pub entered : {A : Type 0} → List AleUnit → TablesOf A → TablesOf A
entered more tables = record tables { units = tables.units ++ more }

-- the first units stay, as many as these, and all other tables
abbrev pub left : {A : Type 0} → ℕ → TablesOf A → TablesOf A
left count tables = record tables { units = take count tables.units }

-- the queues of a direction
abbrev pub queues_of : {A : Type 0} → Way → TablesOf A → QueuesOf
queues_of Outgoing tables = tables.outgoing
queues_of Incoming tables = tables.incoming

-- tables with other queues in a direction
abbrev pub with_queues : {A : Type 0} → Way → QueuesOf → TablesOf A → TablesOf A
with_queues Outgoing queues tables = record tables { outgoing = queues }
with_queues Incoming queues tables = record tables { incoming = queues }
