-- The claims of a world, as the tables of its systems know them: by kind, system and unit.
use Rattle.std.specs.Prelude.{◌≡◌, ℕ, ◌-◌, ◌==◌, Bool, true, false, ◌&&◌, Option, Some, None, List, length, take, find}
use Rattle.std.specs.Option.{option_map}
use Rattle.ale_base.specs.Tid.{TidOf, is_tid}
use Rattle.ale_base.specs.declared.way.Way.{Way}
use Rattle.ale_base.specs.declared.way.Way.TheVariants.{Outgoing, Incoming}
use Rattle.plain_queues.specs.Queues.{QueuesOf}
use Rattle.plain_queues.specs.Changes.{claimed, released}
use Rattle.trfc_protocol.specs.declared.world.World.{World}
use Rattle.trfc_protocol.specs.declared.held.Held.{Held}
use Rattle.trfc_protocol.specs.declared.held.HeldKind.{HeldKind}
use Rattle.trfc_protocol.specs.declared.held.HeldKind.TheVariants.{Out, In, Direct}
use Rattle.trfc_protocol.specs.Worlds.{is_kind}
use Rattle.system_tables.specs.Tables.{TablesOf, with_queues}

-- whether a claim is of this kind, and holds the unit of this id at this system
abbrev pub is_at : HeldKind → ℕ → TidOf → Held → Bool
is_at kind system tid held = is_kind held.kind kind && (held.system == system) && is_tid held.tid tid

-- the number of the claim of this kind on the unit of this id at this system
abbrev pub claim_at : HeldKind → ℕ → List Held → TidOf → Option ℕ
claim_at kind system claims tid = option_map (λ (held : Held). held.number) (find (is_at kind system tid) claims)

-- the kind of a claim on a unit that waits in the queues of a direction
abbrev pub kind_of : Way → HeldKind
kind_of Outgoing = Out
kind_of Incoming = In

-- the claim of a kind on a unit at a system is this one from now on, or there is none; every other one is as before
pub record IsClaimed (held : Held) (number : Option ℕ) (claims after : List Held) : Type 0 where
  pub its : (tid : TidOf) → is_tid tid held.tid ≡ true → claim_at held.kind held.system after tid ≡ number
  pub others : (kind : HeldKind) (system : ℕ) (tid : TidOf) → is_at kind system tid held ≡ false
      → claim_at kind system after tid ≡ claim_at kind system claims tid

-- queues in which the claim on a unit is this one, or is given up
abbrev pub queues_claimed : Option ℕ → TidOf → QueuesOf → QueuesOf
queues_claimed (Some number) tid queues = claimed number tid queues
queues_claimed None tid queues = released tid queues

-- the tables of a system in which the claim of a kind on a unit is this one, or is given up; a unit that is run as it arrives is in
-- no queue
abbrev pub tables_claimed : {A : Type 0} → HeldKind → TidOf → Option ℕ → TablesOf A → TablesOf A
tables_claimed Out tid number tables = with_queues Outgoing (queues_claimed number tid tables.outgoing) tables
tables_claimed In tid number tables = with_queues Incoming (queues_claimed number tid tables.incoming) tables
tables_claimed Direct tid number tables = tables

-- the world before the claim that was made last: it is gone, and its number is the next one again
abbrev pub without_last_claim : {R : Type 0} → World R → World R
without_last_claim world = record world { claims = take (length world.claims - 1) world.claims; next_number = world.next_number - 1 }
