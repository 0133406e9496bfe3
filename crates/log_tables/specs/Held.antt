-- The claim that a record ends, which is made just before it is noted.
use Rattle.std.specs.Prelude.{◌≡◌, ℕ, ⊤, true, Option, Some, None, cond}
use Rattle.ale_base.specs.Tid.{TidOf, is_tid}
use Rattle.ale_base.specs.declared.way.Way.{Way}
use Rattle.ale_base.specs.declared.way.Way.TheVariants.{Outgoing, Incoming}
use Rattle.unit_core.specs.declared.records.Record.{Record}
use Rattle.unit_core.specs.declared.records.Record.TheVariants.{Mark, Done, Execute, Fail}
use Rattle.plain_queues.specs.Queues.{QueuesOf}
use Rattle.plain_queues.specs.Offered.{is_free}
use Rattle.plain_queues.specs.Changes.{claimed}
use Rattle.system_tables.specs.Tables.{TablesOf}
use Rattle.log_tables.specs.OfLog.{no_claims}

-- the unit whose claim a record ends is free in the queues of a direction
abbrev pub IsFreeFor : Way → Record → QueuesOf → Type 0
IsFreeFor Outgoing (Done tid) queues = is_free tid queues ≡ true
IsFreeFor Outgoing (Mark tid cause) queues = is_free tid queues ≡ true
IsFreeFor Incoming (Execute tid) queues = is_free tid queues ≡ true
IsFreeFor Incoming (Fail tid) queues = is_free tid queues ≡ true
IsFreeFor way _ queues = ⊤

-- queues in which the unit whose claim a record ends is claimed
abbrev pub held_queues : Way → Record → QueuesOf → QueuesOf
held_queues Outgoing (Done tid) queues = claimed 0 tid queues
held_queues Outgoing (Mark tid cause) queues = claimed 0 tid queues
held_queues Incoming (Execute tid) queues = claimed 0 tid queues
held_queues Incoming (Fail tid) queues = claimed 0 tid queues
held_queues way _ queues = queues

-- tables with that claim
abbrev pub held : {A : Type 0} → Record → TablesOf A → TablesOf A
held next tables = record tables { outgoing = held_queues Outgoing next tables.outgoing; incoming = held_queues Incoming next tables.incoming }

-- the claim on the unit of an id, and no other
abbrev pub one_claim : TidOf → TidOf → Option ℕ
one_claim tid other = cond (is_tid other tid) (Some 0) None

-- the claims of a direction with the one that a record ends
abbrev pub claims_held : Way → Record → TidOf → Option ℕ
claims_held Outgoing (Done tid) = one_claim tid
claims_held Outgoing (Mark tid cause) = one_claim tid
claims_held Incoming (Execute tid) = one_claim tid
claims_held Incoming (Fail tid) = one_claim tid
claims_held way _ = no_claims
