-- What one more record of the log does to the tables.
use Rattle.std.specs.Prelude.{◌≡◌, List, [], ◌∷◌, ◌++◌}
use Rattle.ale_base.specs.Tid.{TidOf}
use Rattle.ale_base.specs.declared.mark.Mark.TheVariants.{Sysfail}
use Rattle.ale_base.specs.declared.way.Way.TheVariants.{Outgoing, Incoming}
use Rattle.unit_core.specs.declared.ale_unit.AleUnit.{AleUnit}
use Rattle.unit_core.specs.declared.records.Record.{Record}
use Rattle.unit_core.specs.declared.records.Record.TheVariants.{Commit, Dispatch, Mark, Done, Ended, Accept, Execute, Direct, Fail, Forget, Stop, Start, Retry}
use Rattle.tid_table.specs.Tids.{Enters, Forgets}
use Rattle.plain_queues.specs.Queues.{QueuesOf}
use Rattle.plain_queues.specs.Changes.{added, marked, finished, retried, Stops, Starts}
use Rattle.plain_queues.specs.LogQueues.{keys_of, added_all}
use Rattle.system_tables.specs.Tables.{TablesOf}

-- the outbound queues: the units of a Commit or a Dispatch join them, the one of a Done goes, the one of a Mark is marked, and what an
-- operator does to outbound queues is done; every other record leaves them
abbrev pub NotedOutgoing : Record → List AleUnit → QueuesOf → QueuesOf → Type 0
NotedOutgoing (Commit origin docs) more before after = after ≡ added_all Outgoing more before
NotedOutgoing Dispatch more before after = after ≡ added_all Outgoing more before
NotedOutgoing (Done tid) more before after = after ≡ finished tid before
NotedOutgoing (Mark tid cause) more before after = after ≡ marked cause tid before
NotedOutgoing (Stop Outgoing destination name) more before after = Stops (record { partner = destination; name = name }) before after
NotedOutgoing (Start Outgoing destination name) more before after = Starts (record { partner = destination; name = name }) before after
NotedOutgoing (Retry Outgoing tid) more before after = after ≡ retried tid before
NotedOutgoing _ more before after = after ≡ before

-- the inbound queues: the unit of an Accept joins them, the one of an Execute goes, the one of a Fail is marked, and what an operator
-- does to inbound queues is done; every other record leaves them. The unit of a Direct never joins: it was executed at once
abbrev pub NotedIncoming : Record → QueuesOf → QueuesOf → Type 0
NotedIncoming (Accept unit) before after = after ≡ added unit.tid (keys_of Incoming unit) before
NotedIncoming (Execute tid) before after = after ≡ finished tid before
NotedIncoming (Fail tid) before after = after ≡ marked Sysfail tid before
NotedIncoming (Stop Incoming destination name) before after = Stops (record { partner = destination; name = name }) before after
NotedIncoming (Start Incoming destination name) before after = Starts (record { partner = destination; name = name }) before after
NotedIncoming (Retry Incoming tid) before after = after ≡ retried tid before
NotedIncoming _ before after = after ≡ before

-- the ids that were received, in the order of receipt: that of an Accept or a Direct joins them at the end
abbrev pub NotedReceived : Record → List TidOf → List TidOf → Type 0
NotedReceived (Accept unit) before after = after ≡ before ++ unit.tid ∷ []
NotedReceived (Direct unit) before after = after ≡ before ++ unit.tid ∷ []
NotedReceived _ before after = after ≡ before

-- the ids that were received and not forgotten: that of an Accept or a Direct is one from now on, that of a Forget is none any more
abbrev pub NotedSeen : Record → List TidOf → List TidOf → Type 0
NotedSeen (Accept unit) before after = Enters unit.tid before after
NotedSeen (Direct unit) before after = Enters unit.tid before after
NotedSeen (Forget tid) before after = Forgets tid before after
NotedSeen _ before after = after ≡ before

-- the ids that are done and not ended: that of a Done is one from now on, that of an Ended is none any more
abbrev pub NotedUnconfirmed : Record → List TidOf → List TidOf → Type 0
NotedUnconfirmed (Done tid) before after = Enters tid before after
NotedUnconfirmed (Ended tid) before after = Forgets tid before after
NotedUnconfirmed _ before after = after ≡ before

-- a record is noted, which commits these units: each table is told of it, and the units stay, since they were entered before. The
-- application's tables are those of the longer log where what was made for it goes with them and the log before
pub record Noted {A : Type 0} (stands goes : A → List Record → Type 0) (next : Record) (more : List AleUnit) (before after : TablesOf A) : Type 0 where
  pub units : after.units ≡ before.units
  pub received : NotedReceived next before.received after.received
  pub seen : NotedSeen next before.seen after.seen
  pub unconfirmed : NotedUnconfirmed next before.unconfirmed after.unconfirmed
  pub outgoing : NotedOutgoing next more before.outgoing after.outgoing
  pub incoming : NotedIncoming next before.incoming after.incoming
  pub application : (log : List Record) → stands before.application log → goes before.application log → stands after.application (log ++ next ∷ [])
