-- What noting a record asks of the tables.
use Rattle.std.specs.Prelude.{◌≡◌, ℕ, ◌≤◌, ⊤, true, Option, Some, None, List, [], ◌∷◌, length}
use Rattle.ale_base.specs.Tid.{TidOf}
use Rattle.ale_base.specs.declared.way.Way.{Way}
use Rattle.ale_base.specs.declared.way.Way.TheVariants.{Outgoing, Incoming}
use Rattle.unit_core.specs.declared.ale_unit.AleUnit.{AleUnit}
use Rattle.unit_core.specs.declared.records.Record.{Record}
use Rattle.unit_core.specs.declared.records.Record.TheVariants.{Commit, Dispatch, Mark, Done, Accept, Execute, Fail}
use Rattle.plain_queues.specs.declared.queue_key.TheConstants.{MOST_QUEUES}
use Rattle.plain_queues.specs.Keys.{keys_differ}
use Rattle.plain_queues.specs.Queues.{QueuesOf, unit_of, claim_of}
use Rattle.plain_queues.specs.Changes.{added}
use Rattle.plain_queues.specs.LogQueues.{keys_of}
use Rattle.system_tables.specs.Tables.{TablesOf}

-- a unit may be added to the queues of a direction: none of its id is there, and its queues are few and differ
pub record CanAdd (way : Way) (unit : AleUnit) (queues : QueuesOf) : Type 0 where
  pub new : unit_of unit.tid queues ≡ None
  pub few : length (keys_of way unit) ≤ MOST_QUEUES
  pub different : keys_differ (keys_of way unit) ≡ true

-- units may be added one by one
abbrev pub CanAddAll : Way → List AleUnit → QueuesOf → Type 0
CanAddAll way [] queues = ⊤
CanAddAll way (unit ∷ more) queues = CanAdd way unit queues × CanAddAll way more (added unit.tid (keys_of way unit) queues)

-- the unit of an id is claimed under the number that is handed in
pub record IsHeld (tid : TidOf) (claim : Option ℕ) (queues : QueuesOf) : Type 0 where
  pub number : ℕ
  pub given : claim ≡ Some number
  pub held : claim_of tid queues ≡ Some number

-- what a record asks of the outbound queues
abbrev pub CanNoteOutgoing : Record → List AleUnit → Option ℕ → QueuesOf → Type 0
CanNoteOutgoing (Commit origin docs) more claim queues = CanAddAll Outgoing more queues
CanNoteOutgoing Dispatch more claim queues = CanAddAll Outgoing more queues
CanNoteOutgoing (Done tid) more claim queues = IsHeld tid claim queues
CanNoteOutgoing (Mark tid cause) more claim queues = IsHeld tid claim queues
CanNoteOutgoing _ more claim queues = ⊤

-- what a record asks of the inbound queues
abbrev pub CanNoteIncoming : Record → Option ℕ → QueuesOf → Type 0
CanNoteIncoming (Accept unit) claim queues = CanAdd Incoming unit queues
CanNoteIncoming (Execute tid) claim queues = IsHeld tid claim queues
CanNoteIncoming (Fail tid) claim queues = IsHeld tid claim queues
CanNoteIncoming _ claim queues = ⊤

-- what a record asks of the tables; the claim is the one that a Done, a Mark, an Execute or a Fail ends
pub record CanNote {A : Type 0} (next : Record) (more : List AleUnit) (claim : Option ℕ) (tables : TablesOf A) : Type 0 where
  pub outgoing : CanNoteOutgoing next more claim tables.outgoing
  pub incoming : CanNoteIncoming next claim tables.incoming
