-- What is known of a record that joins a legal log, and of the claims after it.
use Rattle.std.specs.Prelude.{◌≡◌, ℕ, ◌≤◌, ⊤, true, false, Option, Some, None, List, [], ◌++◌, length}
use Rattle.std.specs.List.{AllByRecursion}
use Rattle.ale_base.specs.Tid.{TidOf}
use Rattle.ale_base.specs.declared.way.Way.{Way}
use Rattle.ale_base.specs.declared.way.Way.TheVariants.{Outgoing, Incoming}
use Rattle.unit_core.specs.declared.ale_unit.AleUnit.{AleUnit}
use Rattle.unit_core.specs.declared.records.Record.{Record}
use Rattle.unit_core.specs.declared.records.Record.TheVariants.{Commit, Dispatch, Mark, Done, Accept, Execute, Direct, Fail}
use Rattle.unit_core.specs.Filters.{received, ended_in, forgotten_in}
use Rattle.unit_core.specs.Once.{NoneTwice}
use Rattle.unit_core.specs.Queues.{tids_of, is_listed, is_among, unit_named, is_outstanding, are_different}
use Rattle.plain_queues.specs.declared.queue_key.TheConstants.{MOST_QUEUES}
use Rattle.plain_queues.specs.LogQueues.{names_of, through, IsNew, Claims}

-- the queues of a unit in a direction are few, and their names differ
pub record HasQueues (way : Way) (unit : AleUnit) : Type 0 where
  pub few : length (names_of way unit) ≤ MOST_QUEUES
  pub different : are_different (names_of way unit) ≡ true

-- units are committed behind others: no id is there twice, none is done, claimed or marked, and their queues are well named
pub record Commits (committed more : List AleUnit) (log : List Record) (claims : TidOf → Option ℕ) : Type 0 where
  pub apart : NoneTwice (tids_of (committed ++ more))
  pub new : AllByRecursion (IsNew Outgoing log claims) more
  pub queues : AllByRecursion (HasQueues Outgoing) more

-- a unit is taken in that the log neither received nor forgot
pub record Takes (log : List Record) (unit : AleUnit) : Type 0 where
  pub not_received : is_among unit.tid (received log) ≡ false
  pub not_forgotten : is_listed unit.tid (forgotten_in log) ≡ false

-- a unit is taken in to wait: it is not executed, claimed or marked, and its queues are well named
pub record Accepts (log : List Record) (claims : TidOf → Option ℕ) (unit : AleUnit) : Type 0 where
  pub takes : Takes log unit
  pub new : IsNew Incoming log claims unit
  pub queues : HasQueues Incoming unit

-- a record ends the claim on an outstanding unit, whose number is handed in
pub record Ends (way : Way) (all : List AleUnit) (log : List Record) (claim : Option ℕ) (claims : TidOf → Option ℕ) (tid : TidOf) : Type 0 where
  pub unit : AleUnit
  pub named : unit_named tid all ≡ Some unit
  pub outstanding : is_outstanding (through way log) unit ≡ true
  pub number : ℕ
  pub given : claim ≡ Some number
  pub held : claims tid ≡ Some number

-- what is known of a record of the sending side: a Commit or a Dispatch alone brings units
abbrev pub JoinsSent : List AleUnit → List AleUnit → List Record → Option ℕ → (TidOf → Option ℕ) → Record → Type 0
JoinsSent committed more log claim claims (Commit origin docs) = Commits committed more log claims
JoinsSent committed more log claim claims Dispatch = Commits committed more log claims
JoinsSent committed more log claim claims (Done tid) = (more ≡ []) × Ends Outgoing committed log claim claims tid × (is_listed tid (ended_in log) ≡ false)
JoinsSent committed more log claim claims (Mark tid cause) = (more ≡ []) × Ends Outgoing committed log claim claims tid
JoinsSent committed more log claim claims _ = more ≡ []

-- what is known of a record of the receiving side
abbrev pub JoinsArrived : List Record → Option ℕ → (TidOf → Option ℕ) → Record → Type 0
JoinsArrived log claim claims (Accept unit) = Accepts log claims unit
JoinsArrived log claim claims (Direct unit) = Takes log unit
JoinsArrived log claim claims (Execute tid) = Ends Incoming (received log) log claim claims tid
JoinsArrived log claim claims (Fail tid) = Ends Incoming (received log) log claim claims tid
JoinsArrived log claim claims _ = ⊤

-- a record joins a log, which commits these units behind those before, and ends this claim
pub record Joins (committed more : List AleUnit) (log : List Record) (claim : Option ℕ) (sent arrived : TidOf → Option ℕ) (next : Record) : Type 0 where
  pub sending : JoinsSent committed more log claim sent next
  pub receiving : JoinsArrived log claim arrived next

-- the claim of an id is this one in one direction, and all others are as before
abbrev pub ClaimsBy : Way → TidOf → Option ℕ → (TidOf → Option ℕ) → (TidOf → Option ℕ) → (TidOf → Option ℕ) → (TidOf → Option ℕ) → Type 0
ClaimsBy Outgoing tid claim sent arrived sent_after arrived_after = Claims tid claim sent sent_after × (arrived_after ≡ arrived)
ClaimsBy Incoming tid claim sent arrived sent_after arrived_after = (sent_after ≡ sent) × Claims tid claim arrived arrived_after

-- the claims after a record: a Done and a Mark end one on an outgoing unit, an Execute and a Fail one on an incoming unit
abbrev pub ClaimsAfter : Record → (TidOf → Option ℕ) → (TidOf → Option ℕ) → (TidOf → Option ℕ) → (TidOf → Option ℕ) → Type 0
ClaimsAfter (Done tid) sent arrived sent_after arrived_after = ClaimsBy Outgoing tid None sent arrived sent_after arrived_after
ClaimsAfter (Mark tid cause) sent arrived sent_after arrived_after = ClaimsBy Outgoing tid None sent arrived sent_after arrived_after
ClaimsAfter (Execute tid) sent arrived sent_after arrived_after = ClaimsBy Incoming tid None sent arrived sent_after arrived_after
ClaimsAfter (Fail tid) sent arrived sent_after arrived_after = ClaimsBy Incoming tid None sent arrived sent_after arrived_after
ClaimsAfter _ sent arrived sent_after arrived_after = (sent_after ≡ sent) × (arrived_after ≡ arrived)
