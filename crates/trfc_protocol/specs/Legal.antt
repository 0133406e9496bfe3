-- Which record may follow a log. Those of the application and of the model (Commit, Dispatch, Put, App, Repost, Model) are
-- left to the rules; the protocol decides all others.
use Rattle.std.specs.Prelude.{◌≡◌, ℕ, ◌+◌, ◌<◌, ◌≤◌, ⊤, Bool, true, false, not, ◌==◌, ◌&&◌, nat_le, Option, Some, None, List, [], ◌∷◌, ◌++◌, length}
use Rattle.std.specs.Prelude.{slice_index_or}
use Rattle.ale_base.specs.Tid.{TidOf}
use Rattle.ale_base.specs.declared.system_no.TheConstants.SystemNo.{MAX}
use Rattle.ale_base.specs.declared.tid.TheConstants.Tid.{MAX_UNIT}
use Rattle.ale_base.specs.declared.way.Way.{Way}
use Rattle.ale_base.specs.declared.way.Way.TheVariants.{Outgoing, Incoming}
use Rattle.unit_core.specs.declared.ale_unit.AleUnit.{AleUnit}
use Rattle.unit_core.specs.declared.records.Record.{Record}
use Rattle.unit_core.specs.declared.records.Record.TheVariants.{Genesis, Commit, Dispatch, Mark, Done, Ended, Accept, Execute, Direct, Fail, Forget, Stop}
use Rattle.unit_core.specs.declared.records.Record.TheVariants.{Start, Retry, Put, App, Repost, Model}
use Rattle.unit_core.specs.Filters.{received, executed, done_in, ended_in, forgotten_in, is_marked}
use Rattle.unit_core.specs.Queues.{is_listed, is_among, unit_named, is_outstanding, are_different, heads_outbound, heads_inbound}
use Rattle.ale_base.specs.Prefix.{IsPrefix}
use Rattle.trfc_protocol.specs.Meaning.{Meaning}

-- whether a list has no elements
abbrev pub is_empty : {A : Type 0} → List A → Bool
is_empty [] = true
is_empty (x ∷ xs) = false

-- a unit that may go on: it is outstanding and unmarked, and it heads its queues
abbrev pub is_free : List TidOf → Bool → (AleUnit → Bool) → Option AleUnit → Bool
is_free through marked heads None = false
is_free through marked heads (Some unit) = is_outstanding through unit && not marked && heads unit

-- the unit of this id may be sent: it is not done, not marked, and heads its outbound queues
abbrev pub is_free_outbound : List AleUnit → List Record → TidOf → Bool
is_free_outbound committed log tid =
    is_free (done_in log) (is_marked Outgoing tid log) (heads_outbound (done_in log) committed) (unit_named tid committed)

-- the unit of this id may be executed: it was received, is not executed, not marked, and heads its inbound queues
abbrev pub is_free_inbound : List Record → TidOf → Bool
is_free_inbound log tid =
    is_free (executed log) (is_marked Incoming tid log) (heads_inbound (executed log) (received log)) (unit_named tid (received log))

-- whether the unit is there, and its function is one of these
abbrev pub offers_that_of : (List ℕ → Bool) → Option AleUnit → Bool
offers_that_of offers None = false
offers_that_of offers (Some unit) = offers unit.function

-- whether a system offers the function of a unit that it received
abbrev pub offers_received : Meaning → ℕ → List Record → TidOf → Bool
offers_received rules system log tid = offers_that_of (rules.offers system log) (unit_named tid (received log))

-- whether the unit is there and outstanding
abbrev pub is_open : List TidOf → Option AleUnit → Bool
is_open through None = false
is_open through (Some unit) = is_outstanding through unit

-- an outbound queue leads to another system; an inbound one has destination 0
abbrev pub is_destination : ℕ → ℕ → Way → ℕ → Bool
is_destination systems system Outgoing destination = nat_le 1 destination && nat_le destination systems && not (destination == system)
is_destination systems system Incoming destination = destination == 0

-- a unit may be taken in: it is for this system, and none of its id was received
abbrev pub is_new : ℕ → List Record → AleUnit → Bool
is_new system log unit = (unit.receiver == system) && not (is_among unit.tid (received log))

-- a unit of this id is outstanding in this direction
abbrev pub is_open_at : Meaning → ℕ → List Record → Way → TidOf → Bool
is_open_at rules system log Outgoing tid = is_open (done_in log) (unit_named tid (rules.committed system log))
is_open_at rules system log Incoming tid = is_open (executed log) (unit_named tid (received log))

-- whether a record may follow a log that is not empty
abbrev pub may_follow_others : Meaning → ℕ → List Record → Record → Bool
may_follow_others rules system log (Genesis number text) = false
may_follow_others rules system log (Mark tid cause) = is_free_outbound (rules.committed system log) log tid
may_follow_others rules system log (Done tid) = is_free_outbound (rules.committed system log) log tid
may_follow_others rules system log (Ended tid) = is_listed tid (done_in log) && not (is_listed tid (ended_in log))
may_follow_others rules system log (Accept unit) = is_new system log unit && not (is_empty unit.inq)
may_follow_others rules system log (Execute tid) = is_free_inbound log tid && offers_received rules system log tid
may_follow_others rules system log (Direct unit) = is_new system log unit && is_empty unit.inq && rules.offers system log unit.function
may_follow_others rules system log (Fail tid) = is_free_inbound log tid && not (offers_received rules system log tid)
may_follow_others rules system log (Forget tid) = is_among tid (received log) && not (is_listed tid (forgotten_in log))
may_follow_others rules system log (Stop way destination name) = is_destination rules.systems system way destination
may_follow_others rules system log (Start way destination name) = is_destination rules.systems system way destination
may_follow_others rules system log (Retry way tid) = is_open_at rules system log way tid
may_follow_others rules system log (Commit origin docs) = rules.allows system log (Commit origin docs)
may_follow_others rules system log Dispatch = rules.allows system log Dispatch
may_follow_others rules system log (Put kind key fields) = rules.allows system log (Put kind key fields)
may_follow_others rules system log (App doc) = rules.allows system log (App doc)
may_follow_others rules system log (Repost doc) = rules.allows system log (Repost doc)
may_follow_others rules system log (Model text) = rules.allows system log (Model text)

-- whether a record may begin a log: a Genesis alone, since every other record is read by the model that it holds
abbrev pub may_begin : ℕ → Record → Bool
may_begin system (Genesis number text) = number == system
may_begin system _ = false

-- whether a record may follow a log: its Genesis stands first and nowhere else
abbrev pub may_follow : Meaning → ℕ → List Record → Record → Bool
may_follow rules system [] next = may_begin system next
may_follow rules system (first ∷ rest) next = may_follow_others rules system (first ∷ rest) next

-- each of these records may follow those before it
abbrev pub AllFollow : Meaning → ℕ → List Record → List Record → Type 0
AllFollow rules system before [] = ⊤
AllFollow rules system before (next ∷ rest) =
    (may_follow rules system before next ≡ true) × AllFollow rules system (before ++ next ∷ []) rest

-- a log is legal where each of its records may follow those before it
abbrev pub IsLegal : Meaning → ℕ → List Record → Type 0
IsLegal rules system log = AllFollow rules system [] log

-- the records that commit units
abbrev pub is_commit : Record → Bool
is_commit (Commit origin docs) = true
is_commit Dispatch = true
is_commit _ = false

-- the records of an operator and of the application, and the one that replaces the model
abbrev pub is_operators : Record → Bool
is_operators (Stop way destination name) = true
is_operators (Start way destination name) = true
is_operators (Retry way tid) = true
is_operators (Put kind key fields) = true
is_operators (App doc) = true
is_operators (Repost doc) = true
is_operators (Model text) = true
is_operators _ = false

-- the record that replaces the model
abbrev pub is_model : Record → Bool
is_model (Model text) = true
is_model _ = false

-- the records that may change what a system offers: they say by which model it goes
abbrev pub may_change_offers : Record → Bool
may_change_offers (Genesis number text) = true
may_change_offers (Model text) = true
may_change_offers _ = false

-- the unit at place k of the units that a system commits: its id has the number after k, it is for another system, and
-- the names of its queues differ in each direction
pub record IsUnitAt (systems system k : ℕ) (unit : AleUnit) : Type 0 where
  pub tid : unit.tid ≡ record { system = system; unit = k + 1 }
  pub sender : unit.sender ≡ system
  pub receiver_least : 1 ≤ unit.receiver
  pub receiver_most : unit.receiver ≤ systems
  pub other : unit.receiver ≡ system → ⊥
  pub outbound_names : are_different unit.outq ≡ true
  pub inbound_names : are_different unit.inq ≡ true

-- a record may follow a legal log
pub record MayFollow (rules : Meaning) (system : ℕ) (log : List Record) (next : Record) : Type 0 where
  pub legal : IsLegal rules system log
  pub may : may_follow rules system log next ≡ true

-- the laws of the rules
pub record IsLawful (rules : Meaning) : Type 0 where
  -- there are 1 to 16 systems
  pub systems_least : 1 ≤ rules.systems
  pub systems_most : rules.systems ≤ MAX
  -- a log of no records commits no units
  pub nothing_at_first : (system : ℕ) → rules.committed system [] ≡ []
  -- the units of a legal log are numbered from 1, and there are at most 65,536
  pub numbered : (system : ℕ) (log : List Record) → IsLegal rules system log → (k : ℕ) (d : AleUnit) → k < length (rules.committed system log)
      → IsUnitAt rules.systems system k (slice_index_or (rules.committed system log) k d)
  pub most : (system : ℕ) (log : List Record) → IsLegal rules system log → length (rules.committed system log) ≤ MAX_UNIT
  -- a record that commits adds units behind those before it, where it may follow; every other record leaves them, after any log
  pub commits : (system : ℕ) (log : List Record) (next : Record) → MayFollow rules system log next → is_commit next ≡ true
      → IsPrefix (rules.committed system log) (rules.committed system (log ++ next ∷ []))
  pub commits_nothing : (system : ℕ) (log : List Record) (next : Record) → is_commit next ≡ false
      → rules.committed system (log ++ next ∷ []) ≡ rules.committed system log
  -- a record that says nothing of the model leaves what is offered
  pub offers_stay : (system : ℕ) (log : List Record) (next : Record) (function : List ℕ) → MayFollow rules system log next → may_change_offers next ≡ false
      → rules.offers system (log ++ next ∷ []) function ≡ rules.offers system log function
