-- Each unit once, and in the order of its queues. The clauses are over the logs of all systems, and over the units that
-- each of them committed; no step, table or claim is in them.
use Rattle.std.specs.Prelude.{◌≡◌, ℕ, ⊤, false, List, [], ◌∷◌, ◌++◌, take, All, Contains}
use Rattle.std.specs.List.{filter_map}
use Rattle.ale_base.specs.Tid.{TidOf}
use Rattle.unit_core.specs.declared.ale_unit.AleUnit.{AleUnit}
use Rattle.unit_core.specs.declared.records.Record.{Record}
use Rattle.unit_core.specs.declared.queue.Queue.TheVariants.{Outbound, Inbound}
use Rattle.unit_core.specs.Filters.{received, executed, done_in, ended_in, forgotten_in}
use Rattle.ale_base.specs.Prefix.{IsPrefix}
use Rattle.unit_core.specs.Queues.{in_queue, tids_of, is_listed, unit_named}

-- no id stands twice
abbrev pub NoneTwice : List TidOf → Type 0
NoneTwice [] = ⊤
NoneTwice (tid ∷ tids) = (is_listed tid tids ≡ false) × NoneTwice tids

-- taken once: no transaction id stands twice among the units that a system received
abbrev pub TakenOnce : List Record → Type 0
TakenOnce log = NoneTwice (tids_of (received log))

-- taken was committed: each unit that a system received is, byte for byte, one that its sender committed for this system
abbrev pub TakenWasCommitted : (ℕ → List AleUnit) → ℕ → List Record → Type 0
TakenWasCommitted committed system log =
    All (λ unit. (unit.receiver ≡ system) × Contains (committed unit.sender) unit) (received log)

-- taken in outbound order: of each outbound queue the units received are, as a list, a prefix of those committed
abbrev pub TakenInOrder : (ℕ → List AleUnit) → ℕ → List Record → Type 0
TakenInOrder committed system log = (sender : ℕ) (name : List ℕ) →
    let queue = Outbound sender system name in IsPrefix (in_queue queue (received log)) (in_queue queue (committed sender))

-- the units that a log executed, in the order of their execution
abbrev pub executed_units : List Record → List AleUnit
executed_units log = filter_map (λ tid. unit_named tid (received log)) (executed log)

-- executed in inbound order: what was executed had been received, none was executed twice, and of each inbound queue the
-- units executed are, as a list, a prefix of those received
pub record ExecutedInOrder (log : List Record) : Type 0 where
  pub was_received : (n : ℕ) → All (λ tid. Contains (tids_of (received (take n log))) tid) (executed (take n log))
  pub once : NoneTwice (executed log)
  pub in_order : (name : List ℕ) → IsPrefix (in_queue (Inbound name) (executed_units log)) (in_queue (Inbound name) (received log))

-- done was taken: each unit that is done at its sender was received by its receiver
abbrev pub DoneWasTaken : (ℕ → List AleUnit) → (ℕ → List Record) → ℕ → Type 0
DoneWasTaken committed logs system =
    All (λ tid. (unit : AleUnit) × (unit.tid ≡ tid) × Contains (committed system) unit × Contains (received (logs unit.receiver)) unit) (done_in (logs system))

-- forgotten was done: each id that a receiver forgot is done at the sender that it names
abbrev pub ForgottenWasDone : (ℕ → List Record) → ℕ → Type 0
ForgottenWasDone logs system = All (λ tid. Contains (done_in (logs tid.system)) tid) (forgotten_in (logs system))

-- ended was forgotten: each unit that is ended at its sender was forgotten by its receiver
abbrev pub EndedWasForgotten : (ℕ → List AleUnit) → (ℕ → List Record) → ℕ → Type 0
EndedWasForgotten committed logs system =
    All (λ tid. (unit : AleUnit) × (unit.tid ≡ tid) × Contains (committed system) unit × Contains (forgotten_in (logs unit.receiver)) tid)
    (ended_in (logs system))

-- the exactly-once law, over the log of each system and the units that each committed
pub record Once (committed : ℕ → List AleUnit) (logs : ℕ → List Record) : Type 0 where
  pub taken_once : (system : ℕ) → TakenOnce (logs system)
  pub taken_was_committed : (system : ℕ) → TakenWasCommitted committed system (logs system)
  pub taken_in_order : (system : ℕ) → TakenInOrder committed system (logs system)
  pub executed_in_order : (system : ℕ) → ExecutedInOrder (logs system)
  pub done_was_taken : (system : ℕ) → DoneWasTaken committed logs system
  pub forgotten_was_done : (system : ℕ) → ForgottenWasDone logs system
  pub ended_was_forgotten : (system : ℕ) → EndedWasForgotten committed logs system
