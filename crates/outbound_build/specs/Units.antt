-- What every unit of a log is: its number, by the system of the log, and what the rules of the log's models make of it. That a
-- unit has an id and goes to another system is SAP's transactional RFC; the limits are this project's own. Only proofs
-- cite this, those of the crates above too.
use Rattle.std.specs.Prelude.{◌≡◌, ℕ, suc, ◌≤◌, ⊤, true, List, [], ◌∷◌, length}
use Rattle.std.specs.List.{AllByRecursion}
use Rattle.dist_model.specs.declared.lists.Lists.{Lists}
use Rattle.dist_model.specs.declared.limits.TheConstants.{MOST_PACKET, MOST_RULES}
use Rattle.dist_model.specs.Model.{IsModel}
use Rattle.unit_core.specs.declared.ale_unit.AleUnit.{AleUnit}
use Rattle.unit_core.specs.declared.raw_unit_doc.RawUnitDoc.{RawUnitDoc}
use Rattle.unit_core.specs.declared.records.Record.{Record}
use Rattle.unit_core.specs.declared.records.Record.TheVariants.{Commit}
use Rattle.unit_core.specs.Queues.{are_different}
use Rattle.outbound_build.specs.declared.added.OutUnit.{OutUnit}

-- a model of at most so many systems
pub record IsModelOf (systems : ℕ) (model : Lists) : Type 0 where
  pub kept : IsModel model
  pub most : length model.systems ≤ systems

-- a unit is one of a system, with this number
pub record HasNumber (system number : ℕ) (unit : AleUnit) : Type 0 where
  pub tid : unit.tid ≡ record { system = system; unit = number }
  pub sender : unit.sender ≡ system

-- units of a system are numbered on from this number
abbrev pub AreNumbered : ℕ → ℕ → List OutUnit → Type 0
AreNumbered system number [] = ⊤
AreNumbered system number (one ∷ others) = HasNumber system number one.unit × AreNumbered system (suc number) others

-- the queues of a direction: not too many, and no name stands twice
pub record AreQueues (names : List (List ℕ)) : Type 0 where
  pub few : length names ≤ MOST_RULES
  pub different : are_different names ≡ true

-- a unit goes to another one of so many systems, names a function, is in few queues, and has documents, not too many
pub record IsSendable (systems : ℕ) (unit : AleUnit) : Type 0 where
  pub receiver_least : 1 ≤ unit.receiver
  pub receiver_most : unit.receiver ≤ systems
  pub other : unit.receiver ≡ unit.sender → ⊥
  pub function : 1 ≤ length unit.function
  pub outq : AreQueues unit.outq
  pub inq : AreQueues unit.inq
  pub docs_least : 1 ≤ length unit.docs
  pub docs_most : length unit.docs ≤ MOST_PACKET

-- a document has at most so many segments
abbrev pub IsShort : ℕ → RawUnitDoc → Type 0
IsShort most document = length document.segments ≤ most

-- the masters that a record commits have at most so many segments each
abbrev pub HasShort : ℕ → Record → Type 0
HasShort most (Commit origin docs) = AllByRecursion (IsShort most) docs
HasShort most _ = ⊤
