-- What is known of a work of a drain, wherever it is.
use Rattle.std.specs.Prelude.{◌≡◌, ℕ, false, Option, Some, IfSome}
use Rattle.std.specs.Arc.{arc_value}
use Rattle.ale_base.specs.Tid.{TidOf}
use Rattle.unit_core.specs.declared.ale_unit.AleUnit.{AleUnit}
use Rattle.inbound_post.specs.Prepared.{prepared}
use Rattle.trfc_protocol.specs.declared.world.World.{World}
use Rattle.trfc_protocol.specs.Offered.{is_stopped_inbound, is_stopped_outbound}
use Rattle.trfc_protocol.specs.Worlds.{committed_unit, log_of}
use Rattle.document_state.specs.declared.model_rules.ModelRules.{ModelRules}
use Rattle.document_state.specs.Meaning.{model_meaning}
use Rattle.landscape.specs.Working.{IsPreparedFor}
use Rattle.drain_desk.specs.declared.began.Began.{Began}
use Rattle.drain_desk.specs.declared.work.Basis.{Basis}
use Rattle.drain_desk.specs.declared.work.Task.{Task}
use Rattle.drain_desk.specs.declared.work.Task.TheVariants.{Ship, Execute}

-- a work as it is seen
pub record SeenWork (V : Type 0) : Type 0 where
  pub task : Task
  pub basis : Option Basis
  pub origin : Began V

-- the unit of a task
abbrev pub tid_of : Task → TidOf
tid_of (Ship claim) = claim.tid
tid_of (Execute claim) = claim.tid

-- the system at which a task is done, its sender or its receiver, and its unit
abbrev pub name_of : Task → ℕ × TidOf
name_of (Ship claim) = (claim.tid.system, claim.tid)
name_of (Execute claim) = (claim.system, claim.tid)

module _ (world : World ModelRules) where
  -- the unit of an id was committed, and this is so of it
  pub record IsCommitted (tid : TidOf) (P : AleUnit → Type 0) : Type 0 where
    pub unit : AleUnit
    pub named : committed_unit (model_meaning world.rules.systems) world tid ≡ Some unit
    pub is : P unit

  -- the unit of a claim was committed, and none of its queues is stopped in the direction of the claim
  abbrev pub MayGo : Task → Type 0
  MayGo (Ship claim) = IsCommitted claim.tid (λ unit. is_stopped_outbound (log_of world claim.tid.system) unit ≡ false)
  MayGo (Execute claim) = IsCommitted claim.tid (λ unit. is_stopped_inbound (log_of world unit.receiver) unit ≡ false)

  -- what is prepared of this, if it is there, is what becomes of the documents of the unit of an id
  abbrev pub IsBasis : TidOf → Option Basis → Type 0
  IsBasis tid basis = IfSome basis (λ (its : Basis). IsPreparedFor world tid (prepared (arc_value its.model) its.unit.receiver its.unit).postings)

-- With what the drain began is so of a work: its unit was committed, no queue of it is stopped in its direction, and what is prepared of it,
-- if anything, is what becomes of the documents of its unit.
pub record IsWork {V : Type 0} (began : Began V) (task : Task) (basis : Option Basis) : Type 0 where
  pub may : MayGo began.landscape.value.world task
  pub base : IsBasis began.landscape.value.world (tid_of task) basis
