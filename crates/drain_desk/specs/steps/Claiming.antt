-- Units are claimed.
use Rattle.std.specs.Prelude.{ℕ, Bool}
use Rattle.ale_volumes.specs.Disk.{Disk}
use Rattle.trfc_protocol.specs.declared.world.World.{World}
use Rattle.unit_landscape.specs.KeptWorlds.{KeptOf}
use Rattle.document_state.specs.declared.document_tables.DocumentTables.{DocumentTables}
use Rattle.document_state.specs.declared.model_rules.ModelRules.{ModelRules}
use Rattle.unit_works.specs.Drained.{IsIdle}
use Rattle.unit_works.specs.Events.{is_work}
use Rattle.unit_works.specs.Worked.{HaveOnlyClaimed, Worked}
use Rattle.drain_desk.specs.declared.claiming.Offer.{Offer}
use Rattle.unit_works.specs.Claims.{NoneRuns}
use Rattle.drain_desk.specs.Work.{IsBasis, MayGo, tid_of}
use Rattle.drain_desk.specs.ToDo.{IsToDo, StayToDo}

-- units were claimed to be shipped or executed, and nothing else; what was to be done still is
pub record Claims {V : Type 0} (disk : Disk V) (before after : KeptOf ModelRules DocumentTables V) (whole : Bool) : Type 0 where
  pub went : Worked disk before after is_work whole
  pub only : HaveOnlyClaimed before after
  pub runs : NoneRuns before.world.claims → NoneRuns after.world.claims
  pub stay : StayToDo before.world after.world

-- a unit is offered at some system
abbrev pub IsBusy : World ModelRules → Type 0
IsBusy world = IsIdle world → ⊥

-- a unit that was claimed may go, and is to be done; and this is what it is prepared from
pub record IsOffer (world : World ModelRules) (offer : Offer) : Type 0 where
  pub may : MayGo world offer.task
  pub to_do : IsToDo world offer.task
  pub base : IsBasis world (tid_of offer.task) offer.basis
