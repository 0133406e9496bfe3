-- A unit is claimed.
use Rattle.std.specs.Prelude.{◌≡◌, ℕ, true, [], ◌∷◌, ◌++◌, None, Some}
use Rattle.ale_base.specs.declared.way.Way.TheVariants.{Outgoing, Incoming}
use Rattle.trfc_protocol.specs.Meaning.{Meaning}
use Rattle.trfc_protocol.specs.Offered.{answer_to, is_offered_inbound, is_offered_outbound, offers_received_now}
use Rattle.trfc_protocol.specs.Worlds.{claim_of, committed_unit}
use Rattle.unit_core.specs.declared.ale_unit.AleUnit.{AleUnit}
use Rattle.unit_landscape.specs.LogAnswers.{first_to_go}
use Rattle.trfc_protocol.specs.declared.held.Held.{Held}
use Rattle.trfc_protocol.specs.declared.held.HeldKind.TheVariants.{In, Out}
use Rattle.trfc_protocol.specs.declared.world.World.{World}
use Rattle.unit_landscape.specs.declared.claims.OutClaim.{OutClaim}
use Rattle.unit_landscape.specs.declared.claims.InClaim.{InClaim}
use Rattle.unit_landscape.specs.Calls.{IsMade, stands_out}
use Rattle.unit_works.specs.Trips.{Wholly, may_execute, may_ship}

-- a claim to ship a unit, as a world keeps it
abbrev pub out_held : OutClaim → Held
out_held claim = record { number = claim.number; tid = claim.tid; system = claim.tid.system; kind = Out }

-- the first unit that is offered outbound at a system was claimed to be shipped, and no other
pub record IsShipped {R : Type 0} (rules : Meaning) (before after : World R) (system : ℕ) (claim : OutClaim) : Type 0 where
  pub offered : is_offered_outbound rules before claim.tid ≡ true
  pub first : first_to_go rules before system Outgoing ≡ Some claim.tid
  pub here : claim.tid.system ≡ system
  pub made : IsMade before claim.number claim.opening
  pub stands : stands_out after claim ≡ true
  pub claims : after.claims ≡ before.claims ++ out_held claim ∷ []
  pub fresh : claim_of claim.number before.claims ≡ None
  pub unit : AleUnit
  pub committed : committed_unit rules before claim.tid ≡ Some unit
  pub receiver : unit.receiver ≡ claim.receiver
  pub may : may_ship rules before claim.tid ≡ true
  pub answers : answer_to rules after unit ≡ answer_to rules before unit
  pub grew : Wholly before after []

-- a claim to execute a unit that was taken in, as a world keeps it
abbrev pub in_held : InClaim → Held
in_held claim = record { number = claim.number; tid = claim.tid; system = claim.system; kind = In }

-- the first unit that is offered inbound at a system was claimed to be executed, and no other
pub record IsExecuted {R : Type 0} (rules : Meaning) (before after : World R) (system : ℕ) (claim : InClaim) : Type 0 where
  pub offered : is_offered_inbound before system claim.tid ≡ true
  pub first : first_to_go rules before system Incoming ≡ Some claim.tid
  pub made : IsMade before claim.number claim.opening
  pub claims : after.claims ≡ before.claims ++ in_held claim ∷ []
  pub fresh : claim_of claim.number before.claims ≡ None
  pub here : claim.system ≡ system
  pub may : may_execute before system claim.tid ≡ true
  pub offers : offers_received_now rules after system claim.tid ≡ offers_received_now rules before system claim.tid
  pub grew : Wholly before after []
