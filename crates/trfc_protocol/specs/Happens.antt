-- What becomes of the world. An event that is not possible leaves it. Which record an event appends stands in `RecordOf`; here
-- stands what becomes of claims, and of the systems that fall and are opened.
use Rattle.std.specs.Prelude.{ℕ, Option, Some, None, List, [], ◌∷◌, if◌then◌else◌}
use Rattle.std.specs.Option.{option_map_or}
use Rattle.ale_base.specs.Tid.{TidOf}
use Rattle.unit_core.specs.declared.ale_unit.AleUnit.{AleUnit}
use Rattle.unit_core.specs.declared.records.Record.{Record}
use Rattle.trfc_protocol.specs.declared.world.World.{World}
use Rattle.trfc_protocol.specs.declared.held.Held.{Held}
use Rattle.trfc_protocol.specs.declared.held.HeldKind.{HeldKind}
use Rattle.trfc_protocol.specs.declared.held.HeldKind.TheVariants.{Out, In, Direct}
use Rattle.trfc_protocol.specs.declared.answer.Answer.{Answer}
use Rattle.trfc_protocol.specs.declared.answer.Answer.TheVariants as answer
use Rattle.trfc_protocol.specs.declared.event.Event.{Event}
use Rattle.trfc_protocol.specs.declared.event.Event.TheVariants as event
use Rattle.trfc_protocol.specs.declared.event.ReplyTo.TheVariants.{Claim}
use Rattle.trfc_protocol.specs.declared.event.CoreAnswer.TheVariants as reply
use Rattle.trfc_protocol.specs.declared.event.Action.TheVariants.{Revoke}
use Rattle.trfc_protocol.specs.Meaning.{Meaning}
use Rattle.trfc_protocol.specs.Worlds.{is_up, committed_unit, state_down, state_open, with_state, with_record, with_claim, without_claim, with_fall, claim_of}
use Rattle.trfc_protocol.specs.Offered.{is_offered_outbound, is_offered_inbound, may_arrive, answer_to}
use Rattle.trfc_protocol.specs.RecordOf.{Writing, record_of}
use Rattle.trfc_protocol.specs.Keeping.{may_keep}

-- the world with a record, where there is one
abbrev pub written : {R : Type 0} → Option Writing → World R → World R
written None world = world
written (Some it) world = with_record world it.system it.next

module _ {R : Type 0} (world : World R) where
  -- a direct run is claimed where its receiver answers so
  abbrev pub with_run : AleUnit → Answer → World R
  with_run unit answer.Run = with_claim world unit.tid unit.receiver Direct
  with_run unit _ = world

  -- the receiver's claim of a unit
  abbrev pub after_run : TidOf → AleUnit → World R
  after_run tid unit = if is_offered_inbound world unit.receiver tid then with_claim world tid unit.receiver In else world

  -- The claim goes with the record that it was made for. Where no record is written the work is not over, so it stays.
  abbrev pub after_work : Option Held → Option Writing → World R
  after_work (Some held) (Some it) = without_claim world held.number
  after_work _ _ = world

  -- the work of a claim ends: its record is written, and the claim goes with it
  abbrev pub ends_with : Held → Option Writing → World R
  ends_with held found = written found (after_work (Some held) found)

  -- a sender that learns that its receiver is busy drops its claim alone
  abbrev pub after_busy : Held → HeldKind → World R
  after_busy held Out = without_claim world held.number
  after_busy held _ = world

  -- a system falls and leaves nothing to be found: of one that is down already, what it might have found is gone
  abbrev pub falls_empty : ℕ → World R
  falls_empty system = if is_up world system then with_fall world system None else with_state world system (state_down None)

  -- a system that is down is opened, and finds what it may find
  abbrev pub opens : ℕ → World R
  opens system = if is_up world system then world else with_state world system state_open

module _ {R : Type 0} (rules : Meaning) (world : World R) where
  -- an arrival that is possible
  abbrev pub after_arrival : AleUnit → World R
  after_arrival unit = if may_arrive rules world unit then with_run world unit (answer_to rules world unit) else world

  -- the world with the claims that an event leaves; its record is not in the log yet
  abbrev pub with_claims_after : Event → World R
  with_claims_after (event.Claim tid) = if is_offered_outbound rules world tid then with_claim world tid tid.system Out else world
  with_claims_after (event.Arrive tid) = option_map_or after_arrival (committed_unit rules world tid) world
  with_claims_after (event.Run tid) = option_map_or (after_run world tid) (committed_unit rules world tid) world
  with_claims_after (event.Reply (Claim number reply.Busy)) = option_map_or (λ held. after_busy world held held.kind) (claim_of number world.claims) world
  with_claims_after (event.Reply (Claim number given)) = after_work world (claim_of number world.claims)
      (record_of rules world (event.Reply (Claim number given)))
  with_claims_after (event.Finish number) = after_work world (claim_of number world.claims) (record_of rules world (event.Finish number))
  with_claims_after (event.Fail number) = after_work world (claim_of number world.claims) (record_of rules world (event.Fail number))
  with_claims_after (event.LoseRequest number) = after_work world (claim_of number world.claims) (record_of rules world (event.LoseRequest number))
  with_claims_after (event.LoseReply number) = after_work world (claim_of number world.claims) (record_of rules world (event.LoseReply number))
  with_claims_after (event.Operator Revoke) = record world { claims = [] }
  with_claims_after _ = world

  -- a system falls as it writes a record, which it may find at its opening
  abbrev pub falls_writing : ℕ → Record → World R
  falls_writing system next = if may_keep rules world system next then with_fall world system (Some next) else world

  -- the world after an event
  abbrev pub happens : Event → World R
  happens (event.Fall system None) = falls_empty world system
  happens (event.Fall system (Some next)) = falls_writing system next
  happens (event.Open system) = opens world system
  happens other = written (record_of rules world other) (with_claims_after other)

-- the world after a list of events, one after the other
abbrev pub run : {R : Type 0} → (R → Meaning) → World R → List Event → World R
run rules world [] = world
run rules world (next ∷ events) = run rules (happens (rules world.rules) world next) events
