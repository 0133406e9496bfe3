-- A unit that is shipped arrives, and may arrive once more.
use Rattle.std.specs.Prelude.{◌≡◌, ◌⊎◌, ◌+◌, ◌≤◌, ⊤, ℕ, Bool, true, false, List, ◌∷◌, [], ◌++◌, Option, None, Some, if◌then◌else◌}
use Rattle.ale_base.specs.Tid.{TidOf}
use Rattle.unit_core.specs.declared.ale_unit.AleUnit.{AleUnit}
use Rattle.trfc_protocol.specs.declared.answer.Answer.TheVariants as answer
use Rattle.trfc_protocol.specs.declared.held.Held.{Held}
use Rattle.trfc_protocol.specs.declared.held.HeldKind.TheVariants.{Direct}
use Rattle.trfc_protocol.specs.declared.world.World.{World}
use Rattle.trfc_protocol.specs.Meaning.{Meaning}
use Rattle.trfc_protocol.specs.Offered.{answer_to}
use Rattle.trfc_protocol.specs.Worlds.{claim_of, committed_unit}
use Rattle.unit_landscape.specs.KeptWorlds.{KeptOf}
use Rattle.unit_landscape.specs.declared.answers.Arrival.{Arrival}
use Rattle.unit_landscape.specs.declared.answers.Arrival.TheVariants.{New, Run, Known, Busy, SysFail, Down}
use Rattle.unit_landscape.specs.declared.claims.InClaim.{InClaim}
use Rattle.unit_landscape.specs.declared.claims.OutClaim.{OutClaim}
use Rattle.inbound_post.specs.declared.prepared.DocPosting.{DocPosting}
use Rattle.document_state.specs.declared.model_rules.ModelRules.{ModelRules}
use Rattle.landscape.specs.Working.{IsPreparedFor}
use Rattle.unit_works.specs.declared.letter.Letter.{Letter}
use Rattle.unit_works.specs.declared.letter.Letter.TheVariants.{Twice}
use Rattle.unit_core.specs.declared.records.Record.TheVariants as log
use Rattle.trfc_protocol.specs.declared.answer.Answer.{Answer}
use Rattle.trfc_protocol.specs.declared.event.CoreAnswer.{CoreAnswer}
use Rattle.trfc_protocol.specs.declared.event.CoreAnswer.TheVariants as core
use Rattle.trfc_protocol.specs.declared.event.Event.{Event}
use Rattle.trfc_protocol.specs.declared.event.Event.TheVariants as event
use Rattle.trfc_protocol.specs.declared.event.ReplyTo.TheVariants.{Claim}
use Rattle.trfc_protocol.specs.RecordOf.{Writing}
use Rattle.unit_landscape.specs.declared.answers.Reply.{Reply}
use Rattle.unit_landscape.specs.declared.answers.Reply.TheVariants as reply
use Rattle.unit_landscape.specs.Calls.{reply_event}
use Rattle.unit_works.specs.Claims.{AreOrGone}
use Rattle.unit_works.specs.Events.{arrives_under}
use Rattle.unit_works.specs.Trips.{Wholly, back_of, one_at, taken_in}
use Rattle.unit_works.specs.Finished.{finished_in}
use Rattle.unit_works.specs.steps.Claims.{WasCut}

-- a claim to run a unit as it arrives, as a world keeps it
abbrev pub run_held : InClaim → Held
run_held claim = record { number = claim.number; tid = claim.tid; system = claim.system; kind = Direct }

-- an arrival adds the claim of the run that it begins, whose number is new, and no other
abbrev pub ClaimsCome : {R : Type 0} → World R → World R → Arrival → Type 0
ClaimsCome before after (Run claim) = (after.claims ≡ before.claims ++ run_held claim ∷ []) × (claim_of claim.number before.claims ≡ None)
ClaimsCome before after (New receipt) = AreOrGone before after before.claims
ClaimsCome before after (Known receipt) = AreOrGone before after before.claims
ClaimsCome before after Busy = AreOrGone before after before.claims
ClaimsCome before after SysFail = AreOrGone before after before.claims
ClaimsCome before after Down = AreOrGone before after before.claims

-- an arrival begins no run
abbrev pub BeginsNone : Arrival → Type 0
BeginsNone (Run claim) = ⊥
BeginsNone _ = ⊤

-- a run that an arrival begins is of the unit of this id
abbrev pub BeginsOn : TidOf → Arrival → Type 0
BeginsOn tid (Run claim) = claim.tid ≡ tid
BeginsOn tid _ = ⊤

-- these are the postings of the unit of a run that an arrival begins
abbrev pub IsReadyFor : World ModelRules → List DocPosting → Arrival → Type 0
IsReadyFor world postings (Run claim) = IsPreparedFor world claim.tid postings
IsReadyFor world postings _ = ⊤

-- a unit, which its sender committed, is not taken in and begins no run where it arrives
pub record BringsNothing {R : Type 0} (rules : Meaning) (world : World R) (claim : OutClaim) (unit : AleUnit) : Type 0 where
  pub committed : committed_unit rules world claim.tid ≡ Some unit
  pub none : answer_to rules world unit ≡ answer.Run → ⊥
  pub not_new : answer_to rules world unit ≡ answer.New → ⊥

-- whether the request arrives twice under a letter
abbrev pub is_twice : Letter → Bool
is_twice Twice = true
is_twice _ = false

-- an answer of a receiver is told, and at most one run ended before it
pub record IsAnswered {R : Type 0} (before after : World R) (finished : ℕ) : Type 0 where
  pub count : finished_in after ≡ finished_in before + finished
  pub few : finished ≤ 1

-- ---- what is appended

-- what a receiver appends at once that answers so: it takes the unit in
abbrev pub accepted : Answer → AleUnit → List Writing
accepted answer.New unit = one_at unit.receiver (log.Accept unit)
accepted _ unit = []

-- and what it appends as a run ends that the unit began
abbrev pub run_of : Answer → AleUnit → List Writing
run_of answer.Run unit = one_at unit.receiver (log.Direct unit)
run_of _ unit = []

-- an arrival tells this answer to a unit
abbrev pub Tells : Answer → AleUnit → Arrival → Type 0
Tells given unit (New receipt) = (given ≡ answer.New) × (receipt.tid ≡ unit.tid)
Tells given unit (Known receipt) = (given ≡ answer.Known) × (receipt.tid ≡ unit.tid)
Tells given unit (Run claim) = (given ≡ answer.Run) × (claim.tid ≡ unit.tid) × (claim.system ≡ unit.receiver)
Tells given unit Busy = given ≡ answer.Busy
Tells given unit SysFail = given ≡ answer.SysFail
Tells given unit Down = given ≡ answer.Down

-- claims are these and that of the run that an arrival begins, whose number none of them has
abbrev pub ClaimsAre : List Held → List Held → Arrival → Type 0
ClaimsAre claims others (Run claim) = (claims ≡ others ++ run_held claim ∷ []) × (claim_of claim.number others ≡ None)
ClaimsAre claims others (New receipt) = claims ≡ others
ClaimsAre claims others (Known receipt) = claims ≡ others
ClaimsAre claims others Busy = claims ≡ others
ClaimsAre claims others SysFail = claims ≡ others
ClaimsAre claims others Down = claims ≡ others

-- a unit arrived, and no system fell
pub record HasArrived {R : Type 0} (rules : Meaning) (before after : World R) (unit : AleUnit) (given : Arrival) : Type 0 where
  pub tells : Tells (answer_to rules before unit) unit given
  pub grew : Wholly before after (accepted (answer_to rules before unit) unit)
  pub claims : ClaimsAre after.claims before.claims given

-- a unit arrived, or its receiver fell as it was to take it in: nothing comes back
abbrev pub ArrivedSo : {R A V : Type 0} → Meaning → KeptOf R A V → KeptOf R A V → AleUnit → Arrival → Type 0
ArrivedSo rules before after unit given =
    HasArrived rules before.world after.world unit given
    ⊎ (WasCut before after (accepted (answer_to rules before.world unit) unit) × (given ≡ Down))

-- a reply says what came back of a unit
abbrev pub Says : Option CoreAnswer → TidOf → Reply → Type 0
Says (Some core.Done) tid (reply.Done receipt) = receipt.tid ≡ tid
Says (Some core.Busy) tid reply.Busy = ⊤
Says (Some core.SysFail) tid reply.SysFail = ⊤
Says None tid reply.Lost = ⊤
Says _ tid _ = ⊥

-- the run ended that an arrival began that was answered so, if it did, and no system fell: this comes back
pub record HasAnswered {R : Type 0} (before after : World R) (unit : AleUnit) (given : Answer) (others : List Held) (told : Reply) : Type 0 where
  pub grew : Wholly before after (run_of given unit)
  pub claims : after.claims ≡ others
  pub says : Says (back_of given) unit.tid told

-- the same, or its receiver fell as the run was to end
abbrev pub AnsweredSo : {R A V : Type 0} → KeptOf R A V → KeptOf R A V → AleUnit → Answer → List Held → Reply → Type 0
AnsweredSo before after unit given others told =
    HasAnswered before.world after.world unit given others told ⊎ WasCut before after (run_of given unit)

-- which event it is that a sender learns so much
abbrev pub event_of : Option CoreAnswer → ℕ → Event
event_of (Some given) number = event.Reply (Claim number given)
event_of None number = event.LoseReply number

-- what comes back of a unit that is sent under a letter
abbrev pub back_under : Letter → Answer → Option CoreAnswer
back_under letter given = if arrives_under letter then back_of given else None

-- what is appended as a unit is delivered under a letter: nothing where the request is lost
abbrev pub delivery : Letter → Answer → AleUnit → List Writing
delivery letter given unit = if arrives_under letter then taken_in given unit else []

-- a unit was delivered under a letter, and no system fell: these records are appended, and this comes back
pub record HasDelivered {R : Type 0} (rules : Meaning) (before after : World R) (claim : OutClaim) (unit : AleUnit) (letter : Letter) (given : Answer)
    (told : Reply) : Type 0 where
  pub grew : Wholly before after (delivery letter given unit)
  pub claims : after.claims ≡ before.claims
  pub event : reply_event rules after claim told ≡ event_of (back_under letter given) claim.number

-- the same, or its receiver fell as it was to append one of these records
abbrev pub DeliveredSo : {R A V : Type 0} → Meaning → KeptOf R A V → KeptOf R A V → OutClaim → AleUnit → Letter → Answer → Reply → Type 0
DeliveredSo rules before after claim unit letter given told =
    HasDelivered rules before.world after.world claim unit letter given told ⊎ WasCut before after (delivery letter given unit)
