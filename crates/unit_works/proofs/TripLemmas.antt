-- What is appended as a unit is delivered, shipped and confirmed, until a system falls.
use Rattle.std.specs.Prelude.{Contains, filter}
use Rattle.std.specs.List.{filter_map}
use Rattle.std.specs.Option.{option_map_or}
use Rattle.std.proofs.Common.{◌≡◌, ◌==◌, ◌&&◌, ℕ, not, Bool, true, false, cond, Option, Some, None, List, [], ◌∷◌, ◌++◌, inl, inr, refl, sym, ap, subst, ◌∙◌}
use Rattle.std.proofs.Common.{append-nil}
use Rattle.std.proofs.lemmas.Bool.{and_from, and_parts, both_ways, cases_Bool, false_from_ne_true, not-true}
use Rattle.std.proofs.lemmas.List.Elements.{All-contains}
use Rattle.ale_base.specs.Tid.{TidOf, is_tid}
use Rattle.ale_base.specs.declared.mark.Mark.TheVariants.{Cpicerr, Sysfail}
use Rattle.ale_base.proofs.MemberLemmas.{filter_map-Some}
use Rattle.unit_core.specs.declared.ale_unit.AleUnit.{AleUnit}
use Rattle.unit_core.specs.declared.records.Record.{Record}
use Rattle.unit_core.specs.declared.records.Record.TheVariants as log
use Rattle.unit_core.specs.Filters.{done_by, done_in, ended_by, ended_in, forgotten_by, forgotten_in, received, taken_by}
use Rattle.unit_core.specs.Queues.{is_among, is_listed}
use Rattle.unit_core.proofs.TidLemmas.{Contains-is_listed, is_listed-Contains, is_tid-from}
use Rattle.system_tables.specs.OfLog.{is_unconfirmed}
use Rattle.trfc_protocol.specs.declared.answer.Answer.{Answer}
use Rattle.trfc_protocol.specs.declared.answer.Answer.TheVariants as answer
use Rattle.trfc_protocol.specs.declared.event.CoreAnswer.{CoreAnswer}
use Rattle.trfc_protocol.specs.declared.event.CoreAnswer.TheVariants as core
use Rattle.trfc_protocol.specs.declared.event.Event.TheVariants as event
use Rattle.trfc_protocol.specs.declared.event.ReplyTo.TheVariants.{Claim}
use Rattle.trfc_protocol.specs.declared.held.Held.{Held}
use Rattle.trfc_protocol.specs.declared.held.HeldKind.TheVariants.{Direct}
use Rattle.trfc_protocol.specs.declared.world.World.{World}
use Rattle.trfc_protocol.specs.Legal.{IsLawful, is_empty}
use Rattle.trfc_protocol.specs.Meaning.{Meaning}
use Rattle.trfc_protocol.specs.Offered.{answer_to}
use Rattle.trfc_protocol.specs.RecordOf.{Writing}
use Rattle.trfc_protocol.specs.Safe.{Safe}
use Rattle.trfc_protocol.specs.Worlds.{claim_of, committed_unit, is_claimed, is_up, log_of, offers_now}
use Rattle.trfc_protocol.proofs.ClaimLemmas.{claim_of-Some}
use Rattle.trfc_protocol.proofs.ForCallers.{claim_up, forgotten_unit, shipped_by, shipped_unit}
use Rattle.trfc_protocol.proofs.SafeLemmas.{committed_unit-is, sound_now}
use Rattle.unit_landscape.specs.KeptWorlds.{KeptOf}
use Rattle.unit_landscape.specs.declared.answers.Arrival.{Arrival}
use Rattle.unit_landscape.specs.declared.answers.Arrival.TheVariants as arrival
use Rattle.unit_landscape.specs.declared.answers.Finished.{Finished}
use Rattle.unit_landscape.specs.declared.answers.Reply.{Reply}
use Rattle.unit_landscape.specs.declared.answers.Reply.TheVariants as reply
use Rattle.unit_landscape.specs.declared.claims.InClaim.{InClaim}
use Rattle.unit_landscape.specs.declared.claims.OutClaim.{OutClaim}
use Rattle.unit_landscape.specs.Appending.{HoldsIn}
use Rattle.unit_landscape.specs.Calls.{is_refused, reply_event, stands_out, was_received}
use Rattle.unit_works.specs.declared.letter.Letter.{Letter}
use Rattle.unit_works.specs.declared.letter.Letter.TheVariants.{Whole, LostRequest, LostReply, Twice, LostConfirmation, ReceiverFalls}
use Rattle.unit_works.specs.Events.{arrives_under, falls_under, is_answered_under, is_confirmed_under, told_of}
use Rattle.unit_works.specs.Trips.{Appended, AppendedAs, Felled, HaveGrown, Shipped, ShippedSo, Wholly, back_of, closing, confirmation, fells, forgot, is_done}
use Rattle.unit_works.specs.Trips.{is_down, is_due, learnt_under, noted_of, noted_under, one_at, run_at, shipment, taken_in}
use Rattle.unit_works.specs.steps.Arriving.{AnsweredSo, ClaimsAre, DeliveredSo, HasAnswered, HasArrived, HasDelivered, Says, Tells, accepted, back_under}
use Rattle.unit_works.specs.steps.Arriving.{delivery, event_of}
use Rattle.unit_works.specs.steps.Arriving.{run_held, run_of}
use Rattle.unit_works.specs.steps.Claims.{WasCut}
use Rattle.unit_works.specs.steps.Felling.{FellIf, HandledSo, WasFelled}
use Rattle.unit_works.specs.steps.Confirming.{sent_to}
use Rattle.unit_works.specs.steps.Ending.{FinishedSo, IsRun}
use Rattle.unit_works.proofs.ClaimLemmas.{found-last, held-out, without-last}
use Rattle.unit_works.proofs.GrowthLemmas.{appended-on, cut-before, felled-behind, wholly-on, wholly-same}
use Rattle.unit_works.proofs.LogLemmas.{EachIs, NoneCounts, among-behind, each-first, each-if, each-next, same-grown, listed-behind, offers-log, read-same, record-here}

-- ---- a unit arrives, and is answered

-- the reply to an arrival that begins no run
abbrev pub reply_at : Arrival → Reply
reply_at (arrival.New receipt) = reply.Done receipt
reply_at (arrival.Known receipt) = reply.Done receipt
reply_at (arrival.Run claim) = reply.Lost
reply_at arrival.Busy = reply.Busy
reply_at arrival.SysFail = reply.SysFail
reply_at arrival.Down = reply.Lost

module _ {R : Type 0} (world : World R) (unit : AleUnit) (given : Answer) (others : List Held) where
  at_once : (its : Answer) (told : Reply) → given ≡ its → run_of its unit ≡ [] → world.claims ≡ others → Says (back_of its) unit.tid told
      → HasAnswered world world unit given others told
  at_once its told same none claims says = subst (λ a. HasAnswered world world unit a others told) (sym same) (record {
    grew = subst (Wholly world world) (sym none) (wholly-same world world refl);
    claims = claims;
    says = says;
  })

  -- it is answered at once
  pub answered-at_once : (came : Arrival) (told : Reply) → told ≡ reply_at came → ((claim : InClaim) → came ≡ arrival.Run claim → ⊥) → Tells given unit came
      → ClaimsAre world.claims others came → HasAnswered world world unit given others told
  answered-at_once came told same none tells claims = subst (HasAnswered world world unit given others) (sym same) (by came none tells claims)
    where
      by : (came : Arrival) → ((claim : InClaim) → came ≡ arrival.Run claim → ⊥) → Tells given unit came → ClaimsAre world.claims others came
          → HasAnswered world world unit given others (reply_at came)
      by (arrival.New receipt) none tells claims = at_once answer.New (reply.Done receipt) tells.0 refl claims tells.1
      by (arrival.Known receipt) none tells claims = at_once answer.Known (reply.Done receipt) tells.0 refl claims tells.1
      by (arrival.Run claim) none tells claims = absurd (none claim refl)
      by arrival.Busy none tells claims = at_once answer.Busy reply.Busy tells refl claims tt
      by arrival.SysFail none tells claims = at_once answer.SysFail reply.SysFail tells refl claims tt
      by arrival.Down none tells claims = at_once answer.Down reply.Lost tells refl claims tt

module _ {R A V : Type 0} (rules : Meaning) (before : KeptOf R A V) (unit : AleUnit) (given : Answer) (others : List Held) (claim : InClaim)
    (tells : Tells given unit (arrival.Run claim)) (claims : ClaimsAre before.world.claims others (arrival.Run claim)) where
  -- the claim of a run that an arrival began is there
  pub run-holds : HoldsIn before.world claim (run_held claim)
  run-holds = record {
    found = ap (claim_of claim.number) claims.0 ∙ found-last claim.number others (run_held claim) refl claims.1;
    its = refl;
    kind = refl;
  }

  -- it is answered once the run has ended, unless its receiver fell then
  pub answered-run : committed_unit rules before.world unit.tid ≡ Some unit → (after : KeptOf R A V) (how : Finished) (told : Reply)
      → FinishedSo rules before after claim (run_held claim) how
      → ((tid : TidOf) → IsRun Direct tid how → Says (Some core.Done) tid told) → AnsweredSo before after unit given others told
  answered-run committed after how told ends says =
      subst (λ a. AnsweredSo before after unit a others told) (sym tells.0) (elim ends [
        | inl finished ↦ inl (record {
          grew = subst (Wholly before.world after.world) its_run finished.grew;
          claims = finished.claims ∙ ap (filter (λ (h : Held). not (h.number == claim.number))) claims.0
              ∙ without-last claim.number others (run_held claim) refl claims.1;
          says = says unit.tid (subst (λ t. IsRun Direct t how) tells.1 finished.run);
        })
        | inr fell ↦ inr (subst (WasCut before after) its_run fell.0)
      ])
    where
      its_run : run_at claim.system (committed_unit rules before.world claim.tid) ≡ run_of answer.Run unit
      its_run =
          ap (λ t. run_at claim.system (committed_unit rules before.world t)) tells.1 ∙ ap (run_at claim.system) committed
          ∙ ap (λ s. one_at s (log.Direct unit)) tells.2

-- ---- what the answers say

answered-known : (up among claimed empty offers : Bool)
    → cond (not up) answer.Down (cond among answer.Known (cond claimed answer.Busy (cond empty (cond offers answer.Run answer.SysFail) answer.New))) ≡
    answer.Known
    → among ≡ true
answered-known false among claimed empty offers is = cc
answered-known true true claimed empty offers is = refl
answered-known true false true empty offers is = cc
answered-known true false false true true is = cc
answered-known true false false true false is = cc
answered-known true false false false offers is = cc

answered-refused : (up among claimed empty offers : Bool)
    → cond (not up) answer.Down (cond among answer.Known (cond claimed answer.Busy (cond empty (cond offers answer.Run answer.SysFail) answer.New))) ≡
    answer.SysFail
    → (up ≡ true) × (empty ≡ true) × (offers ≡ false)
answered-refused false among claimed empty offers is = cc
answered-refused true true claimed empty offers is = cc
answered-refused true false true empty offers is = cc
answered-refused true false false true true is = cc
answered-refused true false false true false is = (refl, refl, refl)
answered-refused true false false false offers is = cc

answered-up : (given : Answer) (up : Bool) (other : Answer) → cond (not up) answer.Down other ≡ given → back_of given ≡ Some core.Done → up ≡ true
answered-up given true other is done = refl
answered-up given false other is done = let none = ap back_of is ∙ done in cc

module _ {R : Type 0} (rules : Meaning) (world : World R) (unit : AleUnit) where
  known-parts : answer_to rules world unit ≡ answer.Known → is_among unit.tid (received (log_of world unit.receiver)) ≡ true
  known-parts is =
      answered-known (is_up world unit.receiver) (is_among unit.tid (received (log_of world unit.receiver))) (is_claimed Direct unit.tid world.claims)
      (is_empty unit.inq) (offers_now rules world unit.receiver unit.function) is

  refused-parts : answer_to rules world unit ≡ answer.SysFail
      → (is_up world unit.receiver ≡ true) × (is_empty unit.inq ≡ true) × (offers_now rules world unit.receiver unit.function ≡ false)
  refused-parts is = answered-refused _ _ _ _ _ is

  done-up : back_of (answer_to rules world unit) ≡ Some core.Done → is_up world unit.receiver ≡ true
  done-up is = answered-up (answer_to rules world unit) (is_up world unit.receiver) _ refl is

-- ---- a unit is delivered

-- what a receiver appends at once and at the end of a run
taken-parts : (given : Answer) (unit : AleUnit) → accepted given unit ++ run_of given unit ≡ taken_in given unit
taken-parts answer.New unit = refl
taken-parts answer.Run unit = refl
taken-parts answer.Known unit = refl
taken-parts answer.Busy unit = refl
taken-parts answer.SysFail unit = refl
taken-parts answer.Down unit = refl

-- a request that is lost
pub delivered-lost : {R : Type 0} (rules : Meaning) (world : World R) (claim : OutClaim) (unit : AleUnit) (letter : Letter) (given : Answer) (told : Reply)
    → arrives_under letter ≡ false → told ≡ reply.Lost → HasDelivered rules world world claim unit letter given told
delivered-lost rules world claim unit letter given told lost same = subst (HasDelivered rules world world claim unit letter given) (sym same) (record {
  grew = subst (Wholly world world) (sym (ap (λ b. cond b (taken_in given unit) []) lost)) (wholly-same world world refl);
  claims = refl;
  event = sym (ap (λ b. event_of (cond b (back_of given) None) claim.number) lost);
})

module _ {R : Type 0} (rules : Meaning) (after : World R) (claim : OutClaim) (unit : AleUnit) (its : unit.tid ≡ claim.tid) where
  -- the event of a reply that says what came back
  event-said : (back : Option CoreAnswer) (told : Reply) → Says back unit.tid told → (back ≡ Some core.Done → was_received rules after claim.tid ≡ true)
      → (back ≡ Some core.SysFail → is_refused rules after claim.tid ≡ true) → reply_event rules after claim told ≡ event_of back claim.number
  event-said (Some core.Done) (reply.Done receipt) says done refused =
      ap (λ b. cond b (event.Reply (Claim claim.number core.Done)) (event.LoseReply claim.number))
      (and_from (is_tid receipt.tid claim.tid) (was_received rules after claim.tid) (is_tid-from receipt.tid claim.tid (says ∙ its)) (done refl))
  event-said (Some core.Done) reply.Lost says done refused = absurd says
  event-said (Some core.Done) reply.Busy says done refused = absurd says
  event-said (Some core.Done) reply.SysFail says done refused = absurd says
  event-said (Some core.Busy) reply.Busy says done refused = refl
  event-said (Some core.Busy) (reply.Done receipt) says done refused = absurd says
  event-said (Some core.Busy) reply.Lost says done refused = absurd says
  event-said (Some core.Busy) reply.SysFail says done refused = absurd says
  event-said (Some core.SysFail) reply.SysFail says done refused =
      ap (λ b. cond b (event.Reply (Claim claim.number core.SysFail)) (event.LoseReply claim.number)) (refused refl)
  event-said (Some core.SysFail) (reply.Done receipt) says done refused = absurd says
  event-said (Some core.SysFail) reply.Lost says done refused = absurd says
  event-said (Some core.SysFail) reply.Busy says done refused = absurd says
  event-said None reply.Lost says done refused = refl
  event-said None (reply.Done receipt) says done refused = absurd says
  event-said None reply.Busy says done refused = absurd says
  event-said None reply.SysFail says done refused = absurd says

module _ {R : Type 0} (rules later : Meaning) (before between after : World R) (claim : OutClaim) (unit : AleUnit) (its : unit.tid ≡ claim.tid)
    (same : later ≡ rules) (named : committed_unit later after claim.tid ≡ Some unit)
    (ups : (system : ℕ) → is_up after system ≡ is_up before system) where
  -- a unit that was taken in last is among those received
  behind : (next : Record) → taken_by next ≡ Some unit → HaveGrown before after (one_at unit.receiver next)
      → is_among unit.tid (received (log_of after unit.receiver)) ≡ true
  behind next takes grew =
      ap (λ l. is_among unit.tid (received l)) (grew unit.receiver ∙ ap (λ l. log_of before unit.receiver ++ l) (record-here unit.receiver next))
      ∙ ap (is_among unit.tid) (filter_map-Some taken_by (log_of before unit.receiver) next unit takes)
      ∙ among-behind unit (received (log_of before unit.receiver))

  -- a receiver that says that it has the unit has it then
  has : (given : Answer) → answer_to rules before unit ≡ given → back_of given ≡ Some core.Done → HaveGrown before after (taken_in given unit)
      → is_among unit.tid (received (log_of after unit.receiver)) ≡ true
  has answer.New is done grew = behind (log.Accept unit) refl grew
  has answer.Run is done grew = behind (log.Direct unit) refl grew
  has answer.Known is done grew =
      ap (λ l. is_among unit.tid (received l)) (same-grown before after grew unit.receiver) ∙ known-parts rules before unit is
  has answer.Busy is done grew = cc
  has answer.SysFail is done grew = cc
  has answer.Down is done grew = cc

  -- one that says that it can't execute it can't
  refuses : answer_to rules before unit ≡ answer.SysFail → HaveGrown before after (taken_in answer.SysFail unit) → is_refused later after claim.tid ≡ true
  refuses is grew =
      let parts = refused-parts rules before unit is in
      let up : is_up before unit.receiver ≡ true = parts.0 in
      let logs : log_of after unit.receiver ≡ log_of before unit.receiver = same-grown before after grew unit.receiver in
      let offers : offers_now later after unit.receiver unit.function ≡ false =
      offers-log later after unit.receiver unit.function (ups unit.receiver ∙ up)
      ∙ ap (λ (r : Meaning). r.offers unit.receiver (log_of after unit.receiver) unit.function) same
      ∙ ap (λ l. rules.offers unit.receiver l unit.function) logs
      ∙ sym (offers-log rules before unit.receiver unit.function up) ∙ parts.2 in
      ap (λ found. option_map_or (λ (u : AleUnit). is_empty u.inq && not (offers_now later after u.receiver u.function)) found false) named
      ∙ and_from (is_empty unit.inq) (not (offers_now later after unit.receiver unit.function)) parts.1 (ap not offers)

  -- a unit that arrived and was answered was delivered
  pub delivered-on : (letter : Letter) (came : Arrival) (told : Reply) → arrives_under letter ≡ true → HasArrived rules before between unit came
      → HasAnswered between after unit (answer_to rules before unit) before.claims told
      → HasDelivered later before after claim unit letter (answer_to rules before unit) told
  delivered-on letter came told arrives first second =
      let given : Answer = answer_to rules before unit in
      let all : Wholly before after (taken_in given unit) =
      subst (Wholly before after) (taken-parts given unit)
      (wholly-on before between after (accepted given unit) (run_of given unit) first.grew second.grew) in
      let grew : HaveGrown before after (taken_in given unit) = all.grew in
      record {
        grew = subst (Wholly before after) (sym (ap (λ b. cond b (taken_in given unit) []) arrives)) all;
        claims = second.claims;
        event =
            event-said later after claim unit its (back_of given) told second.says
            (λ done.
            ap (λ found. option_map_or (λ (u : AleUnit). is_among u.tid (received (log_of after u.receiver))) found false) named
            ∙ has given refl done grew)
            (λ fails. let is = refused-is given fails in refuses is (subst (λ a. HaveGrown before after (taken_in a unit)) is grew))
            ∙ sym (ap (λ b. event_of (cond b (back_of given) None) claim.number) arrives);
      }
    where
      refused-is : (given : Answer) → back_of given ≡ Some core.SysFail → given ≡ answer.SysFail
      refused-is answer.SysFail is = refl
      refused-is answer.New is = cc
      refused-is answer.Run is = cc
      refused-is answer.Known is = cc
      refused-is answer.Busy is = cc
      refused-is answer.Down is = cc

module _ {R A V : Type 0} (before between after : KeptOf R A V) (unit : AleUnit) (given : Answer) (letter : Letter)
    (arrives : arrives_under letter ≡ true) where
  delivery-parts : accepted given unit ++ run_of given unit ≡ delivery letter given unit
  delivery-parts = taken-parts given unit ∙ sym (ap (λ b. cond b (taken_in given unit) []) arrives)

  -- its receiver fell as it was to take it in
  pub delivered-first : WasCut before between (accepted given unit) → after ≡ between → WasCut before after (delivery letter given unit)
  delivered-first fell same = subst (λ (k : KeptOf R A V). WasCut before k (delivery letter given unit)) (sym same) (record {
    cut = subst (λ xs. AppendedAs before between xs false) delivery-parts (cut-before before between (accepted given unit) (run_of given unit) fell.cut);
    claims = fell.claims;
  })

  -- or as the run of it was to end
  pub delivered-run : Wholly before.world between.world (accepted given unit) → WasCut between after (run_of given unit)
      → WasCut before after (delivery letter given unit)
  delivered-run first fell = record {
    cut = subst (λ xs. AppendedAs before after xs false) delivery-parts
        (appended-on before between after (accepted given unit) (run_of given unit) first false fell.cut);
    claims = fell.claims;
  }

-- ---- its receiver falls behind that

-- a receiver that is up answers, and one that is down does not
answered-down : (up among claimed empty offers : Bool)
    → is_down (cond (not up) answer.Down (cond among answer.Known (cond claimed answer.Busy (cond empty (cond offers answer.Run answer.SysFail) answer.New))))
    ≡ not up
answered-down false among claimed empty offers = refl
answered-down true true claimed empty offers = refl
answered-down true false true empty offers = refl
answered-down true false false true true = refl
answered-down true false false true false = refl
answered-down true false false false offers = refl

-- so a letter that fells the receiver does where that is up
fells-up : {R : Type 0} (rules : Meaning) (world : World R) (unit : AleUnit) (letter : Letter)
    → fells letter (answer_to rules world unit) ≡ (falls_under letter && is_up world unit.receiver)
fells-up rules world unit letter =
    ap (λ b. falls_under letter && not b)
    (answered-down (is_up world unit.receiver) (is_among unit.tid (received (log_of world unit.receiver))) (is_claimed Direct unit.tid world.claims)
    (is_empty unit.inq) (offers_now rules world unit.receiver unit.function))
    ∙ ap (λ b. falls_under letter && b) (twice-not (is_up world unit.receiver))
  where
    twice-not : (b : Bool) → not (not b) ≡ b
    twice-not true = refl
    twice-not false = refl

-- a receiver appends what is delivered
delivery-here : (letter : Letter) (given : Answer) (unit : AleUnit) → EachIs (λ it. it.system ≡ unit.receiver) (delivery letter given unit)
delivery-here letter given unit = each-if (λ it. it.system ≡ unit.receiver) (arrives_under letter) (taken_in given unit) (taken given)
  where
    taken : (a : Answer) → EachIs (λ it. it.system ≡ unit.receiver) (taken_in a unit)
    taken answer.New = (refl, tt)
    taken answer.Run = (refl, tt)
    taken answer.Known = tt
    taken answer.Busy = tt
    taken answer.SysFail = tt
    taken answer.Down = tt

module _ {R A V : Type 0} (meaning : R → Meaning) (before between after : KeptOf R A V) (claim : OutClaim) (unit : AleUnit) (letter : Letter)
    (told : Reply) where
  abbrev Answers : Answer
  Answers = answer_to (meaning before.world.rules) before.world unit

  -- a letter fells the receiver of a unit that was delivered where that is up then
  fells-then : HasDelivered (meaning between.world.rules) before.world between.world claim unit letter Answers told
      → fells letter Answers ≡ (falls_under letter && is_up between.world unit.receiver)
  fells-then came =
      let grew = came.grew in
      fells-up (meaning before.world.rules) before.world unit letter ∙ ap (λ b. falls_under letter && b) (sym (grew.stand unit.receiver).0)

  -- a unit was delivered, and its receiver fell, or did not
  pub handled : DeliveredSo (meaning between.world.rules) before between claim unit letter Answers told
      → FellIf between after (falls_under letter && is_up between.world unit.receiver) unit.receiver
      → HandledSo (meaning after.world.rules) before after claim unit letter Answers told
  handled did fell = elim (cases_Bool (falls_under letter && is_up between.world unit.receiver)) [
    | inl falls ↦ felled falls (subst (λ b. FellIf between after b unit.receiver) falls fell)
    | inr stays ↦ still stays (subst (λ b. FellIf between after b unit.receiver) stays fell)
  ]
    where
      felled : (falls_under letter && is_up between.world unit.receiver) ≡ true → FellIf between after true unit.receiver
          → HandledSo (meaning after.world.rules) before after claim unit letter Answers told
      felled falls its = elim did [
        | inl came ↦
            inr (inr (record {
              fells_it = fells-then came ∙ falls;
              felled = subst (λ xs. Felled before after xs unit.receiver) (append-nil (delivery letter Answers unit))
                  (felled-behind before between after (delivery letter Answers unit) [] unit.receiver came.grew its.0);
              claims = its.1;
            }))
        | inr fell_then ↦
            let done = fell_then.cut in
            let cut = done.4 in
            let here : done.2.system ≡ unit.receiver =
            each-next (λ it. it.system ≡ unit.receiver) done.0 done.2 done.1
            (subst (EachIs (λ it. it.system ≡ unit.receiver)) done.3 (delivery-here letter Answers unit)) in
            let fell_now = its.0 in
            absurd (both_ways (is_up between.world unit.receiver) (subst (λ s. is_up between.world s ≡ false) here cut.fell) fell_now.up)
      ]

      still : (falls_under letter && is_up between.world unit.receiver) ≡ false → after ≡ between
          → HandledSo (meaning after.world.rules) before after claim unit letter Answers told
      still stays same = elim did [
        | inl came ↦
            inl (
              subst (λ (k : KeptOf R A V). HasDelivered (meaning k.world.rules) before.world k.world claim unit letter Answers told) (sym same) came,
              fells-then came ∙ stays,
            )
        | inr fell_then ↦ inr (inl (subst (λ (k : KeptOf R A V). WasCut before k (delivery letter Answers unit)) (sym same) fell_then))
      ]

-- what is appended as a unit is shipped under a letter that fells its receiver is what that takes in
felled-shipment : (letter : Letter) (given : Answer) (unit : AleUnit) → fells letter given ≡ true → shipment letter given unit ≡ delivery letter given unit
felled-shipment ReceiverFalls given unit is =
    ap (λ b. taken_in given unit ++ cond b [] (noted_of None unit.tid) ++ []) is
    ∙ append-nil (taken_in given unit ++ []) ∙ append-nil (taken_in given unit)
felled-shipment Whole given unit is = cc
felled-shipment LostRequest given unit is = cc
felled-shipment LostReply given unit is = cc
felled-shipment Twice given unit is = cc
felled-shipment LostConfirmation given unit is = cc

-- ---- the sender learns of it

-- what a sender is told under a letter is what it learns
pub event-told : {R : Type 0} (rules : Meaning) (world : World R) (claim : OutClaim) (letter : Letter) (given : Answer) (told : Reply)
    → reply_event rules world claim told ≡ event_of (back_under letter given) claim.number
    → reply_event rules world claim (told_of letter told) ≡ event_of (learnt_under letter given) claim.number
event-told rules world claim Whole given told same = same
event-told rules world claim LostRequest given told same = refl
event-told rules world claim LostReply given told same = refl
event-told rules world claim Twice given told same = same
event-told rules world claim LostConfirmation given told same = same
event-told rules world claim ReceiverFalls given told same = refl

-- ---- what the sender and the receiver read then

taken-none : {T : Type 0} (of : Record → Option T) (unit : AleUnit) → of (log.Accept unit) ≡ None → of (log.Direct unit) ≡ None → (given : Answer)
    → NoneCounts of (taken_in given unit)
taken-none of unit accept direct answer.New = (accept, tt)
taken-none of unit accept direct answer.Run = (direct, tt)
taken-none of unit accept direct answer.Known = tt
taken-none of unit accept direct answer.Busy = tt
taken-none of unit accept direct answer.SysFail = tt
taken-none of unit accept direct answer.Down = tt

if-none : {T : Type 0} (of : Record → Option T) (b : Bool) (added : List Writing) → NoneCounts of added → NoneCounts of (cond b added [])
if-none of true added none = none
if-none of false added none = tt

noted-none : {T : Type 0} (of : Record → Option T) (tid : TidOf) → of (log.Done tid) ≡ None → of (log.Mark tid Sysfail) ≡ None
    → of (log.Mark tid Cpicerr) ≡ None → (learnt : Option CoreAnswer) → NoneCounts of (noted_of learnt tid)
noted-none of tid done refused lost (Some core.Done) = (done, tt)
noted-none of tid done refused lost (Some core.SysFail) = (refused, tt)
noted-none of tid done refused lost (Some core.Busy) = tt
noted-none of tid done refused lost None = (lost, tt)

undone-none : (tid : TidOf) (learnt : Option CoreAnswer) → is_done learnt ≡ false → NoneCounts done_by (noted_of learnt tid)
undone-none tid (Some core.Done) other = cc
undone-none tid (Some core.SysFail) other = (refl, tt)
undone-none tid (Some core.Busy) other = tt
undone-none tid None other = (refl, tt)

done-is : (learnt : Option CoreAnswer) → is_done learnt ≡ true → learnt ≡ Some core.Done
done-is (Some core.Done) is = refl
done-is (Some core.SysFail) is = cc
done-is (Some core.Busy) is = cc
done-is None is = cc

done-back : (answered : Bool) (back : Option CoreAnswer) → cond answered back None ≡ Some core.Done → back ≡ Some core.Done
done-back true back is = is
done-back false back is = cc

-- logs that grew by records that do not count read as before
grown-read : {R T : Type 0} (of : Record → Option T) (before after : World R) (added : List Writing) → HaveGrown before after added → NoneCounts of added
    → (system : ℕ) → filter_map of (log_of after system) ≡ filter_map of (log_of before system)
grown-read of before after added grew none system = ap (filter_map of) (grew system) ∙ read-same of system added none (log_of before system)

-- ---- a unit is shipped

-- a unit that is claimed to be shipped is of a sender that is up, and not done, not ended and not forgotten
record IsOpen {R : Type 0} (world : World R) (unit : AleUnit) : Type 0 where
  up : is_up world unit.tid.system ≡ true
  not_done : is_listed unit.tid (done_in (log_of world unit.tid.system)) ≡ false
  not_ended : is_listed unit.tid (ended_in (log_of world unit.tid.system)) ≡ false
  not_forgot : forgot world unit ≡ false

module _ {R : Type 0} (rules : Meaning) (lawful : IsLawful rules) (world : World R) (safe : Safe rules world) where
  -- a unit that is ended is done
  ended-done : (system : ℕ) (tid : TidOf) → is_listed tid (ended_in (log_of world system)) ≡ true → is_listed tid (done_in (log_of world tid.system)) ≡ true
  ended-done system tid listed =
      let was = All-contains
      (λ (t : TidOf). (unit : AleUnit) × (unit.tid ≡ t) × Contains (rules.committed system (log_of world system)) unit
      × Contains (forgotten_in (log_of world unit.receiver)) t)
      (ended_in (log_of world system)) tid ((sound_now rules lawful world safe).once.ended_was_forgotten system)
      (Contains-is_listed tid (ended_in (log_of world system)) listed) in
      forgotten_unit rules lawful world safe (was.0).receiver tid
      (is_listed-Contains tid (forgotten_in (log_of world (was.0).receiver)) was.3)

  claimed-open : (claim : OutClaim) → stands_out world claim ≡ true → (unit : AleUnit) → committed_unit rules world claim.tid ≡ Some unit → IsOpen world unit
  claimed-open claim stands unit named =
      let there = held-out world claim stands in
      let held : Held = there.0 in
      let holds = there.1 in
      let has = (claim_of-Some claim.number world.claims held holds.found).0 in
      let shipped = shipped_unit rules lawful world safe held has holds.kind in
      let equal : shipped.0 ≡ unit =
      let found = subst (λ t. committed_unit rules world t ≡ Some shipped.0) holds.its shipped.1 in
      cc (found, named) in
      let its : unit.tid ≡ claim.tid = (committed_unit-is rules lawful world safe claim.tid unit named).1 in
      let sender : held.system ≡ unit.tid.system =
      shipped_by rules lawful world safe held has holds.kind ∙ ap (λ (t : TidOf). t.system) (holds.its ∙ sym its) in
      let not_done : is_listed unit.tid (done_in (log_of world unit.tid.system)) ≡ false =
      subst (λ (t : TidOf). is_listed unit.tid (done_in (log_of world t.system)) ≡ false) (holds.its ∙ sym its)
      (subst (λ (u : AleUnit). is_listed u.tid (done_in (log_of world held.tid.system)) ≡ false) equal shipped.2) in
      record {
        up = subst (λ s. is_up world s ≡ true) sender (claim_up rules lawful world safe held has);
        not_done = not_done;
        not_ended = false_from_ne_true (is_listed unit.tid (ended_in (log_of world unit.tid.system))) (λ ended.
            both_ways (is_listed unit.tid (done_in (log_of world unit.tid.system))) not_done (ended-done unit.tid.system unit.tid ended));
        not_forgot = false_from_ne_true (forgot world unit) (λ forgotten.
            both_ways (is_listed unit.tid (done_in (log_of world unit.tid.system))) not_done
            (forgotten_unit rules lawful world safe unit.receiver unit.tid forgotten));
      }

-- what stands behind a condition that holds, or does not
closing-if : (confirmed done : Bool) (added : List Writing) → done ≡ true → cond (confirmed && done) added [] ≡ cond confirmed added []
closing-if true done added is = ap (λ b. cond b added []) is
closing-if false done added is = refl

closing-not : (confirmed done : Bool) (added : List Writing) → done ≡ false → cond (confirmed && done) added [] ≡ []
closing-not true done added is = ap (λ b. cond b added []) is
closing-not false done added is = refl

and-not : (b c : Bool) → c ≡ false → (b && c) ≡ false
and-not true c is = is
and-not false c is = refl

-- what a sender notes it appends itself
noted-here : (learnt : Option CoreAnswer) (tid : TidOf) → EachIs (λ it. it.system ≡ tid.system) (noted_of learnt tid)
noted-here (Some core.Done) tid = (refl, tt)
noted-here (Some core.SysFail) tid = (refl, tt)
noted-here (Some core.Busy) tid = tt
noted-here None tid = (refl, tt)

module _ {R A V : Type 0} (rules : Meaning) (lawful : IsLawful rules) (before delivered : KeptOf R A V) (safe : Safe rules before.world)
    (claim : OutClaim) (stands : stands_out before.world claim ≡ true) (unit : AleUnit) (named : committed_unit rules before.world claim.tid ≡ Some unit)
    (letter : Letter) where
  abbrev Given : Answer
  Given = answer_to rules before.world unit

  abbrev Learnt : Option CoreAnswer
  Learnt = learnt_under letter (answer_to rules before.world unit)

  abbrev Taken : List Writing
  Taken = delivery letter (answer_to rules before.world unit) unit

  abbrev Closing : List Writing
  Closing = cond (is_confirmed_under letter && is_done Learnt) (closing unit) []

  its : unit.tid ≡ claim.tid
  its = (committed_unit-is rules lawful before.world safe claim.tid unit named).1

  open_ : IsOpen before.world unit
  open_ = claimed-open rules lawful before.world safe claim stands unit named

  -- where the letter fells no receiver, these are the records
  all-noted : fells letter (answer_to rules before.world unit) ≡ false
      → Taken ++ noted_of Learnt unit.tid ++ Closing ≡ shipment letter (answer_to rules before.world unit) unit
  all-noted none = sym (ap (λ b. Taken ++ cond b [] (noted_of Learnt unit.tid) ++ Closing) none)

  -- what was taken in says of no unit that it is done
  taken-counts : {T : Type 0} (of : Record → Option T) → of (log.Accept unit) ≡ None → of (log.Direct unit) ≡ None → NoneCounts of Taken
  taken-counts of accept direct = if-none of (arrives_under letter) (taken_in Given unit) (taken-none of unit accept direct Given)

  -- a unit that is not done is not unconfirmed
  undone-not : (world : World R) → is_listed unit.tid (done_in (log_of world unit.tid.system)) ≡ false
      → (is_up world claim.tid.system && is_unconfirmed claim.tid (log_of world claim.tid.system)) ≡ false
  undone-not world undone =
      and-not (is_up world claim.tid.system) (is_unconfirmed claim.tid (log_of world claim.tid.system))
      (ap (λ b. b && not (is_listed claim.tid (ended_in (log_of world claim.tid.system))))
      (subst (λ (t : TidOf). is_listed t (done_in (log_of world t.system)) ≡ false) its undone))

  -- a unit that was delivered, and of which no more is known, is not unconfirmed
  undone-grown : (after : KeptOf R A V) (done : List Writing) → HaveGrown before.world delivered.world done → NoneCounts done_by done → after ≡ delivered
      → (is_up after.world claim.tid.system && is_unconfirmed claim.tid (log_of after.world claim.tid.system)) ≡ false
  undone-grown after done grew none still =
      undone-not after.world
      (ap (λ (k : KeptOf R A V). is_listed unit.tid (done_in (log_of k.world unit.tid.system))) still
      ∙ ap (is_listed unit.tid) (grown-read done_by before.world delivered.world done grew none unit.tid.system)
      ∙ open_.not_done)

  -- its receiver fell as it was delivered, and then nothing happened
  pub shipped-cut : WasCut before delivered Taken → (replied confirmed : KeptOf R A V) → replied ≡ delivered
      → ((is_up replied.world claim.tid.system && is_unconfirmed claim.tid (log_of replied.world claim.tid.system)) ≡ false → confirmed ≡ replied)
      → Shipped before confirmed letter (answer_to rules before.world unit) unit
  shipped-cut fell replied confirmed still same =
      let cut = fell.cut in
      let at = cut.4 in
      let none : NoneCounts done_by cut.0 =
      each-first (λ it. done_by it.next ≡ None) cut.0 (cut.2 ∷ cut.1)
      (subst (EachIs (λ it. done_by it.next ≡ None)) cut.3 (taken-counts done_by refl refl)) in
      let undone = undone-grown replied cut.0 at.grew none still in (
        false,
        inl (subst (λ (k : KeptOf R A V). AppendedAs before k (shipment letter (answer_to rules before.world unit) unit) false) (sym (same undone ∙ still))
            (cut-before before delivered (Taken ++ noted_under letter Given unit.tid) Closing
            (cut-before before delivered Taken (noted_under letter Given unit.tid) fell.cut))),
      )

  -- so it was where its receiver was felled behind that
  pub shipped-felled : WasFelled before delivered unit letter (answer_to rules before.world unit) → (replied confirmed : KeptOf R A V)
      → replied ≡ delivered
      → ((is_up replied.world claim.tid.system && is_unconfirmed claim.tid (log_of replied.world claim.tid.system)) ≡ false → confirmed ≡ replied)
      → Shipped before confirmed letter (answer_to rules before.world unit) unit
  shipped-felled felled replied confirmed still same =
      let fell = felled.felled in
      let undone = undone-grown replied Taken fell.grew (taken-counts done_by refl refl) still in (
        false,
        inr (
          felled.fells_it,
          subst (λ (k : KeptOf R A V). Felled before k (shipment letter (answer_to rules before.world unit) unit) unit.receiver) (sym (same undone ∙ still))
              (subst (λ xs. Felled before delivered xs unit.receiver) (sym (felled-shipment letter Given unit felled.fells_it)) fell),
        ),
      )

  module _ (replied confirmed : KeptOf R A V) (first : Wholly before.world delivered.world Taken) where
    module _ (second : Wholly delivered.world replied.world (noted_of Learnt unit.tid)) where
      not-ended : is_listed unit.tid (ended_in (log_of replied.world unit.tid.system)) ≡ false
      not-ended =
          ap (is_listed unit.tid) (grown-read ended_by delivered.world replied.world (noted_of Learnt unit.tid) second.grew
          (noted-none ended_by unit.tid refl refl refl Learnt) unit.tid.system
          ∙ grown-read ended_by before.world delivered.world Taken first.grew (taken-counts ended_by refl refl) unit.tid.system)
          ∙ open_.not_ended

      not-forgot : forgot replied.world unit ≡ false
      not-forgot =
          ap (is_listed unit.tid) (grown-read forgotten_by delivered.world replied.world (noted_of Learnt unit.tid) second.grew
          (noted-none forgotten_by unit.tid refl refl refl Learnt) unit.receiver
          ∙ grown-read forgotten_by before.world delivered.world Taken first.grew (taken-counts forgotten_by refl refl) unit.receiver)
          ∙ open_.not_forgot

      still-up : (system : ℕ) → is_up before.world system ≡ true → is_up replied.world system ≡ true
      still-up system up = (second.stand system).0 ∙ (first.stand system).0 ∙ up

      -- where the sender learnt that the unit is done, its confirmation is due
      due : is_done Learnt ≡ true → is_due replied.world unit ≡ true
      due is =
          let learnt = done-is Learnt is in
          let up = still-up unit.tid.system open_.up in
          let receiver = still-up unit.receiver (done-up rules before.world unit (done-back (is_answered_under letter) (back_of Given) learnt)) in
          let grew : HaveGrown delivered.world replied.world (one_at unit.tid.system (log.Done unit.tid)) =
          subst (λ l. HaveGrown delivered.world replied.world (noted_of l unit.tid)) learnt second.grew in
          let done : is_listed unit.tid (done_in (log_of replied.world unit.tid.system)) ≡ true =
          ap (λ l. is_listed unit.tid (done_in l))
          (grew unit.tid.system ∙ ap (λ l. log_of delivered.world unit.tid.system ++ l) (record-here unit.tid.system (log.Done unit.tid)))
          ∙ ap (is_listed unit.tid) (filter_map-Some done_by (log_of delivered.world unit.tid.system) (log.Done unit.tid) unit.tid refl)
          ∙ listed-behind unit.tid (done_in (log_of delivered.world unit.tid.system)) in
          and_from (is_up replied.world unit.tid.system && is_up replied.world unit.receiver) (is_unconfirmed unit.tid (log_of replied.world unit.tid.system))
          (and_from (is_up replied.world unit.tid.system) (is_up replied.world unit.receiver) up receiver)
          (and_from (is_listed unit.tid (done_in (log_of replied.world unit.tid.system)))
          (not (is_listed unit.tid (ended_in (log_of replied.world unit.tid.system)))) done
          (ap not not-ended))

      -- and else it is not done
      undone : is_done Learnt ≡ false → is_listed unit.tid (done_in (log_of replied.world unit.tid.system)) ≡ false
      undone is =
          ap (is_listed unit.tid)
          (grown-read done_by delivered.world replied.world (noted_of Learnt unit.tid) second.grew (undone-none unit.tid Learnt is) unit.tid.system
          ∙ grown-read done_by before.world delivered.world Taken first.grew (taken-counts done_by refl refl) unit.tid.system)
          ∙ open_.not_done

    -- where the letter fells no receiver, the sender notes what it learns
    so-shipped : fells letter Given ≡ false → (whole : Bool) → AppendedAs before confirmed (Taken ++ noted_of Learnt unit.tid ++ Closing) whole
        → ShippedSo before confirmed letter Given unit whole
    so-shipped none true did = (subst (λ xs. AppendedAs before confirmed xs true) (all-noted none) did, none)
    so-shipped none false did = inl (subst (λ xs. AppendedAs before confirmed xs false) (all-noted none) did)

    -- the records of the whole shipment, or those before the one at which a system fell
    pub shipped-noted : fells letter (answer_to rules before.world unit) ≡ false → (whole : Bool)
        → AppendedAs delivered replied (noted_of Learnt claim.tid) whole
        → (is_due replied.world unit ≡ true
        → Appended replied confirmed (cond (is_confirmed_under letter) (confirmation Whole (forgot replied.world unit) unit) []))
        → ((is_up replied.world claim.tid.system && is_unconfirmed claim.tid (log_of replied.world claim.tid.system)) ≡ false → confirmed ≡ replied)
        → Shipped before confirmed letter (answer_to rules before.world unit) unit
    shipped-noted none true second sent same =
        let noted : Wholly delivered.world replied.world (noted_of Learnt unit.tid) =
        subst (λ t. Wholly delivered.world replied.world (noted_of Learnt t)) (sym its) second in
        let last : Appended replied confirmed Closing =
        elim (cases_Bool (is_done Learnt)) [
          | inl is ↦
              subst (Appended replied confirmed)
              (ap (λ b. cond (is_confirmed_under letter) (confirmation Whole b unit) []) (not-forgot noted)
              ∙ sym (closing-if (is_confirmed_under letter) (is_done Learnt) (closing unit) is))
              (sent (due noted is))
          | inr other ↦
              subst (Appended replied confirmed) (sym (closing-not (is_confirmed_under letter) (is_done Learnt) (closing unit) other))
              (true, wholly-same replied.world confirmed.world (ap (λ (k : KeptOf R A V). k.world) (same (undone-not replied.world (undone noted other)))))
        ] in (
          last.0,
          so-shipped none last.0 (appended-on before replied confirmed (Taken ++ noted_of Learnt unit.tid) Closing
              (wholly-on before.world delivered.world replied.world Taken (noted_of Learnt unit.tid) first noted) last.0 last.1),
        )
    shipped-noted none false second sent same =
        let noted : AppendedAs delivered replied (noted_of Learnt unit.tid) false =
        subst (λ t. AppendedAs delivered replied (noted_of Learnt t) false) (sym its) second in
        let cut = second.4 in
        let here : second.2.system ≡ claim.tid.system =
        each-next (λ it. it.system ≡ claim.tid.system) second.0 second.2 second.1
        (subst (EachIs (λ it. it.system ≡ claim.tid.system)) second.3 (noted-here Learnt claim.tid)) in
        let down : is_up replied.world claim.tid.system ≡ false = subst (λ s. is_up replied.world s ≡ false) here cut.fell in (
          false,
          so-shipped none false (subst (λ (k : KeptOf R A V). AppendedAs before k (Taken ++ noted_of Learnt unit.tid ++ Closing) false)
              (sym (same (ap (λ b. b && is_unconfirmed claim.tid (log_of replied.world claim.tid.system)) down)))
              (cut-before before replied (Taken ++ noted_of Learnt unit.tid) Closing
              (appended-on before delivered replied Taken (noted_of Learnt unit.tid) first false noted))),
        )

-- ---- a unit is confirmed

-- the parts of what is due
pub due-parts : {R : Type 0} (world : World R) (unit : AleUnit) → is_due world unit ≡ true
    → (is_up world unit.tid.system ≡ true) × (is_up world unit.receiver ≡ true) × (is_unconfirmed unit.tid (log_of world unit.tid.system) ≡ true)
due-parts world unit due =
    let parts = and_parts (is_up world unit.tid.system && is_up world unit.receiver) (is_unconfirmed unit.tid (log_of world unit.tid.system)) due in
    let ups = and_parts (is_up world unit.tid.system) (is_up world unit.receiver) parts.0 in
    (ups.0, ups.1, parts.1)

-- a unit that its sender, which is up, says is done and not ended is done
pub done-of : {R : Type 0} (world : World R) (tid : TidOf) → (is_up world tid.system && is_unconfirmed tid (log_of world tid.system)) ≡ true
    → is_listed tid (done_in (log_of world tid.system)) ≡ true
done-of world tid is =
    let parts = and_parts (is_up world tid.system) (is_unconfirmed tid (log_of world tid.system)) is in
    (and_parts (is_listed tid (done_in (log_of world tid.system))) (not (is_listed tid (ended_in (log_of world tid.system)))) parts.1).0

sent-none : (unit : AleUnit) (forgotten : Bool) → NoneCounts ended_by (sent_to forgotten unit)
sent-none unit true = tt
sent-none unit false = (refl, tt)

module _ {R A V : Type 0} (before sent : KeptOf R A V) (tid : TidOf) (unit : AleUnit) where
  module _ (its : unit.tid ≡ tid) (due : is_due before.world unit ≡ true)
      (first : Wholly before.world sent.world (sent_to (forgot before.world unit) unit)) where
    -- a unit that is sent its confirmation is not ended yet
    pub sent-lasts : is_listed tid (ended_in (log_of sent.world tid.system)) ≡ false
    sent-lasts =
        let parts = due-parts before.world unit due in
        let lasts = and_parts (is_listed unit.tid (done_in (log_of before.world unit.tid.system)))
        (not (is_listed unit.tid (ended_in (log_of before.world unit.tid.system)))) parts.2 in
        subst (λ (t : TidOf). is_listed t (ended_in (log_of sent.world t.system)) ≡ false) its
        (ap (is_listed unit.tid)
        (grown-read ended_by before.world sent.world (sent_to (forgot before.world unit) unit) first.grew (sent-none unit (forgot before.world unit))
        unit.tid.system)
        ∙ not-true (is_listed unit.tid (ended_in (log_of before.world unit.tid.system))) lasts.1)

    pub sent-up : is_up sent.world tid.system ≡ true
    sent-up =
        let parts = due-parts before.world unit due in
        (first.stand tid.system).0 ∙ subst (λ (t : TidOf). is_up before.world t.system ≡ true) its parts.0

    -- the records of the whole confirmation, or that of the receiver alone where the sender fell
    pub confirmed-ended : (ended : KeptOf R A V) → Appended sent ended (one_at tid.system (log.Ended tid))
        → Appended before ended (confirmation Whole (forgot before.world unit) unit)
    confirmed-ended ended last = (
      last.0,
      appended-on before sent ended (sent_to (forgot before.world unit) unit) (one_at unit.tid.system (log.Ended unit.tid)) first last.0
          (subst (λ (t : TidOf). AppendedAs sent ended (one_at t.system (log.Ended t)) last.0) (sym its) last.1),
    )

  -- where the receiver fell, nothing is appended
  pub confirmed-cut : AppendedAs before sent (sent_to (forgot before.world unit) unit) false
      → Appended before sent (confirmation Whole (forgot before.world unit) unit)
  confirmed-cut cut = (
    false,
    cut-before before sent (sent_to (forgot before.world unit) unit) (one_at unit.tid.system (log.Ended unit.tid)) cut,
  )

-- a unit of an id is due where both its systems are up and the id is unconfirmed
pub due-of : {R : Type 0} (world : World R) (tid : TidOf) (unit : AleUnit) → unit.tid ≡ tid → is_up world unit.receiver ≡ true
    → (is_up world tid.system && is_unconfirmed tid (log_of world tid.system)) ≡ true → is_due world unit ≡ true
due-of world tid unit its receiver sender =
    let parts = and_parts (is_up world tid.system) (is_unconfirmed tid (log_of world tid.system)) sender in
    and_from (is_up world unit.tid.system && is_up world unit.receiver) (is_unconfirmed unit.tid (log_of world unit.tid.system))
    (and_from (is_up world unit.tid.system) (is_up world unit.receiver) (ap (λ (t : TidOf). is_up world t.system) its ∙ parts.0) receiver)
    (ap (λ (t : TidOf). is_unconfirmed t (log_of world t.system)) its ∙ parts.1)

-- and else it is not
pub due-not : {R : Type 0} (world : World R) (tid : TidOf) (unit : AleUnit) → unit.tid ≡ tid → is_due world unit ≡ true
    → (is_up world tid.system && is_unconfirmed tid (log_of world tid.system)) ≡ false → ⊥
due-not world tid unit its due none =
    let parts = due-parts world unit due in
    both_ways (is_up world tid.system && is_unconfirmed tid (log_of world tid.system)) none
    (subst (λ (t : TidOf). (is_up world t.system && is_unconfirmed t (log_of world t.system)) ≡ true) its
    (and_from (is_up world unit.tid.system) (is_unconfirmed unit.tid (log_of world unit.tid.system)) parts.0 parts.2))
