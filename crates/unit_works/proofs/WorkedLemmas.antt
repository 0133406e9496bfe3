-- Works one after the other, of a landscape whose systems work by models.
use Rattle.ale_volumes.specs.Disk.{Disk}
use Rattle.unit_landscape.proofs.FinishingLemmas.{in-stands}
use Rattle.std.specs.Prelude.{Result, Ok, Err, IfOk, IsErr, OnOk, ◌==◌, filter}
use Rattle.ale_base.specs.declared.out_of_memory.OutOfMemory.{OutOfMemory}
use Rattle.std.specs.Result.{is_ok}
use Rattle.std.proofs.Common.{◌≡◌, ◌≤◌, ◌+◌, ℕ, Bool, true, not, cond, Option, Some, None, List, [], ◌&&◌, inl, inr, refl, sym, ap, subst, ◌∙◌, arith, false}
use Rattle.std.proofs.lemmas.Bool.{both_ways, cases_Bool}
use Rattle.std.proofs.lemmas.Option.{same_Some}
use Rattle.ale_base.specs.Tid.{TidOf}
use Rattle.unit_core.specs.declared.ale_unit.AleUnit.{AleUnit}
use Rattle.trfc_protocol.specs.declared.event.Event.{Event}
use Rattle.trfc_protocol.specs.declared.event.Event.TheVariants as event
use Rattle.trfc_protocol.specs.declared.event.ReplyTo.TheVariants.{Claim, Forgotten}
use Rattle.unit_core.specs.declared.records.Record.TheVariants.{Ended}
use Rattle.unit_core.specs.Filters.{ended_in}
use Rattle.unit_core.specs.Queues.{is_listed}
use Rattle.system_tables.specs.OfLog.{is_unconfirmed}
use Rattle.trfc_protocol.specs.declared.answer.Answer.{Answer}
use Rattle.trfc_protocol.specs.declared.event.CoreAnswer.{CoreAnswer}
use Rattle.trfc_protocol.specs.declared.held.Held.{Held}
use Rattle.trfc_protocol.specs.declared.held.HeldKind.TheVariants.{In}
use Rattle.trfc_protocol.specs.Legal.{IsLawful}
use Rattle.trfc_protocol.specs.Meaning.{Meaning}
use Rattle.trfc_protocol.specs.Offered.{answer_to, offers_received_now}
use Rattle.trfc_protocol.specs.declared.world.World.{World}
use Rattle.trfc_protocol.specs.Worlds.{claim_of, committed_unit, is_up, log_of, without_claim}
use Rattle.trfc_protocol.proofs.SafeLemmas.{committed_unit-is}
use Rattle.unit_landscape.specs.KeptWorlds.{KeptOf}
use Rattle.unit_landscape.specs.declared.answers.Arrival.{Arrival}
use Rattle.unit_landscape.specs.declared.answers.Arrival.TheVariants as arrival
use Rattle.unit_landscape.specs.declared.answers.Reply.{Reply}
use Rattle.unit_landscape.specs.declared.answers.Reply.TheVariants.{Lost}
use Rattle.document_state.specs.declared.document_tables.DocumentTables.{DocumentTables}
use Rattle.document_state.specs.declared.model_rules.ModelRules.{ModelRules}
use Rattle.document_state.specs.Meaning.{model_meaning}
use Rattle.document_state.specs.LawfulLemmas.{lawful}
use Rattle.unit_landscape.specs.declared.answers.Finished.{Finished}
use Rattle.unit_landscape.specs.declared.answers.Finished.TheVariants as finished
use Rattle.unit_landscape.specs.declared.claims.InClaim.{InClaim}
use Rattle.unit_landscape.specs.declared.claims.OutClaim.{OutClaim}
use Rattle.unit_landscape.specs.declared.answers.Confirmed.{Confirmed}
use Rattle.unit_landscape.specs.declared.answers.Confirmed.TheVariants.{Down}
use Rattle.unit_landscape.specs.Appending.{HoldsIn}
use Rattle.unit_landscape.specs.Calls.{is_on, is_out, reply_event, stands_in, stands_out}
use Rattle.unit_landscape.specs.Kept.{IsLandscape}
use Rattle.unit_works.specs.declared.letter.Letter.{Letter}
use Rattle.unit_works.specs.declared.letter.Letter.TheVariants.{Whole}
use Rattle.unit_works.specs.Wires.{letters_left, next_letter}
use Rattle.unit_works.specs.Claims.{AreOrGone, OneFell}
use Rattle.unit_works.specs.Events.{arrives_under, falls_under, is_answered_under, is_arrival, is_confirmation, is_confirmed_under, is_confirming, is_delivery, is_end}
use Rattle.unit_works.specs.Events.{is_claim, is_fall, is_run, is_execution, is_lost, is_reply, is_shipping, is_work, told_of}
use Rattle.unit_works.specs.Finished.{finished_in}
use Rattle.unit_works.specs.Acts.{HasShipped, WasShipped}
use Rattle.unit_works.specs.Trips.{Appended, AppendedAs, Shipped, ShippedSo, confirmation, execution, forgot, is_due, learnt_under, may_ship, noted_of}
use Rattle.unit_works.specs.Trips.{one_at, worked_by}
use Rattle.unit_works.specs.Worked.{HasTaken, HaveEnded, Lines, Worked}
use Rattle.unit_works.specs.Works.{ClaimExecutedAs, ClaimShippedAs, ExecutedAs, ShippedAs}
use Rattle.unit_works.specs.steps.Arriving.{AnsweredSo, ArrivedSo, ClaimsAre, ClaimsCome, DeliveredSo, IsAnswered, Tells, event_of}
use Rattle.unit_works.specs.steps.Confirming.{SentSo}
use Rattle.unit_works.specs.steps.Felling.{FellIf, HandledSo}
use Rattle.unit_works.specs.Claiming.{IsExecuted, IsShipped, in_held}
use Rattle.unit_works.specs.Claiming.{out_held}
use Rattle.unit_works.specs.steps.Ending.{FinishedSo, ended_by}
use Rattle.unit_works.proofs.ArrivingLemmas.{claimed-committed}
use Rattle.unit_works.proofs.ClaimLemmas.{claimed-executes, claimed-ships, found-last, left-last, stands-gone}
use Rattle.unit_works.proofs.GrowthLemmas.{appended-on, shipped-behind}
use Rattle.unit_works.proofs.TripLemmas.{confirmed-cut, confirmed-ended, delivered-first, delivered-on, delivered-run, event-told, sent-lasts, sent-up}
use Rattle.unit_works.proofs.TripLemmas.{handled, shipped-cut, shipped-felled, shipped-noted}
use Rattle.unit_works.proofs.WentLemmas.{up-least, went-on, went-same, went-whole, went-wider}

-- what the rules of a landscape mean
abbrev pub meaning : ModelRules → Meaning
meaning rules = model_meaning rules.systems

pub is_lawful : (rules : ModelRules) → IsLawful (meaning rules)
is_lawful rules = lawful rules.systems rules.least rules.most

-- what follows of an answer holds after it
pub ok-of : {T E Q : Type 0} (result : Result T E) (P : T → Type 0) → IfOk result P → ((x : T) → P x → Q) → OnOk result Q
ok-of (Ok x) P is follows = follows x is
ok-of (Err e) P is follows = tt

-- ---- events

module _ {V : Type 0} (disk : Disk V) where
  pub wider : (may might : Event → Bool) (whole : Bool) (before after : KeptOf ModelRules DocumentTables V) → ((e : Event) → may e ≡ true → might e ≡ true)
      → Worked disk before after may whole → Worked disk before after might whole
  wider may might whole before after wide went = went-wider meaning disk may whole might before after wide went

  pub still : (may : Event → Bool) (whole : Bool) (before after : KeptOf ModelRules DocumentTables V) → after ≡ before → Worked disk before after may whole
  still may whole before after same = went-same meaning disk may whole before after same

  pub on : (may : Event → Bool) (whole : Bool) (before between after : KeptOf ModelRules DocumentTables V) → Worked disk before between may true
      → Worked disk between after may whole → Worked disk before after may whole
  on may whole before between after first second = went-on meaning disk may whole before between after first second

  pub part : (may : Event → Bool) (before after : KeptOf ModelRules DocumentTables V) → Worked disk before after may true
      → Worked disk before after may false
  part may before after went = went-whole meaning disk may false before after went

  -- a call that ends short did no whole work
  pub short-of : {T E : Type 0} (may : Event → Bool) (before after : KeptOf ModelRules DocumentTables V) (result : Result T E) → IsErr result
      → Worked disk before after may false → Worked disk before after may (is_ok result)
  short-of may before after (Ok done) short went = absurd (cc)
  short-of may before after (Err why) short went = went

-- ---- claims

module _ {V : Type 0} (disk : Disk V) (may might : Event → Bool) (whole : Bool) (before between after : KeptOf ModelRules DocumentTables V)
    (first : Worked disk before between may true) (second : Worked disk between after might whole) where
  -- a system that fell stays down
  fell-first : OneFell before.world between.world → OneFell before.world after.world
  fell-first fell = let stays = second.stays fell.0 (up-least before.world fell.0 fell.1) fell.2 in (fell.0, fell.1, stays.down)

  -- one that fell at last was up before
  fell-last : OneFell between.world after.world → OneFell before.world after.world
  fell-last fell = elim (cases_Bool (is_up before.world fell.0)) [
    | inl up ↦ (fell.0, up, fell.2)
    | inr down ↦
        let stays = first.stays fell.0 (up-least between.world fell.0 fell.1) down in absurd (both_ways (is_up between.world fell.0) stays.down fell.1)
  ]

  -- claims that are these, or are gone, and then stay or go
  pub gone-on : (these : List Held) → AreOrGone before.world between.world these → AreOrGone between.world after.world between.world.claims
      → AreOrGone before.world after.world these
  gone-on these at_first at_last = elim at_last [
    | inl same ↦ elim at_first [
      | inl are ↦ inl (same ∙ are)
      | inr gone ↦ inr (same ∙ gone.0, fell-first gone.1)
    ]
    | inr gone ↦ inr (gone.0, fell-last gone.1)
  ]

  -- claims that are these, or are gone, at last
  pub gone-last : (these : List Held) → AreOrGone between.world after.world these → AreOrGone before.world after.world these
  gone-last these at_last = elim at_last [
    | inl are ↦ inl are
    | inr gone ↦ inr (gone.0, fell-last gone.1)
  ]

  -- an arrival, and the end of the run that it begins
  come-on : (given : Arrival) → ClaimsCome before.world between.world given
      → ((others : List Held) → ClaimsAre between.world.claims others given → AreOrGone between.world after.world others)
      → AreOrGone before.world after.world before.world.claims
  come-on (arrival.Run claim) come answers = gone-last before.world.claims (answers before.world.claims come)
  come-on (arrival.New receipt) come answers = gone-on before.world.claims come (answers between.world.claims refl)
  come-on (arrival.Known receipt) come answers = gone-on before.world.claims come (answers between.world.claims refl)
  come-on arrival.Busy come answers = gone-on before.world.claims come (answers between.world.claims refl)
  come-on arrival.SysFail come answers = gone-on before.world.claims come (answers between.world.claims refl)
  come-on arrival.Down come answers = gone-on before.world.claims come (answers between.world.claims refl)

-- the same of a call
pub come-answered : {T E V : Type 0} (disk : Disk V) (may might : Event → Bool) (before between after : KeptOf ModelRules DocumentTables V)
    (given : Arrival) (result : Result T E) → Worked disk before between may true → Worked disk between after might (is_ok result)
    → ClaimsCome before.world between.world given
    → ((others : List Held) → ClaimsAre between.world.claims others given → OnOk result (AreOrGone between.world after.world others))
    → OnOk result (AreOrGone before.world after.world before.world.claims)
come-answered disk may might before between after given (Ok x) first second come answers =
    come-on disk may might true before between after first second given come answers
come-answered disk may might before between after given (Err why) first second come answers = tt

module _ {V : Type 0} (disk : Disk V) (may might all last : Event → Bool) (before delivered replied confirmed : KeptOf ModelRules DocumentTables V)
    (first : Worked disk before delivered may true) (second : Worked disk delivered replied might true) (both : Worked disk before replied all true)
    (third : Worked disk replied confirmed last true) where
  -- the claim of a shipment goes, once it was delivered, replied to and confirmed
  pub shipped-left : (claim : OutClaim) → stands_out before.world claim ≡ true → AreOrGone before.world delivered.world before.world.claims
      → (stands_out delivered.world claim ≡ true → AreOrGone delivered.world replied.world (without_claim delivered.world claim.number).claims)
      → (stands_out delivered.world claim ≡ false → replied ≡ delivered)
      → AreOrGone replied.world confirmed.world replied.world.claims
      → AreOrGone before.world confirmed.world (without_claim before.world claim.number).claims
  shipped-left claim stands delivers replies stale confirms =
      gone-on disk all last true before replied confirmed both third Others left confirms
    where
      Others : List Held
      Others = filter (λ (h : Held). not (h.number == claim.number)) before.world.claims

      left : AreOrGone before.world replied.world Others
      left = elim delivers [
        | inl same ↦
            gone-last disk may might true before delivered replied first second Others
            (subst (λ claims. AreOrGone delivered.world replied.world (filter (λ (h : Held). not (h.number == claim.number)) claims)) same
            (replies (ap (λ claims. is_on claim.tid (claim_of claim.number claims) && is_out (claim_of claim.number claims)) same ∙ stands)))
        | inr gone ↦
            subst (λ (k : KeptOf ModelRules DocumentTables V). AreOrGone before.world k.world Others)
            (sym (stale (stands-gone delivered.world claim gone.0))) (inr gone)
      ]

pub arrival-delivers : (letter : Letter) → arrives_under letter ≡ true → (e : Event) → is_arrival e ≡ true → is_delivery letter e ≡ true
arrival-delivers letter arrives (event.Arrive tid) is = arrives
arrival-delivers letter arrives (event.Fall system kept) is = is
arrival-delivers letter arrives _ is = cc

pub end-delivers : (letter : Letter) → arrives_under letter ≡ true → (e : Event) → is_end e ≡ true → is_delivery letter e ≡ true
end-delivers letter arrives (event.Finish number) is = arrives
end-delivers letter arrives (event.Fail number) is = arrives
end-delivers letter arrives (event.Fall system kept) is = is
end-delivers letter arrives _ is = cc

-- a fall is part of a delivery
pub fall-delivers : (letter : Letter) (e : Event) → is_fall e ≡ true → is_delivery letter e ≡ true
fall-delivers letter (event.Fall system kept) is = is
fall-delivers letter _ is = cc

pub confirmation-confirms : (letter : Letter) → is_confirmed_under letter ≡ true → (e : Event) → is_confirmation e ≡ true → is_confirming letter e ≡ true
confirmation-confirms letter confirms (event.Confirm tid) is = confirms
confirmation-confirms letter confirms (event.Reply (Forgotten tid)) is = confirms
confirmation-confirms letter confirms (event.Fall system kept) is = is
confirmation-confirms letter confirms _ is = cc

-- all of it is part of a shipment under the letter

pub claim-ships : (letter : Letter) (e : Event) → is_claim e ≡ true → is_shipping letter e ≡ true
claim-ships letter (event.Claim tid) is = refl
claim-ships letter _ is = cc

pub delivery-ships : (letter : Letter) (e : Event) → is_delivery letter e ≡ true → is_shipping letter e ≡ true
delivery-ships letter (event.Arrive tid) is = is
delivery-ships letter (event.Finish number) is = is
delivery-ships letter (event.Fail number) is = is
delivery-ships letter (event.Fall system kept) is = is
delivery-ships letter _ is = cc

pub confirming-ships : (letter : Letter) (e : Event) → is_confirming letter e ≡ true → is_shipping letter e ≡ true
confirming-ships letter (event.Confirm tid) is = is
confirming-ships letter (event.Reply (Forgotten tid)) is = is
confirming-ships letter (event.Fall system kept) is = is
confirming-ships letter _ is = cc

pub reply-ships : (letter : Letter) (given : Reply) (e : Event) → is_reply (told_of letter given) e ≡ true → is_shipping letter e ≡ true
reply-ships letter given (event.Reply (Claim number answer)) is = elim (cases_Bool (is_answered_under letter)) [
  | inl answered ↦ answered
  | inr lost ↦ let none = sym is ∙ ap (λ b. not (is_lost (cond b given Lost))) lost in absurd (cc)
]
reply-ships letter given (event.LoseReply number) is = refl
reply-ships letter given (event.Fall system kept) is = is
reply-ships letter given _ is = cc

pub run-executes : (e : Event) → is_run e ≡ true → is_execution e ≡ true
run-executes (event.Run tid) is = refl
run-executes _ is = cc

pub end-executes : (e : Event) → is_end e ≡ true → is_execution e ≡ true
end-executes (event.Finish number) is = refl
end-executes (event.Fail number) is = refl
end-executes (event.Fall system kept) is = is
end-executes _ is = cc

-- and all of that is work

pub shipping-works : (letter : Letter) (e : Event) → is_shipping letter e ≡ true → is_work e ≡ true
shipping-works letter (event.Claim tid) is = refl
shipping-works letter (event.Arrive tid) is = refl
shipping-works letter (event.Finish number) is = refl
shipping-works letter (event.Fail number) is = refl
shipping-works letter (event.Reply to) is = refl
shipping-works letter (event.LoseReply number) is = refl
shipping-works letter (event.Confirm tid) is = refl
shipping-works letter (event.Fall system kept) is = is
shipping-works letter _ is = cc

pub execution-works : (e : Event) → is_execution e ≡ true → is_work e ≡ true
execution-works (event.Run tid) is = refl
execution-works (event.Finish number) is = refl
execution-works (event.Fail number) is = refl
execution-works (event.Fall system kept) is = is
execution-works _ is = cc

pub confirming-works : (letter : Letter) (e : Event) → is_confirming letter e ≡ true → is_work e ≡ true
confirming-works letter (event.Confirm tid) is = refl
confirming-works letter (event.Reply (Forgotten tid)) is = refl
confirming-works letter (event.Fall system kept) is = is
confirming-works letter _ is = cc

-- ---- what has ended

module _ {V : Type 0} (disk : Disk V) where
  pub ended-on : (may : Event → Bool) (before between after : KeptOf ModelRules DocumentTables V) (n m : ℕ) → Worked disk before between may true
      → Worked disk between after may true → HaveEnded disk before between n → HaveEnded disk between after m
      → HaveEnded disk before after (n + m)
  ended-on may before between after n m went_first went_second first second = record {
    finished = let one = first.finished in let two = second.finished in omega (arith, one, two);
    claims = gone-on disk may may true before between after went_first went_second before.world.claims first.claims second.claims;
  }

  pub ended-same : (before after : KeptOf ModelRules DocumentTables V) → after ≡ before → HaveEnded disk before after 0
  ended-same before after same = record {
    finished = let count = ap (λ (k : KeptOf ModelRules DocumentTables V). finished_in k.world) same in omega (arith, count);
    claims = inl (ap (λ (k : KeptOf ModelRules DocumentTables V). k.world.claims) same);
  }

  -- a unit that was claimed and shipped under its letter
  pub shipped : (before claimed after : KeptOf ModelRules DocumentTables V) (lines lines_after : Lines) (system : ℕ) (claim : OutClaim) (tid : TidOf)
      (letter : Letter) (n : ℕ)
      → Worked disk before claimed is_claim true → finished_in claimed.world ≡ finished_in before.world
      → IsShipped (meaning before.world.rules) before.world claimed.world system claim
      → tid ≡ claim.tid → letter ≡ next_letter (letters_left lines tid) → HasTaken tid lines lines_after
      → Worked disk claimed after (is_shipping letter) true → IsAnswered claimed.world after.world n
      → AreOrGone claimed.world after.world (without_claim claimed.world claim.number).claims
      → ((unit : AleUnit) → committed_unit (meaning claimed.world.rules) claimed.world claim.tid ≡ Some unit
      → Shipped claimed after letter (answer_to (meaning claimed.world.rules) claimed.world unit) unit)
      → ShippedAs disk before after lines lines_after system (Ok (Some n))
  shipped before claimed after lines lines_after system claim tid letter n went_claim count is its next taken went answered left grew = (
    tid,
    is.first ∙ ap Some (sym its),
    appended.0,
    subst (λ l. HasShipped disk before after lines lines_after tid l appended.0) next (record {
      may = ap (may_ship (meaning before.world.rules) before.world) its ∙ is.may;
      was = record {
        unit = is.unit;
        committed = ap (committed_unit (meaning before.world.rules) before.world) its ∙ is.committed;
        next = next;
        taken = taken;
        went = on disk (is_shipping letter) true before claimed after (wider disk is_claim (is_shipping letter) true before claimed (claim-ships letter)
            went_claim) went;
        grew = shipped-behind before claimed after letter (answer_to (meaning before.world.rules) before.world is.unit) is.unit is.grew
            appended.0
            (subst (λ a. ShippedSo claimed after letter a is.unit appended.0)
            (ap (λ (r : ModelRules). answer_to (meaning r) claimed.world is.unit) went_claim.rules ∙ is.answers) appended.1);
      };
    }),
    record {
      finished = let more = answered.count in omega (arith, count, more);
      claims = gone-last disk is_claim (is_shipping letter) true before claimed after went_claim went before.world.claims
          (left-last claimed.world after.world before.world.claims (out_held claim) claim.number refl is.fresh is.claims left);
    },
    answered.few,
  )
    where
      appended : Shipped claimed after letter (answer_to (meaning claimed.world.rules) claimed.world is.unit) is.unit
      appended = grew is.unit (went_claim.committed claim.tid ∙ is.committed)

  -- a unit that was claimed and executed
  pub executed : (before claimed after : KeptOf ModelRules DocumentTables V) (system : ℕ) (claim : InClaim) (given : Finished)
      → Worked disk before claimed is_run true → finished_in claimed.world ≡ finished_in before.world
      → IsExecuted (meaning before.world.rules) before.world claimed.world system claim
      → Worked disk claimed after is_end true → finished_in after.world ≡ finished_in claimed.world + ended_by given
      → (stands_in claimed.world claim ≡ true → AreOrGone claimed.world after.world (without_claim claimed.world claim.number).claims)
      → ((held : Held) → HoldsIn claimed.world claim held → FinishedSo (meaning claimed.world.rules) claimed after claim held given)
      → (n : ℕ) → n ≡ ended_by given → ExecutedAs disk before after system (Ok (Some n))
  executed before claimed after system claim given went_run count is went more left grew n told = elim (grew (in_held claim) holds) [
    | inl ended ↦ made true ended.grew (told ∙ ended.ended)
    | inr fell ↦ let cut = fell.0 in made false cut.cut (told ∙ fell.1)
  ]
    where
      holds : HoldsIn claimed.world claim (in_held claim)
      holds = record {
        found = ap (claim_of claim.number) is.claims ∙ found-last claim.number before.world.claims (in_held claim) refl is.fresh;
        its = refl;
        kind = refl;
      }

      made : (whole : Bool) → AppendedAs claimed after (worked_by (meaning claimed.world.rules) claimed.world (in_held claim) In) whole
          → n ≡ cond whole 1 0 → ExecutedAs disk before after system (Ok (Some n))
      made whole appended ends = (
        claim.tid,
        is.first,
        whole,
        record {
          may = is.may;
          went = on disk is_execution true before claimed after (wider disk is_run is_execution true before claimed run-executes went_run)
              (wider disk is_end is_execution true claimed after end-executes went);
          grew = appended-on before claimed after []
              (execution (offers_received_now (meaning before.world.rules) before.world system claim.tid) system claim.tid) is.grew whole
              (subst (λ xs. AppendedAs claimed after xs whole)
              (ap (λ (r : ModelRules). execution (offers_received_now (meaning r) claimed.world claim.system claim.tid) claim.system claim.tid) went_run.rules
              ∙ ap (λ s. execution (offers_received_now (meaning before.world.rules) claimed.world s claim.tid) s claim.tid) is.here
              ∙ ap (λ b. execution b system claim.tid) is.offers) appended);
        },
        record {
          finished = omega (arith, count, more, told);
          claims = gone-last disk is_run is_end true before claimed after went_run went before.world.claims
              (left-last claimed.world after.world before.world.claims (in_held claim) claim.number refl is.fresh is.claims
              (left (in-stands claimed.world claim (in_held claim) holds)));
        },
        ends,
      )

  -- claims as one work leaves them
  pub ended-claims : {T E : Type 0} (before after : KeptOf ModelRules DocumentTables V) (result : Result T E) → OnOk result (HaveEnded disk before after 0)
      → OnOk result (AreOrGone before.world after.world before.world.claims)
  ended-claims before after (Ok done) ended = ended.claims
  ended-claims before after (Err why) ended = tt

  pub shipped-claims : (before after : KeptOf ModelRules DocumentTables V) (lines lines_after : Lines) (system : ℕ) (found : Option ℕ)
      → ShippedAs disk before after lines lines_after system (Ok found) → AreOrGone before.world after.world before.world.claims
  shipped-claims before after lines lines_after system None did = inl (ap (λ (k : KeptOf ModelRules DocumentTables V). k.world.claims) did.0)
  shipped-claims before after lines lines_after system (Some n) did = let ended = did.4 in ended.claims

  pub executed-claims : (before after : KeptOf ModelRules DocumentTables V) (system : ℕ) (found : Option ℕ)
      → ExecutedAs disk before after system (Ok found) → AreOrGone before.world after.world before.world.claims
  executed-claims before after system None did = inl (ap (λ (k : KeptOf ModelRules DocumentTables V). k.world.claims) did.0)
  executed-claims before after system (Some n) did = let ended = did.4 in ended.claims

  -- where memory is wanting, what was done is work
  pub shipped-short : (before after : KeptOf ModelRules DocumentTables V) (lines lines_after : Lines) (system : ℕ) (result : Result (Option ℕ) OutOfMemory)
      → IsErr result
      → Worked disk before after is_work false → ShippedAs disk before after lines lines_after system result
  shipped-short before after lines lines_after system (Ok found) short went = absurd (cc)
  shipped-short before after lines lines_after system (Err why) short went = went

  pub executed-short : (before after : KeptOf ModelRules DocumentTables V) (system : ℕ) (result : Result (Option ℕ) OutOfMemory) → IsErr result
      → Worked disk before after is_execution false → ExecutedAs disk before after system result
  executed-short before after system (Ok found) short went = absurd (cc)
  executed-short before after system (Err why) short went = went

  -- the unit of a claim that was made before was shipped
  pub claim-shipped : (before after : KeptOf ModelRules DocumentTables V) (lines lines_after : Lines) (claim : OutClaim) (tid : TidOf) (letter : Letter) (n : ℕ)
      → IsLandscape meaning before.world → stands_out before.world claim ≡ true
      → tid ≡ claim.tid → letter ≡ next_letter (letters_left lines tid) → HasTaken tid lines lines_after
      → Worked disk before after (is_shipping letter) true → IsAnswered before.world after.world n
      → AreOrGone before.world after.world (without_claim before.world claim.number).claims
      → ((unit : AleUnit) → committed_unit (meaning before.world.rules) before.world claim.tid ≡ Some unit
      → Shipped before after letter (answer_to (meaning before.world.rules) before.world unit) unit)
      → ClaimShippedAs disk before after lines lines_after claim (Ok (Some n))
  claim-shipped before after lines lines_after claim tid letter n is stands its next taken went answered left grew = (
    stands,
    appended.0,
    subst (λ t. WasShipped disk before after lines lines_after t (next_letter (letters_left lines t)) appended.0) its
        (subst (λ l. WasShipped disk before after lines lines_after tid l appended.0) next (record {
          unit = unit.0;
          committed = ap (committed_unit (meaning before.world.rules) before.world) its ∙ unit.1;
          next = next;
          taken = taken;
          went = went;
          grew = appended.1;
        })),
    λ moves. claimed-ships (meaning before.world.rules) (is_lawful before.world.rules) before.world is.safe claim stands moves,
    answered.count,
    left,
    answered.few,
  )
    where
      unit : (sent : AleUnit) × (committed_unit (meaning before.world.rules) before.world claim.tid ≡ Some sent)
      unit = claimed-committed meaning is_lawful before is claim stands

      appended : Shipped before after letter (answer_to (meaning before.world.rules) before.world unit.0) unit.0
      appended = grew unit.0 unit.1

  pub claim-shipped-short : (before after : KeptOf ModelRules DocumentTables V) (lines lines_after : Lines) (claim : OutClaim)
      (result : Result (Option ℕ) OutOfMemory) → IsErr result
      → Worked disk before after is_work false → ClaimShippedAs disk before after lines lines_after claim result
  claim-shipped-short before after lines lines_after claim (Ok found) short went = absurd (cc)
  claim-shipped-short before after lines lines_after claim (Err why) short went = went

  -- the work of a claim that was made before ended
  pub claim-executed : (before after : KeptOf ModelRules DocumentTables V) (claim : InClaim) (given : Finished) (n : ℕ)
      → IsLandscape meaning before.world
      → (stands_in before.world claim ≡ false → after ≡ before)
      → Worked disk before after is_end true → finished_in after.world ≡ finished_in before.world + ended_by given
      → (stands_in before.world claim ≡ true → AreOrGone before.world after.world (without_claim before.world claim.number).claims)
      → ((held : Held) → HoldsIn before.world claim held → FinishedSo (meaning before.world.rules) before after claim held given)
      → n ≡ ended_by given → ClaimExecutedAs disk before after claim (Ok n)
  claim-executed before after claim given n is stale went more left grew told = (
    stale,
    wider disk is_end is_execution true before after end-executes went,
    λ held holds. elim (grew held holds) [
      | inl ended ↦ (true, ended.grew, told ∙ ended.ended)
      | inr fell ↦ let cut = fell.0 in (false, cut.cut, told ∙ fell.1)
    ],
    claimed-executes (meaning before.world.rules) (is_lawful before.world.rules) before.world is.safe claim,
    more ∙ ap (λ k. finished_in before.world + k) (sym told),
    left,
    subst (λ k. k ≤ 1) (sym told) (few given),
  )
    where
      few : (given : Finished) → ended_by given ≤ 1
      few (finished.Executed receipt) = omega arith
      few finished.Failed = omega arith
      few finished.Down = omega arith

  pub claim-executed-short : (before after : KeptOf ModelRules DocumentTables V) (claim : InClaim) (result : Result ℕ OutOfMemory) → IsErr result
      → Worked disk before after is_execution false → ClaimExecutedAs disk before after claim result
  claim-executed-short before after claim (Ok n) short went = absurd (cc)
  claim-executed-short before after claim (Err why) short went = went

pub claim-works : (e : Event) → is_claim e ≡ true → is_work e ≡ true
claim-works (event.Claim tid) is = refl
claim-works _ is = cc

pub confirmation-works : (e : Event) → is_confirmation e ≡ true → is_work e ≡ true
confirmation-works (event.Confirm tid) is = refl
confirmation-works (event.Reply (Forgotten tid)) is = refl
confirmation-works (event.Fall system kept) is = is
confirmation-works _ is = cc

-- a delivery and the reply to it are part of a shipment under the letter, and so is the confirmation
module _ {V : Type 0} (disk : Disk V) (letter : Letter) where
  pub ships-delivered : (whole : Bool) (before delivered : KeptOf ModelRules DocumentTables V) → Worked disk before delivered (is_delivery letter) whole
      → Worked disk before delivered (is_shipping letter) whole
  ships-delivered whole before delivered went = wider disk (is_delivery letter) (is_shipping letter) whole before delivered (delivery-ships letter) went

  pub ships-replied : (whole : Bool) (before delivered replied : KeptOf ModelRules DocumentTables V) (given told : Reply) → told ≡ told_of letter given
      → Worked disk before delivered (is_delivery letter) true → Worked disk delivered replied (is_reply told) whole
      → Worked disk before replied (is_shipping letter) whole
  ships-replied whole before delivered replied given told is went replies =
      on disk (is_shipping letter) whole before delivered replied (ships-delivered true before delivered went)
      (wider disk (is_reply (told_of letter given)) (is_shipping letter) whole delivered replied (reply-ships letter given)
      (subst (λ r. Worked disk delivered replied (is_reply r) whole) is replies))

  pub ships-confirmed : (whole : Bool) (before replied confirmed : KeptOf ModelRules DocumentTables V) → Worked disk before replied (is_shipping letter) true
      → Worked disk replied confirmed (is_confirming letter) whole → Worked disk before confirmed (is_shipping letter) whole
  ships-confirmed whole before replied confirmed went confirms =
      on disk (is_shipping letter) whole before replied confirmed went
      (wider disk (is_confirming letter) (is_shipping letter) whole replied confirmed (confirming-ships letter) confirms)

-- ---- what is appended

module _ {V : Type 0} (disk : Disk V) where
  -- a unit that arrived twice
  pub arrived-on : (before between after : KeptOf ModelRules DocumentTables V) (tid : TidOf) (sent : AleUnit) (given : Arrival)
      → committed_unit (meaning before.world.rules) before.world tid ≡ Some sent
      → ArrivedSo (meaning before.world.rules) before between sent given
      → after ≡ between
      → (unit : AleUnit) → committed_unit (meaning before.world.rules) before.world tid ≡ Some unit
      → ArrivedSo (meaning before.world.rules) before after unit given
  arrived-on before between after tid sent given committed first same unit named =
      subst (λ (u : AleUnit). ArrivedSo (meaning before.world.rules) before after u given) (same_Some sent unit (sym committed ∙ named))
      (subst (λ (k : KeptOf ModelRules DocumentTables V). ArrivedSo (meaning before.world.rules) before k sent given) (sym same) first)

  -- a unit that arrived, and was answered
  pub delivered : {T : Type 0} (before between after : KeptOf ModelRules DocumentTables V) (claim : OutClaim) (letter : Letter) (came : Arrival)
      (result : Result T OutOfMemory) (told : T → Reply)
      → IsLandscape meaning before.world → arrives_under letter ≡ true
      → Worked disk before between is_arrival true → Worked disk between after is_end (is_ok result)
      → ((unit : AleUnit) → committed_unit (meaning before.world.rules) before.world claim.tid ≡ Some unit
      → ArrivedSo (meaning before.world.rules) before between unit came)
      → ((unit : AleUnit) (given : Answer) (others : List Held) → committed_unit (meaning between.world.rules) between.world unit.tid ≡ Some unit
      → Tells given unit came → ClaimsAre between.world.claims others came
      → IfOk result (λ answered. AnsweredSo between after unit given others (told answered)))
      → (came ≡ arrival.Down → after ≡ between)
      → IfOk result (λ answered. (unit : AleUnit)
      → committed_unit (meaning before.world.rules) before.world claim.tid ≡ Some unit
      → DeliveredSo (meaning after.world.rules) before after claim unit letter (answer_to (meaning before.world.rules) before.world unit)
      (told answered))
  delivered before between after claim letter came (Err why) told is arrives went_first went_second first second idle = tt
  delivered before between after claim letter came (Ok answered) told is arrives went_first went_second first second idle = λ unit named.
      let its : unit.tid ≡ claim.tid =
      (committed_unit-is (meaning before.world.rules) (is_lawful before.world.rules) before.world is.safe claim.tid unit named).1 in
      let given = answer_to (meaning before.world.rules) before.world unit in
      let named_then = went_first.committed claim.tid ∙ named in
      elim (first unit named) [
        | inl arrived ↦ elim (second unit given before.world.claims
            (subst (λ t. committed_unit (meaning between.world.rules) between.world t ≡ Some unit) (sym its) named_then) arrived.tells arrived.claims) [
              | inl replied ↦
                  inl (delivered-on (meaning before.world.rules) (meaning after.world.rules) before.world between.world after.world claim unit its
                  (ap meaning (went_second.rules ∙ went_first.rules)) (went_second.committed claim.tid ∙ named_then)
                  (λ s. let later = replied.grew in let sooner = arrived.grew in (later.stand s).0 ∙ (sooner.stand s).0)
                  letter came (told answered) arrives arrived replied)
              | inr fell ↦
                  inr (delivered-run before between after unit given letter arrives arrived.grew fell)
            ]
        | inr fell ↦
            inr (delivered-first before between after unit given letter arrives fell.0 (idle fell.1))
      ]

  -- a unit that was delivered, of which its sender learnt, and that was confirmed
  pub shipped-appended : (before delivered replied confirmed : KeptOf ModelRules DocumentTables V) (claim : OutClaim) (letter : Letter) (given told : Reply)
      (tid : TidOf)
      → IsLandscape meaning before.world → stands_out before.world claim ≡ true → told ≡ told_of letter given → tid ≡ claim.tid
      → Worked disk before delivered (is_delivery letter) true → Worked disk delivered replied (is_reply told) true
      → ((unit : AleUnit) → committed_unit (meaning before.world.rules) before.world claim.tid ≡ Some unit
      → HandledSo (meaning delivered.world.rules) before delivered claim unit letter
      (answer_to (meaning before.world.rules) before.world unit) given)
      → ((learnt : Option CoreAnswer) → stands_out delivered.world claim ≡ true
      → reply_event (meaning delivered.world.rules) delivered.world claim told ≡ event_of learnt claim.number
      → Appended delivered replied (noted_of learnt claim.tid))
      → (stands_out delivered.world claim ≡ false → replied ≡ delivered)
      → ((unit : AleUnit) → committed_unit (meaning replied.world.rules) replied.world tid ≡ Some unit → is_due replied.world unit ≡ true
      → Appended replied confirmed (cond (is_confirmed_under letter) (confirmation Whole (forgot replied.world unit) unit) []))
      → ((is_up replied.world tid.system && is_unconfirmed tid (log_of replied.world tid.system)) ≡ false → confirmed ≡ replied)
      → (unit : AleUnit) → committed_unit (meaning before.world.rules) before.world claim.tid ≡ Some unit
      → Shipped before confirmed letter (answer_to (meaning before.world.rules) before.world unit) unit
  shipped-appended before delivered replied confirmed claim letter given told tid is stands tells its went_first went_second first second stale sent same unit
      named = elim (first unit named) [
        | inl handled_so ↦
            let came = handled_so.0 in
            let stands_then : stands_out delivered.world claim ≡ true =
            ap (λ claims. is_on claim.tid (claim_of claim.number claims) && is_out (claim_of claim.number claims)) came.claims ∙ stands in
            let noted = second (learnt_under letter (answer_to (meaning before.world.rules) before.world unit)) stands_then
            (ap (reply_event (meaning delivered.world.rules) delivered.world claim) tells
            ∙ event-told (meaning delivered.world.rules) delivered.world claim letter (answer_to (meaning before.world.rules) before.world unit) given
            came.event) in
            shipped-noted (meaning before.world.rules) (is_lawful before.world.rules) before delivered is.safe
            claim stands unit named letter replied confirmed came.grew handled_so.1 noted.0 noted.1
            (λ due. sent unit
            (ap (committed_unit (meaning replied.world.rules) replied.world) its
            ∙ went_second.committed claim.tid ∙ went_first.committed claim.tid ∙ named) due)
            unchanged
        | inr fell ↦ elim fell [
          | inl cut ↦
              shipped-cut (meaning before.world.rules) (is_lawful before.world.rules) before delivered is.safe
              claim stands unit named letter cut replied confirmed (stale (stands-gone delivered.world claim cut.claims)) unchanged
          | inr felled ↦
              shipped-felled (meaning before.world.rules) (is_lawful before.world.rules) before delivered is.safe
              claim stands unit named letter felled replied confirmed (stale (stands-gone delivered.world claim felled.claims)) unchanged
        ]
      ]
    where
      unchanged : (is_up replied.world claim.tid.system && is_unconfirmed claim.tid (log_of replied.world claim.tid.system)) ≡ false
          → confirmed ≡ replied
      unchanged undone = same (ap (λ (t : TidOf). is_up replied.world t.system && is_unconfirmed t (log_of replied.world t.system)) its ∙ undone)

  -- a unit that was delivered, and whose receiver fell then or did not
  pub handled-under : (before between after : KeptOf ModelRules DocumentTables V) (claim : OutClaim) (letter : Letter) (told : Reply)
      → Worked disk before between (is_delivery letter) true
      → ((unit : AleUnit) → committed_unit (meaning before.world.rules) before.world claim.tid ≡ Some unit
      → DeliveredSo (meaning between.world.rules) before between claim unit letter (answer_to (meaning before.world.rules) before.world unit) told)
      → ((unit : AleUnit) → committed_unit (meaning between.world.rules) between.world claim.tid ≡ Some unit
      → FellIf between after (falls_under letter && is_up between.world unit.receiver) unit.receiver)
      → (unit : AleUnit) → committed_unit (meaning before.world.rules) before.world claim.tid ≡ Some unit
      → HandledSo (meaning after.world.rules) before after claim unit letter (answer_to (meaning before.world.rules) before.world unit) told
  handled-under before between after claim letter told went first falls unit named =
      handled meaning before between after claim unit letter told (first unit named) (falls unit (went.committed claim.tid ∙ named))

  -- the answer to it is as before
  pub answered-under : (before between after : World ModelRules) (n : ℕ) → IsAnswered before between n → finished_in after ≡ finished_in between
      → IsAnswered before after n
  answered-under before between after n answered same = record { count = same ∙ answered.count; few = answered.few }

  -- a unit that was sent its confirmation, which was replied to
  pub confirmed-done : (before sent ended : KeptOf ModelRules DocumentTables V) (tid : TidOf) (unit : AleUnit) (given : Confirmed)
      → is_due before.world unit ≡ true → SentSo before sent tid unit given → (given ≡ Down → ⊥)
      → (is_up sent.world tid.system ≡ true → is_listed tid (ended_in (log_of sent.world tid.system)) ≡ false
      → Appended sent ended (one_at tid.system (Ended tid)))
      → Appended before ended (confirmation Whole (forgot before.world unit) unit)
  confirmed-done before sent ended tid unit given due first came second = elim first [
    | inl has ↦
        confirmed-ended before sent tid unit has.its due has.grew ended
        (second (sent-up before sent tid unit has.its due has.grew) (sent-lasts before sent tid unit has.its due has.grew))
    | inr fell ↦ absurd (came fell.1)
  ]

  -- nothing came back of it
  pub confirmed-down : (before sent : KeptOf ModelRules DocumentTables V) (tid : TidOf) (unit : AleUnit) (given : Confirmed)
      → SentSo before sent tid unit given → given ≡ Down
      → Appended before sent (confirmation Whole (forgot before.world unit) unit)
  confirmed-down before sent tid unit given first down = elim first [
    | inl has ↦ absurd (has.came down)
    | inr fell ↦ confirmed-cut before sent tid unit fell.0
  ]
