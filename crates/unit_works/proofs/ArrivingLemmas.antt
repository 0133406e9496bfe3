-- A unit that is shipped arrives, and begins no run as it arrives once more.
use Rattle.std.specs.Prelude.{Contains, Result, Ok, Err, IfOk, IfSome, OnErr}
use Rattle.std.specs.Result.{is_ok}
use Rattle.std.proofs.Common.{◌≡◌, ℕ, not, Bool, true, false, cond, Some, None, [], ◌∷◌, ◌++◌, inl, inr, refl, sym, ap, subst, ◌∙◌, arith}
use Rattle.std.proofs.lemmas.Bool.{both_ways}
use Rattle.ale_volumes.specs.Disk.{Disk}
use Rattle.ale_base.specs.Tid.{TidOf}
use Rattle.ale_base.specs.declared.out_of_memory.OutOfMemory.{OutOfMemory}
use Rattle.unit_core.specs.declared.ale_unit.AleUnit.{AleUnit}
use Rattle.ale_base.proofs.MemberLemmas.{filter_map-Some}
use Rattle.unit_core.specs.declared.records.Record.TheVariants as log
use Rattle.unit_core.specs.Filters.{received, taken_by}
use Rattle.unit_core.specs.Queues.{is_among}
use Rattle.trfc_protocol.specs.declared.answer.Answer.{Answer}
use Rattle.trfc_protocol.specs.declared.answer.Answer.TheVariants as answer
use Rattle.trfc_protocol.specs.declared.event.Event.{Event}
use Rattle.trfc_protocol.specs.declared.event.Event.TheVariants as event
use Rattle.trfc_protocol.specs.declared.held.HeldKind.TheVariants.{Direct}
use Rattle.trfc_protocol.specs.declared.world.World.{World}
use Rattle.trfc_protocol.specs.Happens.{happens}
use Rattle.trfc_protocol.specs.Legal.{IsLawful, is_empty}
use Rattle.trfc_protocol.specs.Meaning.{Meaning}
use Rattle.trfc_protocol.specs.Offered.{answer_to, may_arrive}
use Rattle.trfc_protocol.specs.RecordOf.{record_of, record_of_answer}
use Rattle.trfc_protocol.specs.Worlds.{claim_of, committed_unit, is_claimed, is_up, log_of, with_claim, with_record}
use Rattle.trfc_protocol.proofs.ClaimLemmas.{claim_of-Some, is_claimed-Contains}
use Rattle.trfc_protocol.proofs.EventLemmas.{Safe-step}
use Rattle.trfc_protocol.proofs.ForCallers.{claimed_unit}
use Rattle.trfc_protocol.proofs.SafeLemmas.{committed_unit-is}
use Rattle.unit_landscape.specs.KeptWorlds.{KeptOf}
use Rattle.unit_landscape.specs.declared.answers.Arrival.{Arrival}
use Rattle.unit_landscape.specs.declared.answers.Arrival.TheVariants as arrival
use Rattle.unit_landscape.specs.declared.claims.OutClaim.{OutClaim}
use Rattle.unit_landscape.specs.Appending.{Arrives}
use Rattle.unit_landscape.specs.Calls.{Answered, Arrived, stands_out}
use Rattle.unit_landscape.specs.Ends.{Happened, IsShort}
use Rattle.unit_landscape.specs.Crashes.{LeavesSound}
use Rattle.unit_landscape.specs.Kept.{IsLandscape}
use Rattle.unit_landscape.proofs.ArrivingLemmas.{arrival-after, arrival-record, accept-appends}
use Rattle.unit_landscape.proofs.EventLemmas.{event-up}
use Rattle.unit_landscape.proofs.ReplyingLemmas.{may-arrive}
use Rattle.unit_works.specs.Events.{is_arrival}
use Rattle.unit_works.specs.Finished.{finished_in}
use Rattle.unit_works.specs.Went.{WentOn}
use Rattle.unit_works.specs.steps.Arriving.{ArrivedSo, BringsNothing, BeginsNone, ClaimsCome, accepted, run_held}
use Rattle.unit_works.specs.Trips.{Wholly}
use Rattle.unit_works.specs.Claims.{AreOrGone}
use Rattle.unit_works.proofs.ClaimLemmas.{Contains-last, held-out, next-fresh, stands-gone}
use Rattle.unit_works.proofs.StateLemmas.{committed-record}
use Rattle.unit_works.proofs.FellLemmas.{claims-fell, fell-was_cut, finished-fell, gone-fell}
use Rattle.unit_works.proofs.GrowthLemmas.{happened-wholly}
use Rattle.unit_works.proofs.LogLemmas.{among-behind, grown-record, listed, record-here}
use Rattle.unit_works.proofs.WentLemmas.{went-happened, went-fell, went-short}
use Rattle.unit_works.proofs.WorldLemmas.{finished-record, claims-record}

-- what the answers say that let a unit in
answered-run : (up among claimed empty offers : Bool)
    → cond (not up) answer.Down (cond among answer.Known (cond claimed answer.Busy (cond empty (cond offers answer.Run answer.SysFail) answer.New))) ≡
    answer.Run
    → (empty ≡ true) × (claimed ≡ false)
answered-run false among claimed empty offers is = cc
answered-run true true claimed empty offers is = cc
answered-run true false true empty offers is = cc
answered-run true false false true true is = (refl, refl)
answered-run true false false true false is = cc
answered-run true false false false offers is = cc

answered-new : (up among claimed empty offers : Bool)
    → cond (not up) answer.Down (cond among answer.Known (cond claimed answer.Busy (cond empty (cond offers answer.Run answer.SysFail) answer.New))) ≡
    answer.New
    → empty ≡ false
answered-new false among claimed empty offers is = cc
answered-new true true claimed empty offers is = cc
answered-new true false true empty offers is = cc
answered-new true false false true true is = cc
answered-new true false false true false is = cc
answered-new true false false false offers is = refl

answered-unknown : (up among claimed empty offers : Bool)
    → cond (not up) answer.Down (cond among answer.Known (cond claimed answer.Busy (cond empty (cond offers answer.Run answer.SysFail) answer.New))) ≡
    answer.New
    → (among ≡ false) × (claimed ≡ false)
answered-unknown false among claimed empty offers is = cc
answered-unknown true true claimed empty offers is = cc
answered-unknown true false true empty offers is = cc
answered-unknown true false false empty offers is = (refl, refl)

-- a unit that was taken in is among those received
among-accepted : {R : Type 0} (world : World R) (unit : AleUnit) → is_up world unit.receiver ≡ true
    → is_among unit.tid (received (log_of (with_record world unit.receiver (log.Accept unit)) unit.receiver)) ≡ true
among-accepted world unit up =
    ap (λ l. is_among unit.tid (received l))
    (grown-record world unit.receiver (log.Accept unit) up unit.receiver
    ∙ ap (λ l. log_of world unit.receiver ++ l) (record-here unit.receiver (log.Accept unit)))
    ∙ ap (is_among unit.tid) (filter_map-Some taken_by (log_of world unit.receiver) (log.Accept unit) unit refl)
    ∙ among-behind unit (received (log_of world unit.receiver))

-- what is appended at once is the record of the answer
accepted-is : (unit : AleUnit) (given : Answer) → listed (record_of_answer unit given) ≡ accepted given unit
accepted-is unit answer.New = refl
accepted-is unit answer.Run = refl
accepted-is unit answer.Down = refl
accepted-is unit answer.Known = refl
accepted-is unit answer.Busy = refl
accepted-is unit answer.SysFail = refl

module _ {R : Type 0} (rules : Meaning) (world : World R) (unit : AleUnit) where
  new-unknown : answer_to rules world unit ≡ answer.New
      → (is_among unit.tid (received (log_of world unit.receiver)) ≡ false) × (is_claimed Direct unit.tid world.claims ≡ false)
  new-unknown is = answered-unknown _ _ _ _ _ is

  run-parts : answer_to rules world unit ≡ answer.Run → (is_empty unit.inq ≡ true) × (is_claimed Direct unit.tid world.claims ≡ false)
  run-parts is = answered-run _ _ _ _ _ is

  new-parts : answer_to rules world unit ≡ answer.New → is_empty unit.inq ≡ false
  new-parts is = answered-new _ _ _ _ _ is

module _ {R A V : Type 0} (meaning : R → Meaning) (lawful : (r : R) → IsLawful (meaning r)) (before : KeptOf R A V) (is : IsLandscape meaning before.world)
    (claim : OutClaim) (unit : AleUnit) (stands : stands_out before.world claim ≡ true)
    (committed : committed_unit (meaning before.world.rules) before.world claim.tid ≡ Some unit) where
  -- the unit has the id of its claim
  its_tid : unit.tid ≡ claim.tid
  its_tid = (committed_unit-is (meaning before.world.rules) (lawful before.world.rules) before.world is.safe claim.tid unit committed).1

  -- a unit that is claimed to be shipped was committed, and may arrive
  pub arrives-committed : committed_unit (meaning before.world.rules) before.world unit.tid ≡ Some unit
  arrives-committed = subst (λ t. committed_unit (meaning before.world.rules) before.world t ≡ Some unit) (sym its_tid) committed

  pub arrives-may : may_arrive (meaning before.world.rules) before.world unit ≡ true
  arrives-may =
      let there = held-out before.world claim stands in
      let holds = there.1 in
      let may = may-arrive (meaning before.world.rules) (lawful before.world.rules) before.world is.safe claim there.0 holds in
      subst (λ f. IfSome f (λ (u : AleUnit). may_arrive (meaning before.world.rules) before.world u ≡ true))
      (ap (committed_unit (meaning before.world.rules) before.world) holds.its ∙ committed) may

  module _ (disk : Disk V) (after : KeptOf R A V) where
    abbrev Comes : Arrival → Type 0
    Comes given = Arrived (meaning before.world.rules) disk before after unit given

    pub went-arrived : (disk.told → LeavesSound meaning disk before after) → (result : Result Arrival OutOfMemory) →
        IfOk result (Arrived (meaning before.world.rules) disk before after unit)
        → OnErr result (IsShort (meaning before.world.rules) disk before after (event.Arrive unit.tid))
        → WentOn meaning disk is_arrival (is_ok result) before after
    went-arrived leaves (Ok (arrival.New receipt)) did short =
        went-happened meaning lawful disk is_arrival before after is leaves true (event.Arrive unit.tid) refl refl did.0.1
    went-arrived leaves (Ok (arrival.Run begun)) did short =
        went-happened meaning lawful disk is_arrival before after is leaves true (event.Arrive unit.tid) refl refl did.0.1
    went-arrived leaves (Ok (arrival.Known receipt)) did short =
        went-happened meaning lawful disk is_arrival before after is leaves true (event.Arrive unit.tid) refl refl did.0.0.1
    went-arrived leaves (Ok arrival.Busy) did short = went-happened meaning lawful disk is_arrival before after is leaves true
        (event.Arrive unit.tid) refl refl did.0.1
    went-arrived leaves (Ok arrival.SysFail) did short = went-happened meaning lawful disk is_arrival before after is leaves true
        (event.Arrive unit.tid) refl refl did.0.1
    went-arrived leaves (Ok arrival.Down) did short = elim did [
      | inl idle ↦ went-happened meaning lawful disk is_arrival before after is leaves true (event.Arrive unit.tid) refl refl idle.0.1
      | inr fell ↦ went-fell meaning lawful disk is_arrival before after is leaves (λ system kept works. works) true (event.Arrive unit.tid) refl fell.1
    ]
    went-arrived leaves (Err why) did short =
        went-short meaning lawful disk is_arrival before after is leaves (λ system kept works. works) (event.Arrive unit.tid) refl refl short

    arrives : (given : Answer) → answer_to (meaning before.world.rules) before.world unit ≡ given
        → Arrives (meaning before.world.rules) before.world unit given
    arrives given answers = record { committed = arrives-committed; may = arrives-may; answer = answers }

    -- a unit that is taken in is appended at its receiver, which is up
    world-new : Answered (meaning before.world.rules) disk before after unit answer.New
        → (after.world ≡ with_record before.world unit.receiver (log.Accept unit)) × (is_up before.world unit.receiver ≡ true)
    world-new did = let was = did.1 in (
      was.world ∙ arrival-after (meaning before.world.rules) before.world unit answer.New (arrives answer.New did.0),
      event-up (meaning before.world.rules) (lawful before.world.rules) before.world is.safe is.writable (event.Arrive unit.tid) unit.receiver
          (log.Accept unit) None
          (accept-appends (meaning before.world.rules) before.world unit (arrives answer.New did.0)),
    )

    world-run : Answered (meaning before.world.rules) disk before after unit answer.Run → after.world ≡ with_claim before.world unit.tid unit.receiver Direct
    world-run did = let was = did.1 in was.world ∙ arrival-after (meaning before.world.rules) before.world unit answer.Run (arrives answer.Run did.0)

    same-world : after ≡ before → after.world ≡ before.world
    same-world same = ap (λ (k : KeptOf R A V). k.world) same

    -- nothing has ended
    pub finished-arrived : (given : Arrival) → Comes given → finished_in after.world ≡ finished_in before.world
    finished-arrived (arrival.New receipt) did =
        let new = world-new did.0 in
        let count = finished-record before.world unit.receiver (log.Accept unit) None new.1 in
        ap finished_in new.0 ∙ omega (arith, count)
    finished-arrived (arrival.Run begun) did = ap finished_in (world-run did.0)
    finished-arrived (arrival.Known receipt) did = ap finished_in (same-world did.0.1)
    finished-arrived arrival.Busy did = ap finished_in (same-world did.1)
    finished-arrived arrival.SysFail did = ap finished_in (same-world did.1)
    finished-arrived arrival.Down did = elim did [
      | inl idle ↦ ap finished_in (same-world idle.1)
      | inr fell ↦ finished-fell meaning lawful disk before after is (event.Arrive unit.tid) fell.1
    ]

    -- no claim is added but that of a run that begins
    same-claims : after ≡ before → AreOrGone before.world after.world before.world.claims
    same-claims same = inl (ap (λ (k : KeptOf R A V). k.world.claims) same)

    pub claims-arrived : (given : Arrival) → Comes given → ClaimsCome before.world after.world given
    claims-arrived (arrival.New receipt) did =
        let new = world-new did.0 in
        inl (ap (λ (w : World R). w.claims) new.0 ∙ claims-record before.world unit.receiver (log.Accept unit) None)
    claims-arrived (arrival.Run begun) did =
        let made = did.3 in (
          ap (λ (w : World R). w.claims) (world-run did.0)
              ∙ ap (λ (n : ℕ). before.world.claims ++ record { number = n; tid = unit.tid; system = unit.receiver; kind = Direct } ∷ []) (sym made.next)
              ∙ ap (λ (t : TidOf). before.world.claims ++ record { number = begun.number; tid = t; system = unit.receiver; kind = Direct } ∷ []) (sym did.1)
              ∙ ap (λ (s : ℕ). before.world.claims ++ record { number = begun.number; tid = begun.tid; system = s; kind = Direct } ∷ []) (sym did.2),
          subst (λ n. claim_of n before.world.claims ≡ None) (sym made.next)
              (next-fresh (meaning before.world.rules) (lawful before.world.rules) before.world is.safe),
        )
    claims-arrived (arrival.Known receipt) did = same-claims did.0.1
    claims-arrived arrival.Busy did = same-claims did.1
    claims-arrived arrival.SysFail did = same-claims did.1
    claims-arrived arrival.Down did = elim did [
      | inl idle ↦ same-claims idle.1
      | inr fell ↦ gone-fell meaning lawful disk before after is (event.Arrive unit.tid) fell.1 before.world.claims
    ]

    -- a unit that arrives where it begins no run begins none
    pub begins-none : BringsNothing (meaning before.world.rules) before.world claim unit → (given : Arrival) → Comes given → BeginsNone given
    begins-none none (arrival.Run begun) did = none.none did.0.0
    begins-none none (arrival.New receipt) did = tt
    begins-none none (arrival.Known receipt) did = tt
    begins-none none arrival.Busy did = tt
    begins-none none arrival.SysFail did = tt
    begins-none none arrival.Down did = tt

    -- ---- what is appended

    wholly-answered : (given : Answer) → answer_to (meaning before.world.rules) before.world unit ≡ given
        → Happened (meaning before.world.rules) disk before after (event.Arrive unit.tid)
        → Wholly before.world after.world (accepted (answer_to (meaning before.world.rules) before.world unit) unit)
    wholly-answered given answers did =
        subst (Wholly before.world after.world) (accepted-is unit given ∙ ap (λ a. accepted a unit) (sym answers))
        (happened-wholly meaning lawful disk before after is (event.Arrive unit.tid) refl (record_of_answer unit given)
        (arrival-record (meaning before.world.rules) before.world unit given (arrives given answers)) did)

    -- the record of an arrival, by how the receiver answers
    arrival-lists : listed (record_of (meaning before.world.rules) before.world (event.Arrive unit.tid))
        ≡ accepted (answer_to (meaning before.world.rules) before.world unit) unit
    arrival-lists =
        let given = answer_to (meaning before.world.rules) before.world unit in
        ap listed (arrival-record (meaning before.world.rules) before.world unit given (arrives given refl)) ∙ accepted-is unit given

    -- the receiver that takes the unit in appends that, unless it falls in its place
    pub has-arrived : (given : Arrival) → Comes given → ArrivedSo (meaning before.world.rules) before after unit given
    has-arrived (arrival.New receipt) did = inl (record {
      tells = (did.0.0, did.1);
      grew = wholly-answered answer.New did.0.0 did.0.1;
      claims = let new = world-new did.0 in ap (λ (w : World R). w.claims) new.0 ∙ claims-record before.world unit.receiver (log.Accept unit) None;
    })
    has-arrived (arrival.Run begun) did = inl (record {
      tells = (did.0.0, did.1, did.2);
      grew = wholly-answered answer.Run did.0.0 did.0.1;
      claims = claims-arrived (arrival.Run begun) did;
    })
    has-arrived (arrival.Known receipt) did = inl (record {
      tells = (did.0.0.0, did.1);
      grew = wholly-answered answer.Known did.0.0.0 did.0.0.1;
      claims = ap (λ (k : KeptOf R A V). k.world.claims) did.0.1;
    })
    has-arrived arrival.Busy did = inl (record {
      tells = did.0.0;
      grew = wholly-answered answer.Busy did.0.0 did.0.1;
      claims = ap (λ (k : KeptOf R A V). k.world.claims) did.1;
    })
    has-arrived arrival.SysFail did = inl (record {
      tells = did.0.0;
      grew = wholly-answered answer.SysFail did.0.0 did.0.1;
      claims = ap (λ (k : KeptOf R A V). k.world.claims) did.1;
    })
    has-arrived arrival.Down did = elim did [
      | inl idle ↦ inl (record {
        tells = idle.0.0;
        grew = wholly-answered answer.Down idle.0.0 idle.0.1;
        claims = ap (λ (k : KeptOf R A V). k.world.claims) idle.1;
      })
      | inr fell ↦ inr (
        fell-was_cut meaning lawful disk before after is (event.Arrive unit.tid) fell.1
            (accepted (answer_to (meaning before.world.rules) before.world unit) unit) arrival-lists,
        refl,
      )
    ]

    -- ---- once more

    rules-stay : (e : Event) → after.world ≡ happens (meaning before.world.rules) before.world e → after.world.rules ≡ before.world.rules
    rules-stay e same = (Safe-step meaning lawful before.world after.world e is.safe same).0

    abbrev Again : Type 0
    Again = BringsNothing (meaning after.world.rules) after.world claim unit

    by-rules : after.world.rules ≡ before.world.rules → BringsNothing (meaning before.world.rules) after.world claim unit → Again
    by-rules same no_run = subst (λ (r : R). BringsNothing (meaning r) after.world claim unit) (sym same) no_run

    same-again : after ≡ before → (given : Answer) → answer_to (meaning before.world.rules) before.world unit ≡ given → (given ≡ answer.Run → ⊥)
        → (given ≡ answer.New → ⊥) → Again
    same-again same given answers other known =
        subst (λ (k : KeptOf R A V). BringsNothing (meaning k.world.rules) k.world claim unit) (sym same)
        (record { committed = committed; none = λ runs. other (sym answers ∙ runs); not_new = λ new. known (sym answers ∙ new) })

    -- a unit that arrived while its claim stands begins no run as it arrives once more
    pub again-arrived : (given : Arrival) → Comes given → stands_out after.world claim ≡ true → Again
    again-arrived (arrival.New receipt) did still =
        let new = world-new did.0 in
        let was = did.0.1 in
        let empty : is_empty unit.inq ≡ false = new-parts (meaning before.world.rules) before.world unit did.0.0 in
        by-rules (rules-stay (event.Arrive unit.tid) was.world) (record {
          committed = ap (λ (w : World R). committed_unit (meaning before.world.rules) w claim.tid) new.0
              ∙ committed-record (meaning before.world.rules) (lawful before.world.rules) before.world unit.receiver (log.Accept unit) new.1 refl claim.tid
              ∙ committed;
          none = λ runs. both_ways (is_empty unit.inq) empty (run-parts (meaning before.world.rules) after.world unit runs).0;
          not_new = λ answers.
              both_ways (is_among unit.tid (received (log_of after.world unit.receiver)))
              (new-unknown (meaning before.world.rules) after.world unit answers).0
              (ap (λ (w : World R). is_among unit.tid (received (log_of w unit.receiver))) new.0
              ∙ among-accepted before.world unit new.1);
        })
    again-arrived (arrival.Run begun) did still =
        let world = world-run did.0 in
        let was = did.0.1 in
        let come = claims-arrived (arrival.Run begun) did in
        let claimed : is_claimed Direct unit.tid after.world.claims ≡ true =
        is_claimed-Contains Direct unit.tid after.world.claims (run_held begun)
        (subst (λ claims. Contains claims (run_held begun)) (sym come.0) (Contains-last before.world.claims (run_held begun))) refl did.1 in
        by-rules (rules-stay (event.Arrive unit.tid) was.world) (record {
          committed = ap (λ (w : World R). committed_unit (meaning before.world.rules) w claim.tid) world ∙ committed;
          none = λ runs. both_ways (is_claimed Direct unit.tid after.world.claims) (run-parts (meaning before.world.rules) after.world unit runs).1 claimed;
          not_new = λ answers.
              both_ways (is_claimed Direct unit.tid after.world.claims) (new-unknown (meaning before.world.rules) after.world unit answers).1 claimed;
        })
    again-arrived (arrival.Known receipt) did still = same-again did.0.1 answer.Known did.0.0.0 (λ is. cc) (λ is. cc)
    again-arrived arrival.Busy did still = same-again did.1 answer.Busy did.0.0 (λ is. cc) (λ is. cc)
    again-arrived arrival.SysFail did still = same-again did.1 answer.SysFail did.0.0 (λ is. cc) (λ is. cc)
    again-arrived arrival.Down did still = elim did [
      | inl idle ↦ same-again idle.1 answer.Down idle.0.0 (λ is. cc) (λ is. cc)
      | inr fell ↦
          let gone = claims-fell meaning lawful disk before after is (event.Arrive unit.tid) fell.1 in
          let stood = sym still ∙ stands-gone after.world claim gone in
          absurd (cc)
    ]

-- the unit of a claim that stands was committed
pub claimed-committed : {R A V : Type 0} (meaning : R → Meaning) (lawful : (r : R) → IsLawful (meaning r)) (before : KeptOf R A V)
    → IsLandscape meaning before.world
    → (claim : OutClaim) → stands_out before.world claim ≡ true → (unit : AleUnit)
    × (committed_unit (meaning before.world.rules) before.world claim.tid ≡ Some unit)
claimed-committed meaning lawful before is claim stands =
    let there = held-out before.world claim stands in
    let holds = there.1 in
    let unit = claimed_unit (meaning before.world.rules) (lawful before.world.rules) before.world is.safe there.0
    (claim_of-Some claim.number before.world.claims there.0 holds.found).0 in
    (unit.0, subst (λ t. committed_unit (meaning before.world.rules) before.world t ≡ Some unit.0) holds.its unit.1)

-- a unit that brings nothing leaves all as it is as it arrives
pub nothing-arrived : {R A V : Type 0} (rules : Meaning) (disk : Disk V) (before after : KeptOf R A V) (claim : OutClaim) (unit : AleUnit)
    (given : Arrival)
    → BringsNothing rules before.world claim unit → Arrived rules disk before after unit given → after ≡ before
nothing-arrived rules disk before after claim unit (arrival.New receipt) none did = absurd (none.not_new did.0.0)
nothing-arrived rules disk before after claim unit (arrival.Run begun) none did = absurd (none.none did.0.0)
nothing-arrived rules disk before after claim unit (arrival.Known receipt) none did = did.0.1
nothing-arrived rules disk before after claim unit arrival.Busy none did = did.1
nothing-arrived rules disk before after claim unit arrival.SysFail none did = did.1
nothing-arrived rules disk before after claim unit arrival.Down none did = elim did [
  | inl idle ↦ idle.1
  | inr fell ↦ absurd (none.not_new fell.0)
]
