-- A safe world stays safe where a unit is claimed by its sender, and where it arrives.
use Rattle.std.specs.Prelude.{Contains}
use Rattle.std.specs.Option.{option_and_then, option_map_or}
use Rattle.std.proofs.Common.{◌≡◌, ℕ, ◌==◌, Bool, true, false, not, cond, ◌&&◌, ◌||◌, Option, Some, None, inl, inr, refl, sym, ap, subst, ◌∙◌}
use Rattle.std.proofs.lemmas.Bool.{cond_both, and_parts, and_from, or_cases, both_ways, not-true, not_from_false, eq-eqb}
use Rattle.std.proofs.lemmas.Option.{same_Some, none-some}
use Rattle.ale_base.specs.Tid.{TidOf}
use Rattle.unit_core.specs.declared.ale_unit.AleUnit.{AleUnit}
use Rattle.unit_core.specs.declared.records.Record.TheVariants as log
use Rattle.unit_core.specs.Filters.{received, done_in, forgotten_in}
use Rattle.unit_core.specs.Queues.{is_listed, is_among, heads_outbound}
use Rattle.unit_core.proofs.OnceLemmas.{MayTake}
use Rattle.trfc_protocol.specs.declared.world.World.{World}
use Rattle.trfc_protocol.specs.declared.held.HeldKind.TheVariants.{Out, Direct}
use Rattle.trfc_protocol.specs.declared.answer.Answer.{Answer}
use Rattle.trfc_protocol.specs.declared.answer.Answer.TheVariants as answer
use Rattle.trfc_protocol.specs.declared.event.Event.TheVariants as event
use Rattle.trfc_protocol.specs.Meaning.{Meaning}
use Rattle.trfc_protocol.specs.Legal.{is_empty, is_new, is_free_outbound, IsLawful}
use Rattle.trfc_protocol.specs.Worlds.{log_of, is_up, committed_by, committed_unit, offers_now, with_record, with_claim, is_claimed}
use Rattle.trfc_protocol.specs.Offered.{is_stopped_outbound, may_move, heads_at_sender, may_arrive, answer_to}
use Rattle.trfc_protocol.specs.RecordOf.{record_of_answer, record_of_arrival}
use Rattle.trfc_protocol.specs.Happens.{written, with_run, after_arrival, happens}
use Rattle.trfc_protocol.specs.Safe.{Safe}
use Rattle.trfc_protocol.proofs.LegalLemmas.{MayJoin-accept}
use Rattle.trfc_protocol.proofs.ClaimLemmas.{not_claimed}
use Rattle.trfc_protocol.proofs.SafeLemmas.{MayWrite, due-IsRun, committed_unit-is, may_follow-up}
use Rattle.trfc_protocol.proofs.NextLemmas.{IsNext, Next-with_claim, Next-written, stays}

-- what the answer says of the receiver
answer_New : (up among busy empty offers : Bool)
    → cond (not up) answer.Down (cond among answer.Known (cond busy answer.Busy (cond empty (cond offers answer.Run answer.SysFail) answer.New))) ≡ answer.New
    → (up ≡ true) × (among ≡ false) × (busy ≡ false) × (empty ≡ false)
answer_New true false false false offers is = (refl, refl, refl, refl)
answer_New false among busy empty offers is = cc
answer_New true true busy empty offers is = cc
answer_New true false true empty offers is = cc
answer_New true false false true true is = cc
answer_New true false false true false is = cc

answer_Run : (up among busy empty offers : Bool)
    → cond (not up) answer.Down (cond among answer.Known (cond busy answer.Busy (cond empty (cond offers answer.Run answer.SysFail) answer.New))) ≡ answer.Run
    → (up ≡ true) × (among ≡ false) × (busy ≡ false) × (empty ≡ true) × (offers ≡ true)
answer_Run true false false true true is = (refl, refl, refl, refl, refl)
answer_Run true false false true false is = cc
answer_Run true false false false offers is = cc
answer_Run false among busy empty offers is = cc
answer_Run true true busy empty offers is = cc
answer_Run true false true empty offers is = cc

module _ {R : Type 0} (rules : Meaning) (lawful : IsLawful rules) (world : World R) (safe : Safe rules world) where
  abbrev Next : World R → Type 0
  Next after = IsNext rules world after

  -- a unit is claimed by its sender
  pub Next-claims_outbound : (tid : TidOf) → Next (happens rules world (event.Claim tid))
  Next-claims_outbound tid =
      let up = is_up world tid.system in
      let free = is_free_outbound (committed_by rules world tid.system) (log_of world tid.system) tid in
      let idle = not (is_claimed Out tid world.claims) in
      let moves = may_move (is_stopped_outbound (log_of world tid.system)) (committed_unit rules world tid) in
      cond_both (up && free && idle && moves) (with_claim world tid tid.system Out) world Next
      (λ pass.
      let a = and_parts (up && free && idle) moves pass in
      let b = and_parts (up && free) idle a.0 in
      let c = and_parts up free b.0 in
      Next-with_claim rules lawful world safe tid tid.system Out c.0 (and_from (tid.system == tid.system) free (eq-eqb tid.system tid.system refl) c.1)
      (not-true (is_claimed Out tid world.claims) b.1))
      (λ _. stays rules lawful world safe)

  -- the unit that an id names may be taken in, where it is new at its receiver and heads its queues at its sender
  pub may_take : (tid : TidOf) (unit : AleUnit) (system : ℕ) → committed_unit rules world tid ≡ Some unit → unit.receiver ≡ system
      → is_among unit.tid (received (log_of world system)) ≡ false
      → heads_at_sender rules world unit ≡ true → MayTake (committed_by rules world) (log_of world) system unit
  may_take tid unit system named receiver new heads =
      let is = committed_unit-is rules lawful world safe tid unit named in
      let from : unit.tid.system ≡ unit.sender = ap (λ (t : TidOf). t.system) is.1 ∙ sym is.2 in
      record {
        receiver = receiver;
        was_committed = subst (λ s. Contains (committed_by rules world s) unit) (sym is.2) is.0;
        new = new;
        heads = subst (λ s. heads_outbound (done_in (log_of world s)) (committed_by rules world s) unit ≡ true) from heads;
      }

  -- a unit that was not received is new at its receiver
  new_from : (unit : AleUnit) → is_among unit.tid (received (log_of world unit.receiver)) ≡ false
      → is_new unit.receiver (log_of world unit.receiver) unit ≡ true
  new_from unit new =
      and_from (unit.receiver == unit.receiver) (not (is_among unit.tid (received (log_of world unit.receiver)))) (eq-eqb unit.receiver unit.receiver refl)
      (not_from_false (is_among unit.tid (received (log_of world unit.receiver))) new)

  -- a unit that may arrive and was not received heads its outbound queues
  heads_of_new : (unit : AleUnit) → may_arrive rules world unit ≡ true → is_among unit.tid (received (log_of world unit.receiver)) ≡ false
      → heads_at_sender rules world unit ≡ true
  heads_of_new unit may new =
      let among = is_among unit.tid (received (log_of world unit.receiver)) in
      let heads = heads_at_sender rules world unit in
      elim (or_cases among heads (and_parts (not (is_listed unit.tid (forgotten_in (log_of world unit.receiver)))) (among || heads) may).1) [
        | inl known ↦ absurd (both_ways among new known)
        | inr is ↦ is
      ]

  -- what the answer New says of the receiver
  answer-new : (unit : AleUnit) → answer_to rules world unit ≡ answer.New
      → (is_up world unit.receiver ≡ true) × (is_among unit.tid (received (log_of world unit.receiver)) ≡ false)
      × (is_claimed Direct unit.tid world.claims ≡ false) × (is_empty unit.inq ≡ false)
  answer-new unit is =
      answer_New (is_up world unit.receiver) (is_among unit.tid (received (log_of world unit.receiver))) (is_claimed Direct unit.tid world.claims)
      (is_empty unit.inq) (offers_now rules world unit.receiver unit.function) is

  -- a unit is taken in
  pub writes-accept : (tid : TidOf) (unit : AleUnit) → committed_unit rules world tid ≡ Some unit → may_arrive rules world unit ≡ true
      → answer_to rules world unit ≡ answer.New → MayWrite rules world unit.receiver (log.Accept unit)
  writes-accept tid unit named may is =
      let parts = answer-new unit is in
      record {
        up = parts.0;
        may = may_follow-up rules lawful world safe unit.receiver (log.Accept unit) parts.0
            (and_from (is_new unit.receiver (log_of world unit.receiver) unit) (not (is_empty unit.inq)) (new_from unit parts.1)
            (not_from_false (is_empty unit.inq) parts.3));
        join = MayJoin-accept (committed_by rules world) (log_of world) unit.receiver unit
            (may_take tid unit unit.receiver named refl parts.1 (heads_of_new unit may parts.1));
      }

  Next-accept : (tid : TidOf) (unit : AleUnit) → committed_unit rules world tid ≡ Some unit → may_arrive rules world unit ≡ true
      → answer_to rules world unit ≡ answer.New → Next (with_record world unit.receiver (log.Accept unit))
  Next-accept tid unit named may is =
      Next-written rules lawful world safe unit.receiver (log.Accept unit) (writes-accept tid unit named may is)
      (λ held has. record {
        out = λ kind here. (λ t same. absurd (none-some t same), refl);
        in_ = λ kind here. (λ t same. absurd (none-some t same), refl);
        direct = λ kind. (
          λ t same. absurd (none-some t same),
          λ u same here its.
              not_claimed Direct unit.tid world.claims (answer-new unit is).2 held has kind
              (sym its ∙ sym (ap (λ (v : AleUnit). v.tid) (same_Some unit u same))),
          λ here. refl,
        );
      })

  -- a direct run begins
  Next-runs : (tid : TidOf) (unit : AleUnit) → committed_unit rules world tid ≡ Some unit → may_arrive rules world unit ≡ true
      → answer_to rules world unit ≡ answer.Run
      → Next (with_claim world unit.tid unit.receiver Direct)
  Next-runs tid unit named may is =
      let parts = answer_Run (is_up world unit.receiver) (is_among unit.tid (received (log_of world unit.receiver)))
      (is_claimed Direct unit.tid world.claims) (is_empty unit.inq) (offers_now rules world unit.receiver unit.function) is in
      let its : unit.tid ≡ tid = (committed_unit-is rules lawful world safe tid unit named).1 in
      Next-with_claim rules lawful world safe unit.tid unit.receiver Direct parts.0
      (due-IsRun rules world unit.receiver unit.tid (record {
        unit = unit;
        named = subst (λ t. committed_unit rules world t ≡ Some unit) (sym its) named;
        receiver = refl;
        direct = parts.3;
        offers = parts.4;
        new = parts.1;
        heads = heads_of_new unit may parts.1;
      }))
      parts.2

  -- the same by the answer
  by_answer : (tid : TidOf) (unit : AleUnit) (given : Answer) → committed_unit rules world tid ≡ Some unit → may_arrive rules world unit ≡ true
      → answer_to rules world unit ≡ given → Next (written (record_of_answer unit given) (with_run world unit given))
  by_answer tid unit answer.New named may is = Next-accept tid unit named may is
  by_answer tid unit answer.Run named may is = Next-runs tid unit named may is
  by_answer tid unit answer.Down named may is = stays rules lawful world safe
  by_answer tid unit answer.Known named may is = stays rules lawful world safe
  by_answer tid unit answer.Busy named may is = stays rules lawful world safe
  by_answer tid unit answer.SysFail named may is = stays rules lawful world safe

  -- a unit arrives, and its receiver answers
  pub Next-arrives : (tid : TidOf) (found : Option AleUnit) → committed_unit rules world tid ≡ found
      → Next (written (option_and_then (record_of_arrival rules world) found) (option_map_or (after_arrival rules world) found world))
  Next-arrives tid None named = stays rules lawful world safe
  Next-arrives tid (Some unit) named = at (may_arrive rules world unit) refl
    where
      at : (may : Bool) → may_arrive rules world unit ≡ may
          → Next (written (cond may (record_of_answer unit (answer_to rules world unit)) None)
          (cond may (with_run world unit (answer_to rules world unit)) world))
      at true may = by_answer tid unit (answer_to rules world unit) named may refl
      at false may = stays rules lawful world safe
