-- A record may be kept exactly where an event that is possible now appends it.
use Rattle.std.specs.Prelude.{Contains, IsTrue, ◌↔◌}
use Rattle.std.specs.Option.{option_and_then, option_map_or}
use Rattle.std.proofs.Common.{◌≡◌, ℕ, ◌==◌, Bool, true, false, not, cond, ◌&&◌, Option, Some, None, refl, sym, ap, subst, ◌∙◌}
use Rattle.std.proofs.lemmas.Bool.{and_parts, and_from, not_from_false, eqb-true, eq-eqb}
use Rattle.ale_base.specs.Tid.{TidOf}
use Rattle.ale_base.specs.declared.mark.Mark.{Mark as Cause}
use Rattle.ale_base.specs.declared.mark.Mark.TheVariants.{Cpicerr, Sysfail}
use Rattle.unit_core.specs.declared.ale_unit.AleUnit.{AleUnit}
use Rattle.unit_core.specs.declared.records.Record.{Record}
use Rattle.unit_core.specs.declared.records.Record.TheVariants as log
use Rattle.unit_core.specs.Filters.{received, done_in, ended_in, forgotten_in}
use Rattle.unit_core.specs.Queues.{is_listed, is_among}
use Rattle.trfc_protocol.specs.declared.world.World.{World}
use Rattle.trfc_protocol.specs.declared.held.Held.{Held}
use Rattle.trfc_protocol.specs.declared.held.HeldKind.{HeldKind}
use Rattle.trfc_protocol.specs.declared.held.HeldKind.TheVariants.{Out, In, Direct}
use Rattle.trfc_protocol.specs.declared.answer.Answer.{Answer}
use Rattle.trfc_protocol.specs.declared.answer.Answer.TheVariants as answer
use Rattle.trfc_protocol.specs.declared.event.Event.{Event}
use Rattle.trfc_protocol.specs.declared.event.Event.TheVariants as event
use Rattle.trfc_protocol.specs.declared.event.ReplyTo.TheVariants.{Claim, Forgotten}
use Rattle.trfc_protocol.specs.declared.event.CoreAnswer.TheVariants as reply
use Rattle.trfc_protocol.specs.declared.event.Action.TheVariants.{Append}
use Rattle.trfc_protocol.specs.Meaning.{Meaning}
use Rattle.trfc_protocol.specs.Legal.{is_commit, is_empty, may_follow, IsLawful}
use Rattle.trfc_protocol.specs.Worlds.{log_of, is_up, offers_now, committed_unit, is_claimed_at}
use Rattle.trfc_protocol.specs.Offered.{may_arrive, answer_to, offers_received_now}
use Rattle.unit_core.specs.SameUnit.{is_same_unit}
use Rattle.trfc_protocol.specs.RecordOf.{Writing, record_if, may_operate, record_of_answer, record_of_arrival, record_of_run, record_of_work, record_of_failure}
use Rattle.trfc_protocol.specs.RecordOf.{record_of_answered, record_of_reply, record_of_loss, record_of_confirmation, record_of_ending, record_of_claim}
use Rattle.trfc_protocol.specs.RecordOf.{record_of}
use Rattle.trfc_protocol.specs.Keeping.{IsWritten, is_new_answer, of_committed, may_append, may_keep}
use Rattle.trfc_protocol.specs.Safe.{Safe}
use Rattle.trfc_protocol.proofs.ClaimLemmas.{claim_of-Contains, is_claimed_at-Contains, claim_at}
use Rattle.trfc_protocol.proofs.SafeLemmas.{MayWrite, committed_unit-is}
use Rattle.trfc_protocol.proofs.RecordLemmas.{EachRecord, each-record, MayWrite-record}
use Rattle.unit_core.proofs.SameUnitLemmas.{is_same_unit-self, is_same_unit-true}

-- what is asked of a unit that is there
found_so : (test : AleUnit → Bool) (found : Option AleUnit) → option_map_or test found false ≡ true
    → (unit : AleUnit) × (found ≡ Some unit) × (test unit ≡ true)
found_so test None is = cc
found_so test (Some unit) is = (unit, refl, is)

is_new : (given : Answer) → is_new_answer given ≡ true → given ≡ answer.New
is_new answer.New is = refl
is_new answer.Down is = cc
is_new answer.Known is = cc
is_new answer.Busy is = cc
is_new answer.SysFail is = cc
is_new answer.Run is = cc

module _ {R : Type 0} (rules : Meaning) (lawful : IsLawful rules) (world : World R) (safe : Safe rules world) where
  -- ---- what an event appends may be kept

  of_it : (test : AleUnit → Bool) (tid : TidOf) (unit : AleUnit) → committed_unit rules world tid ≡ Some unit → test unit ≡ true
      → of_committed rules world test tid ≡ true
  of_it test tid unit named is = ap (λ found. option_map_or test found false) named ∙ is

  -- the unit of an id has that id
  own_tid : (tid : TidOf) (unit : AleUnit) → committed_unit rules world tid ≡ Some unit → committed_unit rules world unit.tid ≡ Some unit
  own_tid tid unit named =
      subst (λ t. committed_unit rules world t ≡ Some unit) (sym (committed_unit-is rules lawful world safe tid unit named).1) named

  appends : (of_kind : Bool) (system : ℕ) (next : Record) → is_up world system ≡ true → of_kind ≡ true
      → may_follow rules system (log_of world system) next ≡ true → may_append rules world of_kind system next ≡ true
  appends of_kind system next up is may =
      and_from (is_up world system && of_kind) (may_follow rules system (log_of world system) next) (and_from (is_up world system) of_kind up is) may

  keeps-commit : (system : ℕ) (next : Record) → is_up world system ≡ true → is_commit next ≡ true
      → may_follow rules system (log_of world system) next ≡ true → may_keep rules world system next ≡ true
  keeps-commit system (log.Commit origin docs) up is may = appends true system (log.Commit origin docs) up refl may
  keeps-commit system log.Dispatch up is may = appends true system log.Dispatch up refl may
  keeps-commit system _ up is may = cc

  keeps-operator : (system : ℕ) (next : Record) → is_up world system ≡ true → may_operate world next ≡ true
      → may_follow rules system (log_of world system) next ≡ true → may_keep rules world system next ≡ true
  keeps-operator system (log.Stop way destination name) up is may = appends _ system (log.Stop way destination name) up is may
  keeps-operator system (log.Start way destination name) up is may = appends _ system (log.Start way destination name) up is may
  keeps-operator system (log.Retry way tid) up is may = appends _ system (log.Retry way tid) up is may
  keeps-operator system (log.Put kind key fields) up is may = appends _ system (log.Put kind key fields) up is may
  keeps-operator system (log.App doc) up is may = appends _ system (log.App doc) up is may
  keeps-operator system (log.Repost doc) up is may = appends _ system (log.Repost doc) up is may
  keeps-operator system (log.Model text) up is may = appends _ system (log.Model text) up is may
  keeps-operator system _ up is may = cc

  kept : EachRecord rules world (λ system next. may_keep rules world system next ≡ true)
  kept = record {
    commit = keeps-commit;
    operator = keeps-operator;
    accept = λ tid unit named may is.
        let here = unit.receiver == unit.receiver in
        let own = of_committed rules world (is_same_unit unit) unit.tid in
        let arrives = may_arrive rules world unit in
        and_from (here && own && arrives) (is_new_answer (answer_to rules world unit))
        (and_from (here && own) arrives
        (and_from here own (eq-eqb unit.receiver unit.receiver refl)
        (of_it (is_same_unit unit) unit.tid unit (own_tid tid unit named) (is_same_unit-self unit)))
        may)
        (ap is_new_answer is);
    execute = λ held has kind offers.
        and_from (is_claimed_at In held.system held.tid world.claims) (offers_received_now rules world held.system held.tid)
        (is_claimed_at-Contains world.claims held In has kind) offers;
    fail = λ held has kind offers.
        and_from (is_claimed_at In held.system held.tid world.claims) (not (offers_received_now rules world held.system held.tid))
        (is_claimed_at-Contains world.claims held In has kind) (not_from_false (offers_received_now rules world held.system held.tid) offers);
    direct = λ held has kind unit named offers.
        let its = (committed_unit-is rules lawful world safe held.tid unit named).1 in
        let claim = is_claimed_at Direct held.system unit.tid world.claims in
        let own = of_committed rules world (is_same_unit unit) unit.tid in
        and_from (claim && own) (offers_now rules world held.system unit.function)
        (and_from claim own
        (subst (λ t. is_claimed_at Direct held.system t world.claims ≡ true) (sym its) (is_claimed_at-Contains world.claims held Direct has kind))
        (of_it (is_same_unit unit) unit.tid unit (own_tid held.tid unit named) (is_same_unit-self unit)))
        offers;
    done = λ held unit has kind named among.
        and_from (is_claimed_at Out held.system held.tid world.claims)
        (of_committed rules world (λ u. is_among u.tid (received (log_of world u.receiver))) held.tid)
        (is_claimed_at-Contains world.claims held Out has kind)
        (of_it (λ u. is_among u.tid (received (log_of world u.receiver))) held.tid unit named among);
    refused = λ held unit has kind named pass.
        and_from (is_claimed_at Out held.system held.tid world.claims)
        (of_committed rules world (λ u. is_empty u.inq && not (offers_now rules world u.receiver u.function)) held.tid)
        (is_claimed_at-Contains world.claims held Out has kind)
        (of_it (λ u. is_empty u.inq && not (offers_now rules world u.receiver u.function)) held.tid unit named pass);
    lost = λ held has kind. is_claimed_at-Contains world.claims held Out has kind;
    forget = λ tid unit named done up open_.
        let d = is_listed unit.tid (done_in (log_of world unit.tid.system)) in
        let u = is_up world unit.receiver in
        let o = not (is_listed unit.tid (forgotten_in (log_of world unit.receiver))) in
        and_from (d && u && o) (of_committed rules world (λ v. v.receiver == unit.receiver) unit.tid)
        (and_from (d && u) o (and_from d u done up) (not_from_false (is_listed unit.tid (forgotten_in (log_of world unit.receiver))) open_))
        (of_it (λ v. v.receiver == unit.receiver) unit.tid unit (own_tid tid unit named) (eq-eqb unit.receiver unit.receiver refl));
    ended = λ tid unit named up done open_ gone.
        let here = tid.system == tid.system in
        let u = is_up world tid.system in
        let d = is_listed tid (done_in (log_of world tid.system)) in
        let o = not (is_listed tid (ended_in (log_of world tid.system))) in
        and_from (here && u && d && o) (of_committed rules world (λ v. is_listed tid (forgotten_in (log_of world v.receiver))) tid)
        (and_from (here && u && d) o
        (and_from (here && u) d (and_from here u (eq-eqb tid.system tid.system refl) up) done)
        (not_from_false (is_listed tid (ended_in (log_of world tid.system))) open_))
        (of_it (λ v. is_listed tid (forgotten_in (log_of world v.receiver))) tid unit named gone);
  }

  -- ---- what may be kept is appended by an event

  written_if : (met : Bool) (system : ℕ) (next : Record) → met ≡ true → record_if met system next ≡ Some (record { system = system; next = next })
  written_if met system next is = ap (λ b. record_if b system next) is

  -- the record of an event of a claim that is there
  of_claim : (of_kind : Held → HeldKind → Option Writing) (held : Held) (kind : HeldKind) → Contains world.claims held → held.kind ≡ kind
      → record_of_claim world of_kind held.number ≡ of_kind held kind
  of_claim of_kind held kind has is =
      ap (option_and_then (λ h. of_kind h h.kind)) (claim_of-Contains world.claims held safe.apart has) ∙ ap (of_kind held) is

  -- the record of an event of a claim, at the system and of the unit that are asked for
  at_claim : (kind : HeldKind) (system : ℕ) (tid : TidOf) (next : TidOf → Record) → is_claimed_at kind system tid world.claims ≡ true
      → ((held : Held) → Contains world.claims held → held.kind ≡ kind → held.system ≡ system → held.tid ≡ tid
      → IsWritten rules world held.system (next held.tid))
      → IsWritten rules world system (next tid)
  at_claim kind system tid next is each =
      let found = claim_at kind system tid world.claims is in
      subst (λ s. IsWritten rules world s (next tid)) found.its_system
      (subst (λ t. IsWritten rules world found.held.system (next t)) found.its_tid
      (each found.held found.has found.its_kind found.its_system found.its_tid))

  -- the reply to a shipment
  by_reply : (system : ℕ) (tid : TidOf) (test : AleUnit → Bool) → is_claimed_at Out system tid world.claims ≡ true → of_committed rules world test tid ≡ true
      → (next : TidOf → Record) (e : ℕ → Event)
      → ((held : Held) (unit : AleUnit) → Contains world.claims held → held.kind ≡ Out → committed_unit rules world held.tid ≡ Some unit → test unit ≡ true
      → record_of rules world (e held.number) ≡ Some (record { system = held.system; next = next held.tid }))
      → IsWritten rules world system (next tid)
  by_reply system tid test is so next e each =
      let found = found_so test (committed_unit rules world tid) so in
      at_claim Out system tid next is (λ held has kind here its.
      (e held.number, each held found.0 has kind (subst (λ t. committed_unit rules world t ≡ Some found.0) (sym its) found.1) found.2))

  writes-mark : (system : ℕ) (tid : TidOf) (cause : Cause) → may_keep rules world system (log.Mark tid cause) ≡ true
      → IsWritten rules world system (log.Mark tid cause)
  writes-mark system tid Cpicerr is =
      at_claim Out system tid (λ t. log.Mark t Cpicerr) is (λ held has kind here its.
      (event.LoseRequest held.number, of_claim record_of_loss held Out has kind))
  writes-mark system tid Sysfail is =
      let test : AleUnit → Bool = λ unit. is_empty unit.inq && not (offers_now rules world unit.receiver unit.function) in
      let parts = and_parts (is_claimed_at Out system tid world.claims) (of_committed rules world test tid) is in
      by_reply system tid test parts.0 parts.1 (λ t. log.Mark t Sysfail) (λ number. event.Reply (Claim number reply.SysFail))
      (λ held unit has kind named pass.
      of_claim (record_of_reply rules world reply.SysFail) held Out has kind
      ∙ ap (option_and_then (record_of_answered rules world held reply.SysFail)) named
      ∙ written_if (test unit) held.system (log.Mark held.tid Sysfail) pass)

  writes-accept : (system : ℕ) (unit : AleUnit) → may_keep rules world system (log.Accept unit) ≡ true → IsWritten rules world system (log.Accept unit)
  writes-accept system unit is =
      let here = unit.receiver == system in
      let own = of_committed rules world (is_same_unit unit) unit.tid in
      let arrives = may_arrive rules world unit in
      let a = and_parts (here && own && arrives) (is_new_answer (answer_to rules world unit)) is in
      let b = and_parts (here && own) arrives a.0 in
      let c = and_parts here own b.0 in
      let found = found_so (is_same_unit unit) (committed_unit rules world unit.tid) c.1 in
      let equal : unit ≡ found.0 = is_same_unit-true unit found.0 found.2 in
      subst (λ s. IsWritten rules world s (log.Accept unit)) (eqb-true unit.receiver system c.0) (
        event.Arrive unit.tid,
        ap (option_and_then (record_of_arrival rules world)) found.1
            ∙ sym (ap (record_of_arrival rules world) equal)
            ∙ ap (λ b. cond b (record_of_answer unit (answer_to rules world unit)) None) b.1
            ∙ ap (record_of_answer unit) (is_new (answer_to rules world unit) a.1),
      )

  writes-direct : (system : ℕ) (unit : AleUnit) → may_keep rules world system (log.Direct unit) ≡ true → IsWritten rules world system (log.Direct unit)
  writes-direct system unit is =
      let claim = is_claimed_at Direct system unit.tid world.claims in
      let own = of_committed rules world (is_same_unit unit) unit.tid in
      let a = and_parts (claim && own) (offers_now rules world system unit.function) is in
      let b = and_parts claim own a.0 in
      let found = found_so (is_same_unit unit) (committed_unit rules world unit.tid) b.1 in
      let equal : unit ≡ found.0 = is_same_unit-true unit found.0 found.2 in
      at_claim Direct system unit.tid (λ t. log.Direct unit) b.0 (λ held has kind here its. (
        event.Finish held.number,
        of_claim (record_of_work rules world) held Direct has kind
            ∙ ap (option_and_then (record_of_run rules world held)) (subst (λ t. committed_unit rules world t ≡ Some found.0) (sym its) found.1)
            ∙ sym (ap (record_of_run rules world held) equal)
            ∙ written_if (offers_now rules world held.system unit.function) held.system (log.Direct unit)
            (subst (λ s. offers_now rules world s unit.function ≡ true) (sym here) a.1),
      ))

  writes-forget : (system : ℕ) (tid : TidOf) → may_keep rules world system (log.Forget tid) ≡ true → IsWritten rules world system (log.Forget tid)
  writes-forget system tid is =
      let d = is_listed tid (done_in (log_of world tid.system)) in
      let u = is_up world system in
      let o = not (is_listed tid (forgotten_in (log_of world system))) in
      let a = and_parts (d && u && o) (of_committed rules world (λ v. v.receiver == system) tid) is in
      let found = found_so (λ v. v.receiver == system) (committed_unit rules world tid) a.1 in
      let unit : AleUnit = found.0 in
      let receiver : unit.receiver ≡ system = eqb-true unit.receiver system found.2 in
      let its : unit.tid ≡ tid = (committed_unit-is rules lawful world safe tid unit found.1).1 in
      let met : TidOf → ℕ → Bool = λ t s. is_listed t (done_in (log_of world t.system)) && is_up world s && not (is_listed t (forgotten_in (log_of world s))) in
      subst (λ s. IsWritten rules world s (log.Forget tid)) receiver
      (subst (λ t. IsWritten rules world unit.receiver (log.Forget t)) its (
        event.Confirm tid,
        ap (option_and_then (record_of_confirmation world)) found.1
            ∙ written_if (met unit.tid unit.receiver) unit.receiver (log.Forget unit.tid)
            (subst (λ s. met unit.tid s ≡ true) (sym receiver) (subst (λ t. met t system ≡ true) (sym its) a.0)),
      ))

  writes-ended : (system : ℕ) (tid : TidOf) → may_keep rules world system (log.Ended tid) ≡ true → IsWritten rules world system (log.Ended tid)
  writes-ended system tid is =
      let here = tid.system == system in
      let test : AleUnit → Bool = λ v. is_listed tid (forgotten_in (log_of world v.receiver)) in
      let rest : ℕ → Bool = λ s. is_up world s && is_listed tid (done_in (log_of world s)) && not (is_listed tid (ended_in (log_of world s))) in
      let u = is_up world system in
      let d = is_listed tid (done_in (log_of world system)) in
      let o = not (is_listed tid (ended_in (log_of world system))) in
      let a = and_parts (here && u && d && o) (of_committed rules world test tid) is in
      let b = and_parts (here && u && d) o a.0 in
      let c = and_parts (here && u) d b.0 in
      let e = and_parts here u c.0 in
      let found = found_so test (committed_unit rules world tid) a.1 in
      let same : tid.system ≡ system = eqb-true tid.system system e.0 in
      let so : rest tid.system ≡ true = subst (λ s. rest s ≡ true) (sym same) (and_from (u && d) o (and_from u d e.1 c.1) b.1) in
      subst (λ s. IsWritten rules world s (log.Ended tid)) same (
        event.Reply (Forgotten tid),
        ap (option_and_then (record_of_ending world tid)) found.1
            ∙ written_if (rest tid.system && test found.0) tid.system (log.Ended tid) (and_from (rest tid.system) (test found.0) so found.2),
      )

  by_operator : (system : ℕ) (next : Record) → may_append rules world (may_operate world next) system next ≡ true → IsWritten rules world system next
  by_operator system next is = (event.Operator (Append system next), ap (λ b. record_if b system next) is)

  -- a record that may be kept is appended by an event
  kept-written : (system : ℕ) (next : Record) → may_keep rules world system next ≡ true → IsWritten rules world system next
  kept-written system (log.Mark tid cause) is = writes-mark system tid cause is
  kept-written system (log.Done tid) is =
      let test : AleUnit → Bool = λ unit. is_among unit.tid (received (log_of world unit.receiver)) in
      let parts = and_parts (is_claimed_at Out system tid world.claims) (of_committed rules world test tid) is in
      by_reply system tid test parts.0 parts.1 (λ t. log.Done t) (λ number. event.Reply (Claim number reply.Done))
      (λ held unit has kind named pass.
      of_claim (record_of_reply rules world reply.Done) held Out has kind
      ∙ ap (option_and_then (record_of_answered rules world held reply.Done)) named
      ∙ written_if (test unit) held.system (log.Done held.tid) pass)
  kept-written system (log.Ended tid) is = writes-ended system tid is
  kept-written system (log.Accept unit) is = writes-accept system unit is
  kept-written system (log.Execute tid) is =
      let parts = and_parts (is_claimed_at In system tid world.claims) (offers_received_now rules world system tid) is in
      at_claim In system tid (λ t. log.Execute t) parts.0 (λ held has kind here its. (
        event.Finish held.number,
        of_claim (record_of_work rules world) held In has kind
            ∙ written_if (offers_received_now rules world held.system held.tid) held.system (log.Execute held.tid)
            (subst (λ s. offers_received_now rules world s held.tid ≡ true) (sym here)
            (subst (λ t. offers_received_now rules world system t ≡ true) (sym its) parts.1)),
      ))
  kept-written system (log.Direct unit) is = writes-direct system unit is
  kept-written system (log.Fail tid) is =
      let parts = and_parts (is_claimed_at In system tid world.claims) (not (offers_received_now rules world system tid)) is in
      at_claim In system tid (λ t. log.Fail t) parts.0 (λ held has kind here its. (
        event.Fail held.number,
        of_claim (record_of_failure rules world) held In has kind
            ∙ written_if (not (offers_received_now rules world held.system held.tid)) held.system (log.Fail held.tid)
            (subst (λ s. not (offers_received_now rules world s held.tid) ≡ true) (sym here)
            (subst (λ t. not (offers_received_now rules world system t) ≡ true) (sym its) parts.1)),
      ))
  kept-written system (log.Forget tid) is = writes-forget system tid is
  kept-written system (log.Commit origin docs) is = (event.Commit system (log.Commit origin docs), ap (λ b. record_if b system (log.Commit origin docs)) is)
  kept-written system log.Dispatch is = (event.Commit system log.Dispatch, ap (λ b. record_if b system log.Dispatch) is)
  kept-written system (log.Genesis number text) is = by_operator system (log.Genesis number text) is
  kept-written system (log.Stop way destination name) is = by_operator system (log.Stop way destination name) is
  kept-written system (log.Start way destination name) is = by_operator system (log.Start way destination name) is
  kept-written system (log.Retry way tid) is = by_operator system (log.Retry way tid) is
  kept-written system (log.Put kind key fields) is = by_operator system (log.Put kind key fields) is
  kept-written system (log.App doc) is = by_operator system (log.App doc) is
  kept-written system (log.Repost doc) is = by_operator system (log.Repost doc) is
  kept-written system (log.Model text) is = by_operator system (log.Model text) is

  -- a record may be kept exactly where an event appends it
  pub kept-is : (system : ℕ) (next : Record) → IsTrue (may_keep rules world system next) ↔ IsWritten rules world system next
  kept-is system next = (
    kept-written system next,
    λ written. each-record rules world (λ s n. may_keep rules world s n ≡ true) kept written.0 (record { system = system; next = next }) written.1,
  )

  -- a system may write a record that it may keep
  pub MayWrite-kept : (system : ℕ) (next : Record) → may_keep rules world system next ≡ true → MayWrite rules world system next
  MayWrite-kept system next is =
      let by = kept-written system next is in
      MayWrite-record rules lawful world safe by.0 (record { system = system; next = next }) by.1
