-- What is known where an event appends a record, by the kind of the record; and that its system may write it.
use Rattle.std.specs.Prelude.{Contains}
use Rattle.std.specs.Option.{option_and_then}
use Rattle.std.proofs.Common.{◌≡◌, ℕ, Bool, true, false, not, cond, ◌&&◌, Option, Some, None, refl}
use Rattle.std.proofs.lemmas.Bool.{and_parts, not-true}
use Rattle.ale_base.specs.Tid.{TidOf}
use Rattle.ale_base.specs.declared.mark.Mark.TheVariants.{Cpicerr, Sysfail}
use Rattle.unit_core.specs.declared.ale_unit.AleUnit.{AleUnit}
use Rattle.unit_core.specs.declared.records.Record.{Record}
use Rattle.unit_core.specs.declared.records.Record.TheVariants as log
use Rattle.unit_core.specs.Filters.{received, done_in, ended_in, forgotten_in}
use Rattle.unit_core.specs.Queues.{is_listed, is_among}
use Rattle.trfc_protocol.specs.declared.world.World.{World}
use Rattle.trfc_protocol.specs.declared.held.Held.{Held}
use Rattle.trfc_protocol.specs.declared.held.HeldKind.{HeldKind}
use Rattle.trfc_protocol.specs.declared.held.HeldKind.TheVariants.{Out, In, Direct}
use Rattle.trfc_protocol.specs.declared.answer.Answer.{Answer}
use Rattle.trfc_protocol.specs.declared.answer.Answer.TheVariants as answer
use Rattle.trfc_protocol.specs.declared.event.Event.{Event}
use Rattle.trfc_protocol.specs.declared.event.Event.TheVariants as event
use Rattle.trfc_protocol.specs.declared.event.ReplyTo.TheVariants.{Claim, Forgotten}
use Rattle.trfc_protocol.specs.declared.event.CoreAnswer.{CoreAnswer}
use Rattle.trfc_protocol.specs.declared.event.CoreAnswer.TheVariants as reply
use Rattle.trfc_protocol.specs.declared.event.Action.TheVariants.{Append, Revoke}
use Rattle.trfc_protocol.specs.Meaning.{Meaning}
use Rattle.trfc_protocol.specs.Legal.{is_commit, is_operators, is_empty, may_follow, IsLawful}
use Rattle.trfc_protocol.specs.Worlds.{log_of, is_up, offers_now, committed_unit, claim_of}
use Rattle.trfc_protocol.specs.Offered.{may_arrive, answer_to, offers_received_now}
use Rattle.trfc_protocol.specs.RecordOf.{Writing, record_asked, record_of_answer, record_of_arrival, record_of_run, record_of_work, record_of_failure}
use Rattle.trfc_protocol.specs.RecordOf.{record_of_answered, record_of_reply, record_of_loss, record_of_confirmation, record_of_ending, record_of, may_operate}
use Rattle.trfc_protocol.specs.Safe.{Safe}
use Rattle.trfc_protocol.proofs.LegalLemmas.{IsPlain, IsPlain-commit, IsPlain-operators, MayJoin-plain}
use Rattle.trfc_protocol.proofs.ClaimLemmas.{claim_of-Some}
use Rattle.trfc_protocol.proofs.SafeLemmas.{MayWrite}
use Rattle.trfc_protocol.proofs.NextLemmas.{record_if-each}
use Rattle.trfc_protocol.proofs.SendingLemmas.{writes-accept}
use Rattle.trfc_protocol.proofs.ExecutingLemmas.{writes-execute, writes-fail, writes-direct}
use Rattle.trfc_protocol.proofs.ReplyingLemmas.{writes-mark, writes-done}
use Rattle.trfc_protocol.proofs.ConfirmingLemmas.{writes-forget, writes-ended}

-- what holds of each record that an event appends holds where it does of each kind, by what is known there
pub record EachRecord {R : Type 0} (rules : Meaning) (world : World R) (P : ℕ → Record → Type 0) : Type 0 where
  pub commit : (system : ℕ) (next : Record) → is_up world system ≡ true → is_commit next ≡ true
      → may_follow rules system (log_of world system) next ≡ true → P system next
  pub operator : (system : ℕ) (next : Record) → is_up world system ≡ true → may_operate world next ≡ true
      → may_follow rules system (log_of world system) next ≡ true → P system next
  pub accept : (tid : TidOf) (unit : AleUnit) → committed_unit rules world tid ≡ Some unit → may_arrive rules world unit ≡ true
      → answer_to rules world unit ≡ answer.New → P unit.receiver (log.Accept unit)
  pub execute : (held : Held) → Contains world.claims held → held.kind ≡ In → offers_received_now rules world held.system held.tid ≡ true
      → P held.system (log.Execute held.tid)
  pub fail : (held : Held) → Contains world.claims held → held.kind ≡ In → offers_received_now rules world held.system held.tid ≡ false
      → P held.system (log.Fail held.tid)
  pub direct : (held : Held) → Contains world.claims held → held.kind ≡ Direct → (unit : AleUnit) → committed_unit rules world held.tid ≡ Some unit
      → offers_now rules world held.system unit.function ≡ true → P held.system (log.Direct unit)
  pub done : (held : Held) (unit : AleUnit) → Contains world.claims held → held.kind ≡ Out → committed_unit rules world held.tid ≡ Some unit
      → is_among unit.tid (received (log_of world unit.receiver)) ≡ true → P held.system (log.Done held.tid)
  pub refused : (held : Held) (unit : AleUnit) → Contains world.claims held → held.kind ≡ Out → committed_unit rules world held.tid ≡ Some unit
      → (is_empty unit.inq && not (offers_now rules world unit.receiver unit.function)) ≡ true → P held.system (log.Mark held.tid Sysfail)
  pub lost : (held : Held) → Contains world.claims held → held.kind ≡ Out → P held.system (log.Mark held.tid Cpicerr)
  pub forget : (tid : TidOf) (unit : AleUnit) → committed_unit rules world tid ≡ Some unit
      → is_listed unit.tid (done_in (log_of world unit.tid.system)) ≡ true → is_up world unit.receiver ≡ true
      → is_listed unit.tid (forgotten_in (log_of world unit.receiver)) ≡ false → P unit.receiver (log.Forget unit.tid)
  pub ended : (tid : TidOf) (unit : AleUnit) → committed_unit rules world tid ≡ Some unit → is_up world tid.system ≡ true
      → is_listed tid (done_in (log_of world tid.system)) ≡ true → is_listed tid (ended_in (log_of world tid.system)) ≡ false
      → is_listed tid (forgotten_in (log_of world unit.receiver)) ≡ true → P tid.system (log.Ended tid)

module _ {R : Type 0} (rules : Meaning) (world : World R) (P : ℕ → Record → Type 0) (each : EachRecord rules world P) where
  abbrev Of : Option Writing → Type 0
  Of found = (it : Writing) → found ≡ Some it → P it.system it.next

  none : Of None
  none it found = cc

  asked : (of_kind : Bool) (system : ℕ) (next : Record)
      → (is_up world system ≡ true → of_kind ≡ true → may_follow rules system (log_of world system) next ≡ true → P system next)
      → Of (record_asked rules world of_kind system next)
  asked of_kind system next holds =
      let up = is_up world system in
      let may = may_follow rules system (log_of world system) next in
      record_if-each (λ it. P it.system it.next) (up && of_kind && may) system next
      (λ pass. let a = and_parts (up && of_kind) may pass in let b = and_parts up of_kind a.0 in holds b.0 b.1 a.1)

  of_unit : (tid : TidOf) (of_it : AleUnit → Option Writing) (found : Option AleUnit) → committed_unit rules world tid ≡ found
      → ((unit : AleUnit) → committed_unit rules world tid ≡ Some unit → Of (of_it unit)) → Of (option_and_then of_it found)
  of_unit tid of_it None named holds = none
  of_unit tid of_it (Some unit) named holds = holds unit named

  of_claim : (of_kind : Held → HeldKind → Option Writing) (number : ℕ) (found : Option Held) → claim_of number world.claims ≡ found
      → ((held : Held) (kind : HeldKind) → Contains world.claims held → held.kind ≡ kind → Of (of_kind held kind))
      → Of (option_and_then (λ held. of_kind held held.kind) found)
  of_claim of_kind number None found holds = none
  of_claim of_kind number (Some held) found holds = holds held held.kind (claim_of-Some number world.claims held found).0 refl

  arrival : (tid : TidOf) (unit : AleUnit) → committed_unit rules world tid ≡ Some unit → Of (record_of_arrival rules world unit)
  arrival tid unit named = at (may_arrive rules world unit) refl (answer_to rules world unit) refl
    where
      at : (may : Bool) → may_arrive rules world unit ≡ may → (given : Answer) → answer_to rules world unit ≡ given
          → Of (cond may (record_of_answer unit given) None)
      at false may given is = none
      at true may answer.New is = record_if-each (λ it. P it.system it.next) true unit.receiver (log.Accept unit) (λ _. each.accept tid unit named may is)
      at true may answer.Down is = none
      at true may answer.Known is = none
      at true may answer.Busy is = none
      at true may answer.SysFail is = none
      at true may answer.Run is = none

  work : (held : Held) (kind : HeldKind) → Contains world.claims held → held.kind ≡ kind → Of (record_of_work rules world held kind)
  work held In has is =
      record_if-each (λ it. P it.system it.next) (offers_received_now rules world held.system held.tid) held.system (log.Execute held.tid)
      (each.execute held has is)
  work held Direct has is =
      of_unit held.tid (record_of_run rules world held) (committed_unit rules world held.tid) refl (λ unit named.
      record_if-each (λ it. P it.system it.next) (offers_now rules world held.system unit.function) held.system (log.Direct unit)
      (each.direct held has is unit named))
  work held Out has is = none

  failure : (held : Held) (kind : HeldKind) → Contains world.claims held → held.kind ≡ kind → Of (record_of_failure rules world held kind)
  failure held In has is =
      record_if-each (λ it. P it.system it.next) (not (offers_received_now rules world held.system held.tid)) held.system (log.Fail held.tid)
      (λ not_offered. each.fail held has is (not-true (offers_received_now rules world held.system held.tid) not_offered))
  failure held Direct has is = none
  failure held Out has is = none

  answered : (held : Held) (given : CoreAnswer) (unit : AleUnit) → Contains world.claims held → held.kind ≡ Out →
      committed_unit rules world held.tid ≡ Some unit
      → Of (record_of_answered rules world held given unit)
  answered held reply.Busy unit has is named = none
  answered held reply.Done unit has is named =
      record_if-each (λ it. P it.system it.next) (is_among unit.tid (received (log_of world unit.receiver))) held.system (log.Done held.tid)
      (each.done held unit has is named)
  answered held reply.SysFail unit has is named =
      record_if-each (λ it. P it.system it.next) (is_empty unit.inq && not (offers_now rules world unit.receiver unit.function)) held.system
      (log.Mark held.tid Sysfail) (each.refused held unit has is named)

  replied : (given : CoreAnswer) (held : Held) (kind : HeldKind) → Contains world.claims held → held.kind ≡ kind →
      Of (record_of_reply rules world given held kind)
  replied reply.Busy held kind has is = none
  replied reply.Done held Out has is =
      of_unit held.tid (record_of_answered rules world held reply.Done) (committed_unit rules world held.tid) refl
      (λ unit. answered held reply.Done unit has is)
  replied reply.Done held In has is = none
  replied reply.Done held Direct has is = none
  replied reply.SysFail held Out has is =
      of_unit held.tid (record_of_answered rules world held reply.SysFail) (committed_unit rules world held.tid) refl
      (λ unit. answered held reply.SysFail unit has is)
  replied reply.SysFail held In has is = none
  replied reply.SysFail held Direct has is = none

  loss : (held : Held) (kind : HeldKind) → Contains world.claims held → held.kind ≡ kind → Of (record_of_loss held kind)
  loss held Out has is = record_if-each (λ it. P it.system it.next) true held.system (log.Mark held.tid Cpicerr) (λ _. each.lost held has is)
  loss held In has is = none
  loss held Direct has is = none

  confirmation : (tid : TidOf) (unit : AleUnit) → committed_unit rules world tid ≡ Some unit → Of (record_of_confirmation world unit)
  confirmation tid unit named =
      let done = is_listed unit.tid (done_in (log_of world unit.tid.system)) in
      let up = is_up world unit.receiver in
      let gone = is_listed unit.tid (forgotten_in (log_of world unit.receiver)) in
      record_if-each (λ it. P it.system it.next) (done && up && not gone) unit.receiver (log.Forget unit.tid)
      (λ pass.
      let a = and_parts (done && up) (not gone) pass in
      let b = and_parts done up a.0 in
      each.forget tid unit named b.0 b.1 (not-true gone a.1))

  ending : (tid : TidOf) (unit : AleUnit) → committed_unit rules world tid ≡ Some unit → Of (record_of_ending world tid unit)
  ending tid unit named =
      let up = is_up world tid.system in
      let done = is_listed tid (done_in (log_of world tid.system)) in
      let over = is_listed tid (ended_in (log_of world tid.system)) in
      let gone = is_listed tid (forgotten_in (log_of world unit.receiver)) in
      record_if-each (λ it. P it.system it.next) (up && done && not over && gone) tid.system (log.Ended tid)
      (λ pass.
      let a = and_parts (up && done && not over) gone pass in
      let b = and_parts (up && done) (not over) a.0 in
      let c = and_parts up done b.0 in
      each.ended tid unit named c.0 c.1 (not-true over b.1) a.1)

  -- it holds of the record of every event
  pub each-record : (e : Event) → Of (record_of rules world e)
  each-record (event.Commit system what) = asked (is_commit what) system what (each.commit system what)
  each-record (event.Claim tid) = none
  each-record (event.Arrive tid) = of_unit tid (record_of_arrival rules world) (committed_unit rules world tid) refl (arrival tid)
  each-record (event.Run tid) = none
  each-record (event.Finish number) = of_claim (record_of_work rules world) number (claim_of number world.claims) refl work
  each-record (event.Fail number) = of_claim (record_of_failure rules world) number (claim_of number world.claims) refl failure
  each-record (event.Reply (Claim number given)) = of_claim (record_of_reply rules world given) number (claim_of number world.claims) refl (replied given)
  each-record (event.Reply (Forgotten tid)) = of_unit tid (record_of_ending world tid) (committed_unit rules world tid) refl (ending tid)
  each-record (event.LoseRequest number) = of_claim record_of_loss number (claim_of number world.claims) refl loss
  each-record (event.LoseReply number) = of_claim record_of_loss number (claim_of number world.claims) refl loss
  each-record (event.Confirm tid) = of_unit tid (record_of_confirmation world) (committed_unit rules world tid) refl (confirmation tid)
  each-record (event.LoseConfirm tid) = none
  each-record (event.Operator (Append system next)) = asked (may_operate world next) system next (each.operator system next)
  each-record (event.Operator Revoke) = none
  each-record (event.Fall system kept) = none
  each-record (event.Open system) = none

module _ {R : Type 0} (rules : Meaning) (lawful : IsLawful rules) (world : World R) (safe : Safe rules world) where
  -- a record that takes, executes, finishes, forgets and ends nothing
  writes-plain : (system : ℕ) (next : Record) → is_up world system ≡ true → IsPlain next → may_follow rules system (log_of world system) next ≡ true
      → MayWrite rules world system next
  writes-plain system next up plain may = record {
    up = up;
    may = may;
    join = MayJoin-plain _ _ system next plain.takes plain.executes plain.finishes plain.forgets plain.ends;
  }

  pub writes-commit : (system : ℕ) (next : Record) → is_up world system ≡ true → is_commit next ≡ true
      → may_follow rules system (log_of world system) next ≡ true → MayWrite rules world system next
  writes-commit system next up is may = writes-plain system next up (IsPlain-commit next is) may

  pub writes-operator : (system : ℕ) (next : Record) → is_up world system ≡ true → may_operate world next ≡ true
      → may_follow rules system (log_of world system) next ≡ true → MayWrite rules world system next
  writes-operator system next up is may =
      writes-plain system next up (IsPlain-operators next (and_parts (is_operators next) _ is).0) may

  -- a system may write each record that an event appends
  pub MayWrite-record : (e : Event) (it : Writing) → record_of rules world e ≡ Some it → MayWrite rules world it.system it.next
  MayWrite-record = each-record rules world (MayWrite rules world) (record {
    commit = writes-commit;
    operator = writes-operator;
    accept = writes-accept rules lawful world safe;
    execute = writes-execute rules lawful world safe;
    fail = writes-fail rules lawful world safe;
    direct = writes-direct rules lawful world safe;
    done = writes-done rules lawful world safe;
    refused = λ held unit has is named pass. writes-mark rules lawful world safe held Sysfail has is;
    lost = λ held has is. writes-mark rules lawful world safe held Cpicerr has is;
    forget = writes-forget rules lawful world safe;
    ended = writes-ended rules lawful world safe;
  })
