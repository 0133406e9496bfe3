-- The claim that goes with the record of an event is one on the record's unit.
use Rattle.std.specs.Option.{option_and_then}
use Rattle.std.proofs.Common.{◌≡◌, ℕ, Bool, true, false, not, cond, ◌&&◌, Option, Some, None, List, refl, sym, subst}
use Rattle.std.proofs.lemmas.Bool.{and_parts}
use Rattle.std.proofs.lemmas.Option.{same_Some}
use Rattle.ale_base.specs.Tid.{TidOf}
use Rattle.ale_base.specs.declared.mark.Mark.TheVariants.{Cpicerr, Sysfail}
use Rattle.unit_core.specs.declared.ale_unit.AleUnit.{AleUnit}
use Rattle.unit_core.specs.declared.records.Record.{Record}
use Rattle.unit_core.specs.declared.records.Record.TheVariants as log
use Rattle.unit_core.specs.Filters.{received, done_in, ended_in, forgotten_in}
use Rattle.unit_core.specs.Queues.{is_listed, is_among}
use Rattle.trfc_protocol.specs.declared.world.World.{World}
use Rattle.trfc_protocol.specs.declared.held.Held.{Held}
use Rattle.trfc_protocol.specs.declared.held.HeldKind.{HeldKind}
use Rattle.trfc_protocol.specs.declared.held.HeldKind.TheVariants.{Out, In, Direct}
use Rattle.trfc_protocol.specs.declared.answer.Answer.{Answer}
use Rattle.trfc_protocol.specs.declared.answer.Answer.TheVariants as answer
use Rattle.trfc_protocol.specs.declared.event.Event.{Event}
use Rattle.trfc_protocol.specs.declared.event.Event.TheVariants as event
use Rattle.trfc_protocol.specs.declared.event.ReplyTo.TheVariants.{Claim, Forgotten}
use Rattle.trfc_protocol.specs.declared.event.CoreAnswer.{CoreAnswer}
use Rattle.trfc_protocol.specs.declared.event.CoreAnswer.TheVariants as reply
use Rattle.trfc_protocol.specs.declared.event.Action.TheVariants.{Append, Revoke}
use Rattle.trfc_protocol.specs.Meaning.{Meaning}
use Rattle.trfc_protocol.specs.Legal.{is_commit, is_operators, is_empty, may_follow, IsLawful}
use Rattle.trfc_protocol.specs.Worlds.{log_of, is_up, offers_now, committed_unit, claim_of}
use Rattle.trfc_protocol.specs.Offered.{may_arrive, answer_to, offers_received_now}
use Rattle.trfc_protocol.specs.RecordOf.{Writing, record_asked, record_of_answer, record_of_arrival, record_of_run, record_of_work, record_of_failure}
use Rattle.trfc_protocol.specs.RecordOf.{record_of_answered, record_of_reply, record_of_loss, record_of_confirmation, record_of_ending, record_of, may_operate}
use Rattle.trfc_protocol.specs.Safe.{Safe}
use Rattle.trfc_protocol.proofs.SafeLemmas.{committed_unit-is}
use Rattle.trfc_protocol.proofs.NextLemmas.{record_if-each}
use Rattle.unit_landscape.specs.Joining.{Ends, EndsClaim}
use Rattle.unit_landscape.specs.Writes.{claim_in}

-- the records that end the claim of their unit
abbrev pub ends_claim : Record → Bool
ends_claim (log.Mark tid cause) = true
ends_claim (log.Done tid) = true
ends_claim (log.Execute tid) = true
ends_claim (log.Direct unit) = true
ends_claim (log.Fail tid) = true
ends_claim _ = false

-- the claim that is named is one on the record's unit; where none is, the record ends no claim
abbrev pub IsNamed : List Held → ℕ → Record → Option ℕ → Type 0
IsNamed claims system next None = ends_claim next ≡ false
IsNamed claims system next (Some number) = EndsClaim claims system next number

plain-commit : (next : Record) → is_commit next ≡ true → ends_claim next ≡ false
plain-commit (log.Commit origin docs) is = refl
plain-commit log.Dispatch is = refl
plain-commit _ is = cc

plain-operators : (next : Record) → is_operators next ≡ true → ends_claim next ≡ false
plain-operators (log.Mark tid cause) is = cc
plain-operators (log.Done tid) is = cc
plain-operators (log.Execute tid) is = cc
plain-operators (log.Direct unit) is = cc
plain-operators (log.Fail tid) is = cc
plain-operators _ is = refl

-- a record that is found under a condition ends no claim
abbrev IsPlain : Writing → Type 0
IsPlain it = ends_claim it.next ≡ false

-- a record ends this claim
abbrev Closes : Held → Writing → Type 0
Closes held it = (held.system ≡ it.system) × Ends it.next held

module _ {R : Type 0} (rules : Meaning) (lawful : IsLawful rules) (world : World R) (safe : Safe rules world) where
  of_unit : (P : Writing → Type 0) (tid : TidOf) (of_it : AleUnit → Option Writing) (found : Option AleUnit) → committed_unit rules world tid ≡ found
      → ((unit : AleUnit) → committed_unit rules world tid ≡ Some unit → (it : Writing) → of_it unit ≡ Some it → P it)
      → (it : Writing) → option_and_then of_it found ≡ Some it → P it
  of_unit P tid of_it None named each it writes = cc
  of_unit P tid of_it (Some unit) named each it writes = each unit named it writes

  of_claim : (number : ℕ) (of_kind : Held → HeldKind → Option Writing) (found : Option Held) → claim_of number world.claims ≡ found
      → ((held : Held) (kind : HeldKind) → held.kind ≡ kind → (it : Writing) → of_kind held kind ≡ Some it → Closes held it)
      → (it : Writing) → option_and_then (λ held. of_kind held held.kind) found ≡ Some it → EndsClaim world.claims it.system it.next number
  of_claim number of_kind None known each it writes = cc
  of_claim number of_kind (Some held) known each it writes =
      let closes = each held held.kind refl it writes in
      record { held = held; found = known; at = closes.0; ends = closes.1 }

  -- ---- records that end no claim

  plain-arrival : (unit : AleUnit) (may : Bool) (given : Answer) (it : Writing) → cond may (record_of_answer unit given) None ≡ Some it → IsPlain it
  plain-arrival unit true answer.New it writes =
      subst IsPlain (same_Some (record { system = unit.receiver; next = log.Accept unit }) it writes) refl
  plain-arrival unit true answer.Run it writes = cc
  plain-arrival unit true answer.Down it writes = cc
  plain-arrival unit true answer.Known it writes = cc
  plain-arrival unit true answer.Busy it writes = cc
  plain-arrival unit true answer.SysFail it writes = cc
  plain-arrival unit false given it writes = cc

  plain-confirmation : (unit : AleUnit) (it : Writing) → record_of_confirmation world unit ≡ Some it → IsPlain it
  plain-confirmation unit it writes =
      record_if-each IsPlain
      (is_listed unit.tid (done_in (log_of world unit.tid.system)) && is_up world unit.receiver
      && not (is_listed unit.tid (forgotten_in (log_of world unit.receiver))))
      unit.receiver (log.Forget unit.tid) (λ pass. refl) it writes

  plain-ending : (tid : TidOf) (unit : AleUnit) (it : Writing) → record_of_ending world tid unit ≡ Some it → IsPlain it
  plain-ending tid unit it writes =
      record_if-each IsPlain
      (is_up world tid.system && is_listed tid (done_in (log_of world tid.system))
      && not (is_listed tid (ended_in (log_of world tid.system)))
      && is_listed tid (forgotten_in (log_of world unit.receiver)))
      tid.system (log.Ended tid) (λ pass. refl) it writes

  plain-asked : (of_kind : Bool) (system : ℕ) (next : Record) → (of_kind ≡ true → ends_claim next ≡ false) → (it : Writing)
      → record_asked rules world of_kind system next ≡ Some it → IsPlain it
  plain-asked of_kind system next plain it writes =
      record_if-each IsPlain (is_up world system && of_kind && may_follow rules system (log_of world system) next) system next
      (λ pass. plain (and_parts (is_up world system) of_kind (and_parts (is_up world system && of_kind) _ pass).0).1) it writes

  -- ---- records that end one

  closes-work : (held : Held) (kind : HeldKind) → held.kind ≡ kind → (it : Writing) → record_of_work rules world held kind ≡ Some it → Closes held it
  closes-work held In is it writes =
      record_if-each (Closes held) (offers_received_now rules world held.system held.tid) held.system (log.Execute held.tid) (λ _. (refl, (is, refl))) it writes
  closes-work held Direct is it writes =
      of_unit (Closes held) held.tid (record_of_run rules world held) (committed_unit rules world held.tid) refl
      (λ unit named. record_if-each (Closes held) (offers_now rules world held.system unit.function) held.system (log.Direct unit)
      (λ _. (refl, (is, sym (committed_unit-is rules lawful world safe held.tid unit named).1))))
      it writes
  closes-work held Out is it writes = cc

  closes-failure : (held : Held) (kind : HeldKind) → held.kind ≡ kind → (it : Writing) → record_of_failure rules world held kind ≡ Some it → Closes held it
  closes-failure held In is it writes =
      record_if-each (Closes held) (not (offers_received_now rules world held.system held.tid)) held.system (log.Fail held.tid)
      (λ _. (refl, (is, refl))) it writes
  closes-failure held Direct is it writes = cc
  closes-failure held Out is it writes = cc

  closes-answered : (held : Held) → held.kind ≡ Out → (given : CoreAnswer) (unit : AleUnit) (it : Writing)
      → record_of_answered rules world held given unit ≡ Some it → Closes held it
  closes-answered held is reply.Busy unit it writes = cc
  closes-answered held is reply.Done unit it writes =
      record_if-each (Closes held) (is_among unit.tid (received (log_of world unit.receiver))) held.system (log.Done held.tid)
      (λ _. (refl, (is, refl))) it writes
  closes-answered held is reply.SysFail unit it writes =
      record_if-each (Closes held) (is_empty unit.inq && not (offers_now rules world unit.receiver unit.function)) held.system
      (log.Mark held.tid Sysfail) (λ _. (refl, (is, refl))) it writes

  closes-reply : (given : CoreAnswer) (held : Held) (kind : HeldKind) → held.kind ≡ kind → (it : Writing)
      → record_of_reply rules world given held kind ≡ Some it → Closes held it
  closes-reply reply.Busy held kind is it writes = cc
  closes-reply reply.Done held Out is it writes =
      of_unit (Closes held) held.tid (record_of_answered rules world held reply.Done) (committed_unit rules world held.tid) refl
      (λ unit named. closes-answered held is reply.Done unit) it writes
  closes-reply reply.Done held In is it writes = cc
  closes-reply reply.Done held Direct is it writes = cc
  closes-reply reply.SysFail held Out is it writes =
      of_unit (Closes held) held.tid (record_of_answered rules world held reply.SysFail) (committed_unit rules world held.tid) refl
      (λ unit named. closes-answered held is reply.SysFail unit) it writes
  closes-reply reply.SysFail held In is it writes = cc
  closes-reply reply.SysFail held Direct is it writes = cc

  closes-loss : (held : Held) (kind : HeldKind) → held.kind ≡ kind → (it : Writing) → record_of_loss held kind ≡ Some it → Closes held it
  closes-loss held Out is it writes =
      record_if-each (Closes held) true held.system (log.Mark held.tid Cpicerr) (λ _. (refl, (is, refl))) it writes
  closes-loss held In is it writes = cc
  closes-loss held Direct is it writes = cc

  -- the claim that an event speaks of is one on its record's unit, and a record of any other event ends no claim
  pub named-event : (e : Event) (it : Writing) → record_of rules world e ≡ Some it → IsNamed world.claims it.system it.next (claim_in e)
  named-event (event.Commit system what) it writes = plain-asked (is_commit what) system what (plain-commit what) it writes
  named-event (event.Claim tid) it writes = cc
  named-event (event.Arrive tid) it writes =
      of_unit IsPlain tid (record_of_arrival rules world) (committed_unit rules world tid) refl
      (λ unit named. plain-arrival unit (may_arrive rules world unit) (answer_to rules world unit)) it writes
  named-event (event.Run tid) it writes = cc
  named-event (event.Finish number) it writes = of_claim number (record_of_work rules world) (claim_of number world.claims) refl closes-work it writes
  named-event (event.Fail number) it writes = of_claim number (record_of_failure rules world) (claim_of number world.claims) refl closes-failure it writes
  named-event (event.Reply (Claim number given)) it writes =
      of_claim number (record_of_reply rules world given) (claim_of number world.claims) refl (closes-reply given) it writes
  named-event (event.Reply (Forgotten tid)) it writes =
      of_unit IsPlain tid (record_of_ending world tid) (committed_unit rules world tid) refl (λ unit named. plain-ending tid unit) it writes
  named-event (event.LoseRequest number) it writes = of_claim number record_of_loss (claim_of number world.claims) refl closes-loss it writes
  named-event (event.LoseReply number) it writes = of_claim number record_of_loss (claim_of number world.claims) refl closes-loss it writes
  named-event (event.Confirm tid) it writes =
      of_unit IsPlain tid (record_of_confirmation world) (committed_unit rules world tid) refl (λ unit named. plain-confirmation unit) it writes
  named-event (event.LoseConfirm tid) it writes = cc
  named-event (event.Operator (Append system next)) it writes =
      plain-asked (may_operate world next) system next (λ may. plain-operators next (and_parts (is_operators next) _ may).0) it writes
  named-event (event.Operator Revoke) it writes = cc
  named-event (event.Fall system kept) it writes = cc
  named-event (event.Open system) it writes = cc
