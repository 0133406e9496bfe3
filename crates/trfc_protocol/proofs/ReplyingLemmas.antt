-- A safe world stays safe where a reply arrives, and where a request or a reply is lost.
use Rattle.std.specs.Prelude.{Contains}
use Rattle.std.specs.Option.{option_and_then}
use Rattle.std.proofs.Common.{◌≡◌, ◌==◌, true, false, not, ◌&&◌, Option, Some, None, refl, sym, subst, ◌∙◌}
use Rattle.std.proofs.lemmas.Bool.{cond_both, and_parts, both_ways, eqb-true}
use Rattle.std.proofs.lemmas.Option.{same_Some, none-some}
use Rattle.ale_base.specs.Tid.{TidOf}
use Rattle.ale_base.specs.declared.mark.Mark.{Mark as Cause}
use Rattle.ale_base.specs.declared.mark.Mark.TheVariants.{Cpicerr, Sysfail}
use Rattle.ale_base.specs.declared.way.Way.TheVariants.{Outgoing}
use Rattle.unit_core.specs.declared.ale_unit.AleUnit.{AleUnit}
use Rattle.unit_core.specs.declared.records.Record.TheVariants as log
use Rattle.unit_core.specs.Filters.{received}
use Rattle.unit_core.specs.Queues.{is_among}
use Rattle.unit_core.proofs.TidLemmas.{Contains-is_among}
use Rattle.trfc_protocol.specs.declared.world.World.{World}
use Rattle.trfc_protocol.specs.declared.held.Held.{Held}
use Rattle.trfc_protocol.specs.declared.held.HeldKind.{HeldKind}
use Rattle.trfc_protocol.specs.declared.held.HeldKind.TheVariants.{Out, In, Direct}
use Rattle.trfc_protocol.specs.declared.event.CoreAnswer.{CoreAnswer}
use Rattle.trfc_protocol.specs.declared.event.CoreAnswer.TheVariants as reply
use Rattle.trfc_protocol.specs.Meaning.{Meaning}
use Rattle.trfc_protocol.specs.Legal.{is_empty, is_free_outbound, IsLawful}
use Rattle.trfc_protocol.specs.Worlds.{log_of, committed_by, committed_unit, offers_now, with_record, without_claim, claim_of}
use Rattle.trfc_protocol.specs.RecordOf.{record_of_answered, record_of_reply, record_of_loss}
use Rattle.trfc_protocol.specs.Happens.{after_busy, ends_with}
use Rattle.trfc_protocol.specs.Safe.{is_due, Safe}
use Rattle.trfc_protocol.proofs.LegalLemmas.{MayJoin-plain, MayJoin-done}
use Rattle.trfc_protocol.proofs.SafeLemmas.{MayWrite, IsRun-due, hold, committed_unit-is, received-is, may_follow-up}
use Rattle.trfc_protocol.proofs.NextLemmas.{IsNext, Next-without_claim, Next-closed, not_marked, other_than, others_hold, spares_all, stays}

module _ {R : Type 0} (rules : Meaning) (lawful : IsLawful rules) (world : World R) (safe : Safe rules world) where
  abbrev Next : World R → Type 0
  Next after = IsNext rules world after

  -- what the claim of a shipment says
  pub out_parts : (held : Held) → Contains world.claims held → held.kind ≡ Out → (held.system ≡ held.tid.system)
      × (is_free_outbound (rules.committed held.system (log_of world held.system)) (log_of world held.system) held.tid ≡ true)
  out_parts held has kind =
      let due : is_due rules world held Out ≡ true = subst (λ k. is_due rules world held k ≡ true) kind (hold rules lawful world safe held has).due in
      let parts = and_parts (held.system == held.tid.system)
      (is_free_outbound (committed_by rules world held.system) (log_of world held.system) held.tid) due in
      (eqb-true held.system held.tid.system parts.0, parts.1)

  -- a unit that was shipped is marked
  pub writes-mark : (held : Held) (cause : Cause) → Contains world.claims held → held.kind ≡ Out → MayWrite rules world held.system (log.Mark held.tid cause)
  writes-mark held cause has kind =
      let up = (hold rules lawful world safe held has).up in
      record {
        up = up;
        may = may_follow-up rules lawful world safe held.system (log.Mark held.tid cause) up (out_parts held has kind).1;
        join = MayJoin-plain (committed_by rules world) (log_of world) held.system (log.Mark held.tid cause) refl refl refl refl refl;
      }

  Next-marks : (held : Held) (cause : Cause) → Contains world.claims held → claim_of held.number world.claims ≡ Some held → held.kind ≡ Out
      → Next (with_record (without_claim world held.number) held.system (log.Mark held.tid cause))
  Next-marks held cause has found kind =
      Next-closed rules lawful world safe held held.system (log.Mark held.tid cause) (writes-mark held cause has kind)
      (λ other there. spares_all held.system (log.Mark held.tid cause) other refl refl refl refl
      (λ k. (not_marked Outgoing other.tid held.tid cause (other_than rules lawful world safe held other found there (k ∙ sym kind))).0) (λ _. refl))

  -- a unit of an id that was received by the receiver of the committed one is that one
  received_unit : (tid : TidOf) (unit : AleUnit) → committed_unit rules world tid ≡ Some unit → is_among unit.tid (received (log_of world unit.receiver)) ≡ true
      → Contains (received (log_of world unit.receiver)) unit
  received_unit tid unit named among =
      let its : unit.tid ≡ tid = (committed_unit-is rules lawful world safe tid unit named).1 in
      let found = Contains-is_among unit.tid (received (log_of world unit.receiver)) among in
      let is = received-is rules lawful world safe unit.receiver found.0 found.1 in
      let equal : found.0 ≡ unit = same_Some found.0 unit (sym (subst (λ t. committed_unit rules world t ≡ Some found.0) (found.2 ∙ its) is.1) ∙ named) in
      subst (Contains (received (log_of world unit.receiver))) equal found.1

  -- a unit that was shipped is done
  pub writes-done : (held : Held) (unit : AleUnit) → Contains world.claims held → held.kind ≡ Out → committed_unit rules world held.tid ≡ Some unit
      → is_among unit.tid (received (log_of world unit.receiver)) ≡ true → MayWrite rules world held.system (log.Done held.tid)
  writes-done held unit has kind named among =
      let parts = out_parts held has kind in
      let is = committed_unit-is rules lawful world safe held.tid unit named in
      let up = (hold rules lawful world safe held has).up in
      record {
        up = up;
        may = may_follow-up rules lawful world safe held.system (log.Done held.tid) up parts.1;
        join = MayJoin-done (committed_by rules world) (log_of world) held.system held.tid
            (unit, is.1, subst (λ s. Contains (committed_by rules world s) unit) (sym parts.0) is.0, received_unit held.tid unit named among);
      }

  Next-done : (held : Held) (unit : AleUnit) → Contains world.claims held → claim_of held.number world.claims ≡ Some held → held.kind ≡ Out
      → committed_unit rules world held.tid ≡ Some unit → is_among unit.tid (received (log_of world unit.receiver)) ≡ true
      → Next (with_record (without_claim world held.number) held.system (log.Done held.tid))
  Next-done held unit has found kind named among =
      Next-closed rules lawful world safe held held.system (log.Done held.tid) (writes-done held unit has kind named among)
      (λ other there. record {
        out = λ k here. (λ t same its. other_than rules lawful world safe held other found there (k ∙ sym kind) (same_Some held.tid t same ∙ its), refl);
        in_ = λ k here. (λ t same. absurd (none-some t same), refl);
        direct = λ k. (
          λ t same its.
              let run = IsRun-due rules world other.system other.tid
              (subst (λ kd. is_due rules world other kd ≡ true) k (others_hold rules lawful world safe held.number other there).due) in
              let equal : run.unit ≡ unit = same_Some run.unit unit
              (sym run.named ∙ subst (λ t'. committed_unit rules world t' ≡ Some unit) (same_Some held.tid t same ∙ its) named) in
              let new : is_among unit.tid (received (log_of world unit.receiver)) ≡ false =
              subst (λ (u : AleUnit). is_among u.tid (received (log_of world u.receiver)) ≡ false) equal
              (subst (λ s. is_among run.unit.tid (received (log_of world s)) ≡ false) (sym run.receiver) run.new) in
              both_ways (is_among unit.tid (received (log_of world unit.receiver))) new among,
          λ u same here. absurd (none-some u same),
          λ here. refl,
        );
      })

  -- the same by what is replied
  Next-answered : (held : Held) (given : CoreAnswer) (found : Option AleUnit) → Contains world.claims held → claim_of held.number world.claims ≡ Some held
      → held.kind ≡ Out → committed_unit rules world held.tid ≡ found
      → Next (ends_with world held (option_and_then (record_of_answered rules world held given) found))
  Next-answered held given None has is kind named = stays rules lawful world safe
  Next-answered held reply.Busy (Some unit) has is kind named = stays rules lawful world safe
  Next-answered held reply.Done (Some unit) has is kind named =
      cond_both (is_among unit.tid (received (log_of world unit.receiver))) (Some (record { system = held.system; next = log.Done held.tid })) None
      (λ it. Next (ends_with world held it))
      (λ among. Next-done held unit has is kind named among) (λ _. stays rules lawful world safe)
  Next-answered held reply.SysFail (Some unit) has is kind named =
      cond_both (is_empty unit.inq && not (offers_now rules world unit.receiver unit.function))
      (Some (record { system = held.system; next = log.Mark held.tid Sysfail })) None (λ it. Next (ends_with world held it))
      (λ _. Next-marks held Sysfail has is kind) (λ _. stays rules lawful world safe)

  -- the reply to a shipment arrives
  pub Next-replies : (given : CoreAnswer) (held : Held) (kind : HeldKind) → Contains world.claims held → claim_of held.number world.claims ≡ Some held
      → held.kind ≡ kind → Next (ends_with world held (record_of_reply rules world given held kind))
  Next-replies reply.Busy held kind has found is = stays rules lawful world safe
  Next-replies reply.Done held Out has found is = Next-answered held reply.Done (committed_unit rules world held.tid) has found is refl
  Next-replies reply.Done held In has found is = stays rules lawful world safe
  Next-replies reply.Done held Direct has found is = stays rules lawful world safe
  Next-replies reply.SysFail held Out has found is = Next-answered held reply.SysFail (committed_unit rules world held.tid) has found is refl
  Next-replies reply.SysFail held In has found is = stays rules lawful world safe
  Next-replies reply.SysFail held Direct has found is = stays rules lawful world safe

  -- a sender learns that its receiver is busy
  pub Next-busy : (held : Held) (kind : HeldKind) → Next (after_busy world held kind)
  Next-busy held Out = Next-without_claim rules lawful world safe held.number
  Next-busy held In = stays rules lawful world safe
  Next-busy held Direct = stays rules lawful world safe

  -- a request or a reply is lost
  pub Next-loses : (held : Held) (kind : HeldKind) → Contains world.claims held → claim_of held.number world.claims ≡ Some held → held.kind ≡ kind
      → Next (ends_with world held (record_of_loss held kind))
  Next-loses held Out has found is = Next-marks held Cpicerr has found is
  Next-loses held In has found is = stays rules lawful world safe
  Next-loses held Direct has found is = stays rules lawful world safe
