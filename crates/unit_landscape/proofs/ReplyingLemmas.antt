-- The reply to a shipment is its event.
use Rattle.std.specs.Prelude.{IfSome}
use Rattle.std.specs.Option.{option_and_then, option_map_or}
use Rattle.std.specs.List.{cons_option, filter_map, list_any}
use Rattle.std.proofs.Common.{◌≡◌, true, false, not, cond, ◌&&◌, ◌||◌, Bool, Option, Some, None, List, [], ◌∷◌, refl, sym, ap, subst, ◌∙◌}
use Rattle.std.proofs.lemmas.Bool.{and_parts, both_ways}
use Rattle.ale_base.specs.Tid.{TidOf, is_tid}
use Rattle.ale_base.specs.declared.mark.Mark.TheVariants.{Cpicerr, Sysfail}
use Rattle.unit_core.specs.declared.ale_unit.AleUnit.{AleUnit}
use Rattle.unit_core.specs.declared.records.Record.{Record}
use Rattle.unit_core.specs.declared.records.Record.TheVariants as log
use Rattle.unit_core.specs.Filters.{received, taken_by}
use Rattle.unit_core.specs.Queues.{is_among}
use Rattle.unit_core.proofs.TidLemmas.{is_tid-same}
use Rattle.trfc_protocol.specs.declared.world.World.{World}
use Rattle.trfc_protocol.specs.declared.held.Held.{Held}
use Rattle.trfc_protocol.specs.declared.held.HeldKind.{HeldKind}
use Rattle.trfc_protocol.specs.declared.held.HeldKind.TheVariants.{Out}
use Rattle.trfc_protocol.specs.declared.event.Event.{Event}
use Rattle.trfc_protocol.specs.declared.event.Event.TheVariants as event
use Rattle.trfc_protocol.specs.declared.event.ReplyTo.TheVariants.{Claim}
use Rattle.trfc_protocol.specs.declared.event.CoreAnswer.TheVariants as core
use Rattle.trfc_protocol.specs.Meaning.{Meaning}
use Rattle.trfc_protocol.specs.Legal.{IsLawful, is_empty}
use Rattle.trfc_protocol.specs.Worlds.{log_of, committed_unit, offers_now, is_kind, claim_of, without_claim}
use Rattle.trfc_protocol.specs.Offered.{may_arrive}
use Rattle.trfc_protocol.specs.RecordOf.{Writing, record_if, record_of_answered, record_of_reply, record_of_loss, record_of_claim, record_of}
use Rattle.trfc_protocol.specs.Happens.{written, after_busy, happens}
use Rattle.trfc_protocol.specs.Safe.{Safe}
use Rattle.trfc_protocol.proofs.ClaimLemmas.{claim_of-Some}
use Rattle.trfc_protocol.proofs.ForCallers.{shipped_unit, claimed_may_arrive}
use Rattle.unit_landscape.specs.declared.claims.OutClaim.{OutClaim}
use Rattle.unit_landscape.specs.declared.claims.Receipt.{Receipt}
use Rattle.unit_landscape.specs.declared.answers.Reply.TheVariants as reply
use Rattle.unit_landscape.specs.Writes.{Appends, claim_in, has_texts}
use Rattle.unit_landscape.specs.Calls.{is_on, is_out, stands_out, was_received, is_refused, reply_event}
use Rattle.unit_landscape.specs.Appending.{HoldsOut, at, record_of_receipt, record_of_refusal, takes}

-- a unit is among those that a log received where one of its records takes it in
pub among-takes : (tid : TidOf) (records : List Record) → list_any (takes tid) records ≡ is_among tid (received records)
among-takes tid [] = refl
among-takes tid (next ∷ records) = by_taken (among-takes tid records) (taken_by next) refl
  where
    by_taken : list_any (takes tid) records ≡ is_among tid (received records) → (found : Option AleUnit) → taken_by next ≡ found →
        (takes tid next || list_any (takes tid) records) ≡ is_among tid (received (next ∷ records))
    by_taken others None is =
        ap (λ f. option_map_or (λ (unit : AleUnit). is_tid unit.tid tid) f false || list_any (takes tid) records) is
        ∙ others
        ∙ sym (ap (λ f. is_among tid (cons_option f (filter_map taken_by records))) is)
    by_taken others (Some unit) is =
        ap (λ f. option_map_or (λ (u : AleUnit). is_tid u.tid tid) f false || list_any (takes tid) records) is
        ∙ ap (λ b. is_tid unit.tid tid || b) others
        ∙ sym (ap (λ f. is_among tid (cons_option f (filter_map taken_by records))) is)

module _ {R : Type 0} (world : World R) (claim : OutClaim) (held : Held) (holds : HoldsOut world claim held) where
  -- a claim that holds stands
  pub out-stands : stands_out world claim ≡ true
  out-stands =
      ap (λ found. is_on claim.tid found && is_out found) holds.found
      ∙ ap (λ t. is_tid t claim.tid && is_kind held.kind Out) holds.its
      ∙ ap (λ b. b && is_kind held.kind Out) (is_tid-same claim.tid)
      ∙ ap (λ k. is_kind k Out) holds.kind

  -- it has the number that it was given
  pub out-number : held.number ≡ claim.number
  out-number = (claim_of-Some claim.number world.claims held holds.found).1

  of_out : (pick : Held → HeldKind → Option Writing) → record_of_claim world pick claim.number ≡ pick held Out
  of_out pick = ap (option_and_then (λ (h : Held). pick h h.kind)) holds.found ∙ ap (pick held) holds.kind

  -- a busy receiver: the claim goes alone
  pub busy-none : (rules : Meaning) → record_of rules world (event.Reply (Claim claim.number core.Busy)) ≡ None
  busy-none rules = of_out (record_of_reply rules world core.Busy)

  pub busy-after : (rules : Meaning) → happens rules world (event.Reply (Claim claim.number core.Busy)) ≡ without_claim world held.number
  busy-after rules =
      ap (λ found. written found (option_map_or (λ (h : Held). after_busy world h h.kind) (claim_of claim.number world.claims) world)) (busy-none rules)
      ∙ ap (λ found. option_map_or (λ (h : Held). after_busy world h h.kind) found world) holds.found
      ∙ ap (after_busy world held) holds.kind

module _ {R : Type 0} (rules : Meaning) (lawful : IsLawful rules) (world : World R) (safe : Safe rules world) (claim : OutClaim) (held : Held)
    (holds : HoldsOut world claim held) where
  its_unit : (unit : AleUnit) × (committed_unit rules world held.tid ≡ Some unit)
  its_unit =
      let found = claim_of-Some claim.number world.claims held holds.found in
      let shipped = shipped_unit rules lawful world safe held found.0 holds.kind in
      (shipped.0, shipped.1)

  -- the unit may arrive
  pub may-arrive : IfSome (committed_unit rules world held.tid) (λ unit. may_arrive rules world unit ≡ true)
  may-arrive =
      let found = claim_of-Some claim.number world.claims held holds.found in
      subst (λ f. IfSome f (λ unit. may_arrive rules world unit ≡ true)) (sym its_unit.1)
      (claimed_may_arrive rules lawful world safe held found.0 holds.kind its_unit.0 its_unit.1)

  asked : (test : AleUnit → Bool) → option_map_or test (committed_unit rules world claim.tid) false ≡ test its_unit.0
  asked test =
      ap (λ t. option_map_or test (committed_unit rules world t) false) (sym holds.its)
      ∙ ap (λ f. option_map_or test f false) its_unit.1

  appends : (next : Record) (e : Event) → claim_in e ≡ Some claim.number → record_of rules world e ≡ Some (at held.system next) → has_texts next ≡ false
      → Appends rules world held.system next (Some held.number) e
  appends next e number writes plain = record {
    writes = writes;
    ends = ap Some (out-number world claim held holds) ∙ sym number;
    texts = λ texts. absurd (both_ways (has_texts next) plain texts);
  }

  lost : record_of rules world (event.LoseReply claim.number) ≡ Some (at held.system (log.Mark held.tid Cpicerr))
  lost = of_out world claim held holds record_of_loss

  -- the record of a receipt, by whether it counts
  pub receipt-appends : (receipt : Receipt) (is_done : Bool) → is_done ≡ (is_tid receipt.tid held.tid && was_received rules world held.tid)
      → Appends rules world held.system (record_of_receipt held.tid is_done) (Some held.number) (reply_event rules world claim (reply.Done receipt))
  receipt-appends receipt is_done is = by_done is_done (is ∙ ap (λ t. is_tid receipt.tid t && was_received rules world t) holds.its)
    where
      by_done : (b : Bool) → b ≡ (is_tid receipt.tid claim.tid && was_received rules world claim.tid)
          → Appends rules world held.system (record_of_receipt held.tid b) (Some held.number) (reply_event rules world claim (reply.Done receipt))
      by_done true is =
          let parts = and_parts (is_tid receipt.tid claim.tid) (was_received rules world claim.tid) (sym is) in
          let among = sym (asked (λ unit. is_among unit.tid (received (log_of world unit.receiver)))) ∙ parts.1 in
          subst (Appends rules world held.system (log.Done held.tid) (Some held.number))
          (ap (λ b. cond b (event.Reply (Claim claim.number core.Done)) (event.LoseReply claim.number)) is)
          (appends (log.Done held.tid) (event.Reply (Claim claim.number core.Done)) refl
          (of_out world claim held holds (record_of_reply rules world core.Done)
          ∙ ap (option_and_then (record_of_answered rules world held core.Done)) its_unit.1
          ∙ ap (λ b. record_if b held.system (log.Done held.tid)) among) refl)
      by_done false is =
          subst (Appends rules world held.system (log.Mark held.tid Cpicerr) (Some held.number))
          (ap (λ b. cond b (event.Reply (Claim claim.number core.Done)) (event.LoseReply claim.number)) is)
          (appends (log.Mark held.tid Cpicerr) (event.LoseReply claim.number) refl lost refl)

  -- the record of a refusal, by whether it counts
  pub refusal-appends : (refused : Bool) → refused ≡ is_refused rules world held.tid
      → Appends rules world held.system (record_of_refusal held.tid refused) (Some held.number) (reply_event rules world claim reply.SysFail)
  refusal-appends refused is = by_refused refused (is ∙ ap (is_refused rules world) holds.its)
    where
      by_refused : (b : Bool) → b ≡ is_refused rules world claim.tid
          → Appends rules world held.system (record_of_refusal held.tid b) (Some held.number) (reply_event rules world claim reply.SysFail)
      by_refused true is =
          let meets = sym (asked (λ unit. is_empty unit.inq && not (offers_now rules world unit.receiver unit.function))) ∙ sym is in
          subst (Appends rules world held.system (log.Mark held.tid Sysfail) (Some held.number))
          (ap (λ b. cond b (event.Reply (Claim claim.number core.SysFail)) (event.LoseReply claim.number)) is)
          (appends (log.Mark held.tid Sysfail) (event.Reply (Claim claim.number core.SysFail)) refl
          (of_out world claim held holds (record_of_reply rules world core.SysFail)
          ∙ ap (option_and_then (record_of_answered rules world held core.SysFail)) its_unit.1
          ∙ ap (λ b. record_if b held.system (log.Mark held.tid Sysfail)) meets) refl)
      by_refused false is =
          subst (Appends rules world held.system (log.Mark held.tid Cpicerr) (Some held.number))
          (ap (λ b. cond b (event.Reply (Claim claim.number core.SysFail)) (event.LoseReply claim.number)) is)
          (appends (log.Mark held.tid Cpicerr) (event.LoseReply claim.number) refl lost refl)

  -- nothing came back
  pub lost-appends : Appends rules world held.system (log.Mark held.tid Cpicerr) (Some held.number) (reply_event rules world claim reply.Lost)
  lost-appends = appends (log.Mark held.tid Cpicerr) (event.LoseReply claim.number) refl lost refl
