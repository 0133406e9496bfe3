-- A safe world stays safe at every event.
use Rattle.std.specs.Prelude.{Contains}
use Rattle.std.specs.Option.{option_and_then, option_map_or}
use Rattle.std.proofs.Common.{◌≡◌, ℕ, Bool, true, false, not, ◌&&◌, ◌||◌, Option, Some, None, List, [], ◌∷◌, refl, sym, ap, subst, ◌∙◌}
use Rattle.std.proofs.lemmas.Bool.{cond_both, and_parts}
use Rattle.ale_base.specs.declared.way.Way.TheVariants.{Outgoing, Incoming}
use Rattle.unit_core.specs.declared.records.Record.{Record}
use Rattle.unit_core.specs.declared.records.Record.TheVariants as log
use Rattle.ale_base.proofs.MemberLemmas.{Contains-nil}
use Rattle.trfc_protocol.specs.declared.world.World.{World}
use Rattle.trfc_protocol.specs.declared.held.Held.{Held}
use Rattle.trfc_protocol.specs.declared.held.HeldKind.{HeldKind}
use Rattle.trfc_protocol.specs.declared.event.Event.{Event}
use Rattle.trfc_protocol.specs.declared.event.Event.TheVariants as event
use Rattle.trfc_protocol.specs.declared.event.ReplyTo.TheVariants.{Claim, Forgotten}
use Rattle.trfc_protocol.specs.declared.event.CoreAnswer.{CoreAnswer}
use Rattle.trfc_protocol.specs.declared.event.CoreAnswer.TheVariants as reply
use Rattle.trfc_protocol.specs.declared.event.Action.TheVariants.{Append, Revoke}
use Rattle.trfc_protocol.specs.Meaning.{Meaning}
use Rattle.trfc_protocol.specs.Legal.{is_commit, is_operators, is_model, is_empty, may_follow, IsLawful}
use Rattle.trfc_protocol.specs.Worlds.{log_of, is_up, committed_unit, claim_of, state_down, with_fall, one_fall_more}
use Rattle.trfc_protocol.specs.RecordOf.{Writing, may_operate, record_asked, record_of_work, record_of_failure, record_of_reply, record_of_loss}
use Rattle.trfc_protocol.specs.Keeping.{may_keep}
use Rattle.trfc_protocol.specs.Happens.{written, after_work, ends_with, after_busy, falls_writing, happens}
use Rattle.trfc_protocol.specs.Safe.{Safe}
use Rattle.trfc_protocol.proofs.WorldLemmas.{is_up-known, kept-with_state}
use Rattle.trfc_protocol.proofs.LegalLemmas.{IsPlain, IsPlain-commit, IsPlain-operators}
use Rattle.trfc_protocol.proofs.ClaimLemmas.{claim_of-Some}
use Rattle.trfc_protocol.proofs.SafeLemmas.{MayWrite}
use Rattle.trfc_protocol.proofs.NextLemmas.{IsNext, Next-revoked, Next-written, spares_all, stays}
use Rattle.trfc_protocol.proofs.SendingLemmas.{Next-arrives, Next-claims_outbound}
use Rattle.trfc_protocol.proofs.ExecutingLemmas.{Next-claims_inbound, Next-fails_all, Next-finishes}
use Rattle.trfc_protocol.proofs.ReplyingLemmas.{Next-busy, Next-loses, Next-replies}
use Rattle.trfc_protocol.proofs.ConfirmingLemmas.{Next-confirms, Next-ends}
use Rattle.trfc_protocol.proofs.RecordLemmas.{writes-commit, writes-operator}
use Rattle.trfc_protocol.proofs.KeepingLemmas.{MayWrite-kept}
use Rattle.trfc_protocol.proofs.FallLemmas.{Safe-fallen, Next-falls_empty, Next-opens}

commit_no_model : (next : Record) → is_commit next ≡ true → is_model next ≡ false
commit_no_model (log.Model text) is = cc
commit_no_model _ is = refl

module _ {R : Type 0} (rules : Meaning) (lawful : IsLawful rules) (world : World R) (safe : Safe rules world) where
  abbrev Next : World R → Type 0
  Next after = IsNext rules world after

  -- a record that is asked for is written
  Next-asked : (of_kind : Bool) (system : ℕ) (next : Record)
      → (is_up world system ≡ true → of_kind ≡ true → may_follow rules system (log_of world system) next ≡ true → MayWrite rules world system next)
      → (of_kind ≡ true → IsPlain next) → (of_kind ≡ true → (held : Held) → Contains world.claims held → is_model next ≡ false)
      → Next (written (record_asked rules world of_kind system next) world)
  Next-asked of_kind system next write plain no_model =
      let up = is_up world system in
      let may = may_follow rules system (log_of world system) next in
      cond_both (up && of_kind && may) (Some (record { system = system; next = next })) None (λ it. Next (written it world))
      (λ pass.
      let a = and_parts (up && of_kind) may pass in
      let b = and_parts up of_kind a.0 in
      let is = plain b.1 in
      Next-written rules lawful world safe system next (write b.0 b.1 a.1)
      (λ held has. spares_all system next held is.takes is.executes is.finishes (no_model b.1 held has) (λ _. is.marks Outgoing held.tid)
      (λ _. is.marks Incoming held.tid)))
      (λ _. stays rules lawful world safe)

  -- where there is a claim the model is not replaced
  no_model : (next : Record) → may_operate world next ≡ true → (held : Held) → Contains world.claims held → is_model next ≡ false
  no_model next may held has = kept (is_model next) world.claims (and_parts (is_operators next) (not (is_model next) || is_empty world.claims) may).1 has
    where
      kept : (model : Bool) (claims : List Held) → (not model || is_empty claims) ≡ true → Contains claims held → model ≡ false
      kept false claims pass has = refl
      kept true [] pass has = absurd (Contains-nil held has)
      kept true (h ∷ hs) pass has = cc

  -- an event of a claim
  Next-of_claim : (of_kind : Held → HeldKind → Option Writing) (number : ℕ) (found : Option Held) → claim_of number world.claims ≡ found
      → ((held : Held) (kind : HeldKind) → Contains world.claims held → claim_of held.number world.claims ≡ Some held → held.kind ≡ kind
      → Next (ends_with world held (of_kind held kind)))
      → let record_found = option_and_then (λ held. of_kind held held.kind) found in Next (written record_found (after_work world found record_found))
  Next-of_claim of_kind number None found each = stays rules lawful world safe
  Next-of_claim of_kind number (Some held) found each =
      let is = claim_of-Some number world.claims held found in
      each held held.kind is.0 (subst (λ n. claim_of n world.claims ≡ Some held) (sym is.1) found) refl

  -- the reply that the receiver is busy
  Next-busy_of : (number : ℕ) (found : Option Held)
      → Next (written (option_and_then (λ held. record_of_reply rules world reply.Busy held held.kind) found)
      (option_map_or (λ held. after_busy world held held.kind) found world))
  Next-busy_of number None = stays rules lawful world safe
  Next-busy_of number (Some held) = Next-busy rules lawful world safe held held.kind

  Next-reply : (number : ℕ) (given : CoreAnswer) → Next (happens rules world (event.Reply (Claim number given)))
  Next-reply number reply.Busy = Next-busy_of number (claim_of number world.claims)
  Next-reply number reply.Done =
      Next-of_claim (record_of_reply rules world reply.Done) number (claim_of number world.claims) refl (Next-replies rules lawful world safe reply.Done)
  Next-reply number reply.SysFail =
      Next-of_claim (record_of_reply rules world reply.SysFail) number (claim_of number world.claims) refl (Next-replies rules lawful world safe reply.SysFail)

  -- a system falls as it writes a record
  Next-falls_writing : (system : ℕ) (next : Record) → Next (falls_writing rules world system next)
  Next-falls_writing system next =
      cond_both (may_keep rules world system next) (with_fall world system (Some next)) world Next
      (λ kept.
      let write = MayWrite-kept rules lawful world safe system next kept in
      let is = is_up-known world system write.up in (
        Safe-fallen rules lawful world safe system next write,
        (kept-with_state (record world { claims = []; falls = one_fall_more world.falls }) system (state_down (Some next)) is.0 is.1).2,
      ))
      (λ _. stays rules lawful world safe)

  Next-fall : (system : ℕ) (kept : Option Record) → Next (happens rules world (event.Fall system kept))
  Next-fall system None = Next-falls_empty rules lawful world safe system
  Next-fall system (Some next) = Next-falls_writing system next

  -- a safe world stays safe, whatever happens
  pub Next-happens : (next : Event) → IsNext rules world (happens rules world next)
  Next-happens (event.Commit system what) =
      Next-asked (is_commit what) system what (writes-commit rules lawful world safe system what) (IsPlain-commit what)
      (λ is held has. commit_no_model what is)
  Next-happens (event.Claim tid) = Next-claims_outbound rules lawful world safe tid
  Next-happens (event.Arrive tid) = Next-arrives rules lawful world safe tid (committed_unit rules world tid) refl
  Next-happens (event.Run tid) = Next-claims_inbound rules lawful world safe tid (committed_unit rules world tid)
  Next-happens (event.Finish number) =
      Next-of_claim (record_of_work rules world) number (claim_of number world.claims) refl (Next-finishes rules lawful world safe)
  Next-happens (event.Fail number) =
      Next-of_claim (record_of_failure rules world) number (claim_of number world.claims) refl (Next-fails_all rules lawful world safe)
  Next-happens (event.Reply (Claim number given)) = Next-reply number given
  Next-happens (event.Reply (Forgotten tid)) = Next-ends rules lawful world safe tid (committed_unit rules world tid) refl
  Next-happens (event.LoseRequest number) = Next-of_claim record_of_loss number (claim_of number world.claims) refl (Next-loses rules lawful world safe)
  Next-happens (event.LoseReply number) = Next-of_claim record_of_loss number (claim_of number world.claims) refl (Next-loses rules lawful world safe)
  Next-happens (event.Confirm tid) = Next-confirms rules lawful world safe tid (committed_unit rules world tid) refl
  Next-happens (event.LoseConfirm tid) = stays rules lawful world safe
  Next-happens (event.Operator (Append system next)) =
      Next-asked (may_operate world next) system next (writes-operator rules lawful world safe system next)
      (λ is. IsPlain-operators next (and_parts (is_operators next) (not (is_model next) || is_empty world.claims) is).0) (no_model next)
  Next-happens (event.Operator Revoke) = Next-revoked rules lawful world safe
  Next-happens (event.Fall system kept) = Next-fall system kept
  Next-happens (event.Open system) = Next-opens rules lawful world safe system

-- one step of a world that is safe by its own rules
pub Safe-step : {R : Type 0} (rules : R → Meaning) → ((r : R) → IsLawful (rules r)) → (world after : World R) (next : Event) → Safe (rules world.rules) world
    → after ≡ happens (rules world.rules) world next → (after.rules ≡ world.rules) × Safe (rules after.rules) after
Safe-step {R} rules lawful world after next safe same =
    let is = Next-happens (rules world.rules) (lawful world.rules) world safe next in
    let stay : after.rules ≡ world.rules = ap (λ (w : World R). w.rules) same ∙ is.1 in
    (stay, subst (λ r. Safe (rules r) after) (sym stay) (subst (Safe (rules world.rules)) (sym same) is.0))
