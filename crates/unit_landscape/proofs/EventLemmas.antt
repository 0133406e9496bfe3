-- The record of an event: what becomes of the world, that its system may append it, and that it can be written.
use Rattle.std.specs.Option.{option_and_then, option_map_or}
use Rattle.std.proofs.Common.{◌≡◌, ◌≢◌, ℕ, ◌-◌, Bool, true, false, cond, Option, Some, None, List, [], ◌∷◌, ◌++◌, refl, sym, ap, ◌∙◌}
use Rattle.std.proofs.lemmas.Bool.{and_parts, eqb-true}
use Rattle.std.proofs.lemmas.List.{append-nil}
use Rattle.ale_base.specs.Tid.{TidOf}
use Rattle.ale_base.specs.declared.way.Way.TheVariants.{Outgoing, Incoming}
use Rattle.unit_core.specs.declared.ale_unit.AleUnit.{AleUnit}
use Rattle.unit_core.specs.declared.records.Record.{Record}
use Rattle.unit_core.specs.declared.records.Record.TheVariants as log
use Rattle.unit_codec.specs.Condition.{IsUnit, IsWritable}
use Rattle.trfc_protocol.specs.declared.world.World.{World}
use Rattle.trfc_protocol.specs.declared.world.SystemState.{SystemState}
use Rattle.trfc_protocol.specs.declared.held.Held.{Held}
use Rattle.trfc_protocol.specs.declared.answer.Answer.{Answer}
use Rattle.trfc_protocol.specs.declared.answer.Answer.TheVariants as answer
use Rattle.trfc_protocol.specs.declared.event.Event.{Event}
use Rattle.trfc_protocol.specs.declared.event.Event.TheVariants as event
use Rattle.trfc_protocol.specs.declared.event.ReplyTo.TheVariants.{Claim, Forgotten}
use Rattle.trfc_protocol.specs.declared.event.CoreAnswer.{CoreAnswer}
use Rattle.trfc_protocol.specs.declared.event.CoreAnswer.TheVariants as reply
use Rattle.trfc_protocol.specs.declared.event.Action.TheVariants.{Append, Revoke}
use Rattle.trfc_protocol.specs.Meaning.{Meaning}
use Rattle.trfc_protocol.specs.Legal.{is_commit, is_operators, may_follow, may_follow_others, IsLawful}
use Rattle.trfc_protocol.specs.Worlds.{log_of, is_up, committed_unit, state_of, state_with, with_state_at, with_record, without_claim, claim_of}
use Rattle.trfc_protocol.specs.Offered.{may_arrive, answer_to}
use Rattle.trfc_protocol.specs.RecordOf.{Writing, record_of_answer, record_of_arrival, record_of_work, record_of_failure, record_of_reply, record_of_loss}
use Rattle.trfc_protocol.specs.RecordOf.{record_of}
use Rattle.trfc_protocol.specs.Happens.{written, with_run, after_arrival, after_work, after_busy, happens}
use Rattle.trfc_protocol.specs.Safe.{Safe}
use Rattle.trfc_protocol.proofs.WorldLemmas.{is_up-known}
use Rattle.trfc_protocol.proofs.ClaimLemmas.{claim_of-Some}
use Rattle.trfc_protocol.proofs.SafeLemmas.{MayWrite, sound_now, committed_unit-is, begun}
use Rattle.trfc_protocol.proofs.RecordLemmas.{each-record, MayWrite-record}
use Rattle.unit_landscape.specs.Joining.{after_record}
use Rattle.unit_landscape.specs.Kept.{CommitWritable}
use Rattle.unit_landscape.specs.Writes.{claim_in, has_texts, Appends}

-- ---- a record joins, and a claim goes

record_then_claim : {R : Type 0} (world : World R) (place number : ℕ) (next : Record) (found : Option SystemState)
    → with_state_at (without_claim world number) place (state_with next) found ≡ without_claim (with_state_at world place (state_with next) found) number
record_then_claim world place number next None = refl
record_then_claim world place number next (Some state) = refl

-- a log that is begun goes on by the rules for all records but the first
others_follow : (rules : Meaning) (system : ℕ) (log : List Record) (next : Record) → log ≢ [] → may_follow rules system log next ≡ true
    → may_follow_others rules system log next ≡ true
others_follow rules system [] next begun may = absurd (begun refl)
others_follow rules system (first ∷ rest) next begun may = may

module _ {R : Type 0} (rules : Meaning) (world : World R) (system : ℕ) (next : Record) where
  abbrev it : Writing
  it = record { system = system; next = next }

  abbrev After : World R → Option ℕ → Type 0
  After after claim = after ≡ after_record world system next claim

  -- the record of an event that leaves the claims
  leaves : (found : Option Writing) → found ≡ Some it → After (written found world) None
  leaves found writes = ap (λ found. written found world) writes

  -- the record of an event that a claim goes with
  closes : (number : ℕ) (of_kind : Held → Option Writing) (found : Option Held) → claim_of number world.claims ≡ found
      → option_and_then of_kind found ≡ Some it
      → After (written (option_and_then of_kind found) (after_work world found (option_and_then of_kind found))) (Some number)
  closes number of_kind None known writes = cc
  closes number of_kind (Some held) known writes =
      ap (λ found. written found (after_work world (Some held) found)) writes
      ∙ ap (λ n. with_record (without_claim world n) system next) (claim_of-Some number world.claims held known).1
      ∙ record_then_claim world (system - 1) number next (state_of world.systems system)

  after-busy : (number : ℕ) (found : Option Held) → option_and_then (λ held. record_of_reply rules world reply.Busy held held.kind) found ≡ Some it
      → After (written (option_and_then (λ held. record_of_reply rules world reply.Busy held held.kind) found)
      (option_map_or (λ held. after_busy world held held.kind) found world)) (Some number)
  after-busy number None writes = cc
  after-busy number (Some held) writes = cc

  after-reply : (number : ℕ) (given : CoreAnswer) → record_of rules world (event.Reply (Claim number given)) ≡ Some it
      → After (happens rules world (event.Reply (Claim number given))) (Some number)
  after-reply number reply.Busy writes = after-busy number (claim_of number world.claims) writes
  after-reply number reply.Done writes =
      closes number (λ held. record_of_reply rules world reply.Done held held.kind) (claim_of number world.claims) refl writes
  after-reply number reply.SysFail writes =
      closes number (λ held. record_of_reply rules world reply.SysFail held held.kind) (claim_of number world.claims) refl writes

  after-answer : (unit : AleUnit) (may : Bool) (given : Answer) → cond may (record_of_answer unit given) None ≡ Some it
      → After (written (cond may (record_of_answer unit given) None) (cond may (with_run world unit given) world)) None
  after-answer unit true answer.New writes = leaves (record_of_answer unit answer.New) writes
  after-answer unit true answer.Run writes = cc
  after-answer unit true answer.Down writes = cc
  after-answer unit true answer.Known writes = cc
  after-answer unit true answer.Busy writes = cc
  after-answer unit true answer.SysFail writes = cc
  after-answer unit false given writes = cc

  after-arrival : (found : Option AleUnit) → option_and_then (record_of_arrival rules world) found ≡ Some it
      → After (written (option_and_then (record_of_arrival rules world) found) (option_map_or (after_arrival rules world) found world)) None
  after-arrival None writes = cc
  after-arrival (Some unit) writes = after-answer unit (may_arrive rules world unit) (answer_to rules world unit) writes

  -- an event that appends this record does no more than append it, and its claim goes
  after-of : (e : Event) → record_of rules world e ≡ Some it → After (happens rules world e) (claim_in e)
  after-of (event.Commit s what) writes = leaves (record_of rules world (event.Commit s what)) writes
  after-of (event.Claim tid) writes = cc
  after-of (event.Arrive tid) writes = after-arrival (committed_unit rules world tid) writes
  after-of (event.Run tid) writes = cc
  after-of (event.Finish number) writes = closes number (λ held. record_of_work rules world held held.kind) (claim_of number world.claims) refl writes
  after-of (event.Fail number) writes = closes number (λ held. record_of_failure rules world held held.kind) (claim_of number world.claims) refl writes
  after-of (event.Reply (Claim number given)) writes = after-reply number given writes
  after-of (event.Reply (Forgotten tid)) writes = leaves (record_of rules world (event.Reply (Forgotten tid))) writes
  after-of (event.LoseRequest number) writes = closes number (λ held. record_of_loss held held.kind) (claim_of number world.claims) refl writes
  after-of (event.LoseReply number) writes = closes number (λ held. record_of_loss held held.kind) (claim_of number world.claims) refl writes
  after-of (event.Confirm tid) writes = leaves (record_of rules world (event.Confirm tid)) writes
  after-of (event.LoseConfirm tid) writes = cc
  after-of (event.Operator (Append s what)) writes = leaves (record_of rules world (event.Operator (Append s what))) writes
  after-of (event.Operator Revoke) writes = cc
  after-of (event.Fall s kept) writes = cc
  after-of (event.Open s) writes = cc

module _ {R : Type 0} (rules : Meaning) (lawful : IsLawful rules) (world : World R) (safe : Safe rules world) (writable : CommitWritable rules) where
  -- ---- a record that can be written

  abbrev CanWrite : ℕ → Record → Type 0
  CanWrite system next = (has_texts next ≡ true → IsWritable next) → IsWritable next

  write-commit : (next : Record) → is_commit next ≡ true → (has_texts next ≡ true → IsWritable next) → IsWritable next
  write-commit (log.Commit origin docs) is texts = texts refl
  write-commit log.Dispatch is texts = tt
  write-commit _ is texts = cc

  write-operator : (system : ℕ) (before : List Record) (next : Record) → is_operators next ≡ true
      → may_follow_others rules system before next ≡ true → (has_texts next ≡ true → IsWritable next) → IsWritable next
  write-operator system before (log.Stop Outgoing destination name) is may texts = tt
  write-operator system before (log.Stop Incoming destination name) is may texts = eqb-true destination 0 may
  write-operator system before (log.Start Outgoing destination name) is may texts = tt
  write-operator system before (log.Start Incoming destination name) is may texts = eqb-true destination 0 may
  write-operator system before (log.Retry way tid) is may texts = tt
  write-operator system before (log.Put kind key fields) is may texts = texts refl
  write-operator system before (log.App doc) is may texts = tt
  write-operator system before (log.Repost doc) is may texts = tt
  write-operator system before (log.Model text) is may texts = texts refl
  write-operator system before _ is may texts = cc

  write-unit : (tid : TidOf) (unit : AleUnit) → committed_unit rules world tid ≡ Some unit → IsUnit unit
  write-unit tid unit named =
      writable.each tid.system (log_of world tid.system) ((sound_now rules lawful world safe).legal tid.system) unit
      (committed_unit-is rules lawful world safe tid unit named).0

  -- a record that may follow the log of a system that is up follows its Genesis
  pub follows-others : (system : ℕ) (next : Record) → is_up world system ≡ true → may_follow rules system (log_of world system) next ≡ true
      → may_follow_others rules system (log_of world system) next ≡ true
  follows-others system next up may =
      let known = is_up-known world system up in
      others_follow rules system (log_of world system) next (begun rules lawful world safe system known.0 known.1) may

  can_write : (e : Event) (it : Writing) → record_of rules world e ≡ Some it → CanWrite it.system it.next
  can_write = each-record rules world CanWrite (record {
    commit = λ system next up is may. write-commit next is;
    operator = λ system next up is may.
        write-operator system (log_of world system) next (and_parts (is_operators next) _ is).0 (follows-others system next up may);
    accept = λ tid unit named may is texts. write-unit tid unit named;
    execute = λ held has is offers texts. tt;
    fail = λ held has is offers texts. tt;
    direct = λ held has is unit named offers texts. write-unit held.tid unit named;
    done = λ held unit has is named among texts. tt;
    refused = λ held unit has is named pass texts. tt;
    lost = λ held has is texts. tt;
    forget = λ tid unit named done up open_ texts. tt;
    ended = λ tid unit named up done open_ gone texts. tt;
  })

  -- ---- an event that appends a record

  module _ (e : Event) (system : ℕ) (next : Record) (claim : Option ℕ) (does : Appends rules world system next claim e) where
    event-may : MayWrite rules world system next
    event-may = MayWrite-record rules lawful world safe e (record { system = system; next = next }) does.writes

    -- it does no more than append its record, and its claim goes
    pub event-after : happens rules world e ≡ after_record world system next claim
    event-after = after-of rules world system next e does.writes ∙ ap (after_record world system next) (sym does.ends)

    -- its system is up
    pub event-up : is_up world system ≡ true
    event-up = event-may.up

    -- its record may follow the log of its system
    pub event-follows : may_follow rules system (log_of world system) next ≡ true
    event-follows = event-may.may

    -- its record can be written
    pub event-writable : IsWritable next
    event-writable = can_write e (record { system = system; next = next }) does.writes does.texts

    -- a record that commits nothing leaves the units that its system committed
    pub event-none_more : is_commit next ≡ false
        → rules.committed system (log_of world system ++ next ∷ []) ≡ rules.committed system (log_of world system) ++ []
    event-none_more plain =
        lawful.commits_nothing system (log_of world system) next plain ∙ sym (append-nil (rules.committed system (log_of world system)))
