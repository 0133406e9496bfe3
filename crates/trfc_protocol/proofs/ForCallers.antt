-- What crates that build on the protocol need beside the events: what is known of a unit that is claimed, done or forgotten,
-- and that a record that was taken back leaves the world as it was.
use Rattle.std.specs.Prelude.{Contains, slice_get, slice_set, take}
use Rattle.std.specs.Option.{option_map_or}
use Rattle.std.proofs.Common.{◌≡◌, ℕ, zero, suc, ◌-◌, true, false, not, ◌||◌, Option, Some, None, List, [], ◌∷◌, ◌++◌, length, inl, inr, refl, sym, ap, subst}
use Rattle.std.proofs.Common.{◌∙◌, arith}
use Rattle.std.proofs.Math.Bool.{or-true}
use Rattle.std.proofs.lemmas.Bool.{cond_both, and_from, both_ways, false_from_ne_true, not_from_false}
use Rattle.std.proofs.lemmas.List.{take-append-le, take_all, length-append}
use Rattle.std.proofs.lemmas.List.Elements.{All-contains}
use Rattle.ale_base.specs.Tid.{TidOf}
use Rattle.ale_base.specs.declared.way.Way.TheVariants.{Outgoing}
use Rattle.unit_core.specs.declared.ale_unit.AleUnit.{AleUnit}
use Rattle.unit_core.specs.declared.records.Record.{Record}
use Rattle.unit_core.specs.Filters.{received, done_in, forgotten_in, is_marked}
use Rattle.unit_core.specs.Queues.{is_listed, is_among, unit_named, heads_outbound}
use Rattle.ale_base.specs.Prefix.{IsPrefix}
use Rattle.ale_base.proofs.OptionLemmas.{none_or_some}
use Rattle.ale_base.proofs.PrefixLemmas.{IsPrefix-same}
use Rattle.unit_core.proofs.TidLemmas.{Contains-is_listed, is_listed-Contains, is_among-Contains, unit_named-Contains}
use Rattle.unit_core.proofs.OnceLemmas.{WasTaken}
use Rattle.trfc_protocol.specs.declared.world.World.{World}
use Rattle.trfc_protocol.specs.declared.world.SystemState.{SystemState}
use Rattle.trfc_protocol.specs.declared.held.Held.{Held}
use Rattle.trfc_protocol.specs.declared.held.HeldKind.{HeldKind}
use Rattle.trfc_protocol.specs.declared.held.HeldKind.TheVariants.{Out, In, Direct}
use Rattle.trfc_protocol.specs.declared.answer.Answer.{Answer}
use Rattle.trfc_protocol.specs.declared.answer.Answer.TheVariants as answer
use Rattle.trfc_protocol.specs.declared.event.Event.{Event}
use Rattle.trfc_protocol.specs.declared.event.Event.TheVariants as event
use Rattle.trfc_protocol.specs.declared.event.ReplyTo.TheVariants.{Claim, Forgotten}
use Rattle.trfc_protocol.specs.declared.event.CoreAnswer.{CoreAnswer}
use Rattle.trfc_protocol.specs.declared.event.CoreAnswer.TheVariants as reply
use Rattle.trfc_protocol.specs.declared.event.Action.TheVariants.{Append, Revoke}
use Rattle.trfc_protocol.specs.Meaning.{Meaning}
use Rattle.trfc_protocol.specs.Legal.{is_free_outbound, IsLawful}
use Rattle.trfc_protocol.specs.Worlds.{state_of, log_or_none, log_with, state_with, state_without_last, state_down, state_open, log_of, is_up, committed_by}
use Rattle.trfc_protocol.specs.Worlds.{committed_unit, with_state, with_record, with_claim, with_fall, one_fall_more, claim_of}
use Rattle.trfc_protocol.specs.Offered.{is_offered_outbound, is_offered_inbound, heads_at_sender, may_arrive, answer_to}
use Rattle.trfc_protocol.specs.RecordOf.{Writing, record_of}
use Rattle.trfc_protocol.specs.Keeping.{may_keep}
use Rattle.trfc_protocol.specs.Happens.{written, with_run, after_run, after_work, after_busy, after_arrival, with_claims_after, happens}
use Rattle.trfc_protocol.specs.Safe.{is_due, Safe}
use Rattle.trfc_protocol.proofs.WorldLemmas.{slice_set-same, with_state-known, with_state-unknown, state_of-here, at_each_state}
use Rattle.trfc_protocol.proofs.LegalLemmas.{is_free-parts}
use Rattle.trfc_protocol.proofs.SafeLemmas.{IsRun-due, sound_now, hold, numbered, committed_unit-is, received-is}
use Rattle.trfc_protocol.proofs.ExecutingLemmas.{in_received}
use Rattle.trfc_protocol.proofs.ReplyingLemmas.{out_parts}

-- ---- a record that is taken back

without_last : (log : List Record) (next : Record) → take (length (log ++ next ∷ []) - 1) (log ++ next ∷ []) ≡ log
without_last log next =
    let count : length (log ++ next ∷ []) - 1 ≡ length log = omega (arith, length-append log (next ∷ [])) in
    ap (λ n. take n (log ++ next ∷ [])) count ∙ take-append-le (length log) log (next ∷ []) (omega arith) ∙ take_all (length log) log (omega arith)

set_twice : {A : Type 0} (xs : List A) (k : ℕ) (y z : A) → slice_set (slice_set xs k y) k z ≡ slice_set xs k z
set_twice [] k y z = refl
set_twice (x ∷ xs) zero y z = refl
set_twice (x ∷ xs) (suc k) y z = ap (λ v. x ∷ v) (set_twice xs k y z)

got_at : (systems : List SystemState) (system : ℕ) (state : SystemState) → state_of systems system ≡ Some state → slice_get systems (system - 1) ≡ Some state
got_at systems zero state known = cc
got_at systems (suc k) state known = let place : suc k - 1 ≡ k = omega arith in rw place known

-- a record that was taken back leaves the world as it was before
pub taken_back : {R : Type 0} (world : World R) (system : ℕ) (next : Record)
    → with_state (with_record world system next) system state_without_last ≡ world
taken_back {R} world system next =
    elim (none_or_some (state_of world.systems system)) [
      | inl unknown ↦
          let same = with_state-unknown world system (state_with next) unknown in
          ap (λ (w : World R). with_state w system state_without_last) same ∙ with_state-unknown world system state_without_last unknown
      | inr is ↦
          let grown : World R = with_record world system next in
          let state : SystemState = is.0 in
          let back : state_without_last (state_with next state) ≡ state =
          ap (λ log. let s : SystemState = record state { log = log } in s) (without_last state.log next) in
          with_state-known grown system state_without_last (state_with next state) (state_of-here world system (state_with next) state is.1)
          ∙ ap (λ (w : World R). let v : World R = record w { systems = slice_set w.systems (system - 1) (state_without_last (state_with next state)) } in v)
          (with_state-known world system (state_with next) state is.1)
          ∙ ap (λ systems. let v : World R = record world { systems = systems } in v)
          (set_twice world.systems (system - 1) (state_with next state) (state_without_last (state_with next state))
          ∙ slice_set-same world.systems (system - 1) state (state_without_last (state_with next state)) (got_at world.systems system state is.1) back)
    ]

-- ---- units that are claimed, done and forgotten

module _ {R : Type 0} (rules : Meaning) (lawful : IsLawful rules) (world : World R) (safe : Safe rules world) where
  -- the system of a claim is up
  pub claim_up : (held : Held) → Contains world.claims held → is_up world held.system ≡ true
  claim_up held has = (hold rules lawful world safe held has).up

  -- a shipment is claimed by the system that its id names
  pub shipped_by : (held : Held) → Contains world.claims held → held.kind ≡ Out → held.system ≡ held.tid.system
  shipped_by held has kind = (out_parts rules lawful world safe held has kind).0

  -- the unit of a shipment, and that it heads its queues and is not done
  pub shipped_unit : (held : Held) → Contains world.claims held → held.kind ≡ Out
      → (unit : AleUnit) × (committed_unit rules world held.tid ≡ Some unit) × (is_listed unit.tid (done_in (log_of world held.tid.system)) ≡ false)
      × (heads_at_sender rules world unit ≡ true)
  shipped_unit held has kind =
      let parts = out_parts rules lawful world safe held has kind in
      let units = committed_by rules world held.tid.system in
      let log = log_of world held.tid.system in
      let is = is_free-parts (done_in log) (is_marked Outgoing held.tid log) (heads_outbound (done_in log) units) (committed_unit rules world held.tid)
      (subst (λ s. is_free_outbound (committed_by rules world s) (log_of world s) held.tid ≡ true) parts.0 parts.1) in
      let its : is.0.tid ≡ held.tid = (committed_unit-is rules lawful world safe held.tid is.0 is.1).1 in (
        is.0,
        is.1,
        is.2,
        subst (λ (t : TidOf). heads_outbound (done_in (log_of world t.system)) (committed_by rules world t.system) is.0 ≡ true) (sym its) is.4,
      )

  -- the unit of a claim is the one that its sender committed
  pub claimed_unit : (held : Held) → Contains world.claims held → (unit : AleUnit) × (committed_unit rules world held.tid ≡ Some unit)
  claimed_unit held has = of_kind held.kind refl
    where
      of_kind : (kind : HeldKind) → held.kind ≡ kind → (unit : AleUnit) × (committed_unit rules world held.tid ≡ Some unit)
      of_kind Out is = let unit = shipped_unit held has is in (unit.0, unit.1)
      of_kind In is =
          let got = in_received rules lawful world safe held (hold rules lawful world safe held has) is in
          (got.0, subst (λ t. committed_unit rules world t ≡ Some got.0) got.2 (received-is rules lawful world safe held.system got.0 got.1).1)
      of_kind Direct is =
          let run = IsRun-due rules world held.system held.tid (subst (λ k. is_due rules world held k ≡ true) is (hold rules lawful world safe held has).due) in
          (run.unit, run.named)

  -- a unit that is done was committed by the system where it is, and was received by its receiver
  pub done_unit : (system : ℕ) (tid : TidOf) → is_listed tid (done_in (log_of world system)) ≡ true
      → WasTaken (committed_by rules world) (log_of world) system tid
  done_unit system tid listed =
      All-contains (WasTaken (committed_by rules world) (log_of world) system) (done_in (log_of world system)) tid
      ((sound_now rules lawful world safe).once.done_was_taken system) (Contains-is_listed tid (done_in (log_of world system)) listed)

  -- a unit that is forgotten is done at the sender that its id names
  pub forgotten_unit : (system : ℕ) (tid : TidOf) → is_listed tid (forgotten_in (log_of world system)) ≡ true
      → is_listed tid (done_in (log_of world tid.system)) ≡ true
  forgotten_unit system tid listed =
      is_listed-Contains tid (done_in (log_of world tid.system))
      (All-contains (λ (t : TidOf). Contains (done_in (log_of world t.system)) t) (forgotten_in (log_of world system)) tid
      ((sound_now rules lawful world safe).once.forgotten_was_done system) (Contains-is_listed tid (forgotten_in (log_of world system)) listed))

  -- a unit that is claimed to be shipped may arrive
  pub claimed_may_arrive : (held : Held) → Contains world.claims held → held.kind ≡ Out → (unit : AleUnit) → committed_unit rules world held.tid ≡ Some unit
      → may_arrive rules world unit ≡ true
  claimed_may_arrive held has kind unit named =
      let shipped = shipped_unit held has kind in
      let equal : shipped.0 ≡ unit = cc (shipped.1, named) in
      let its : unit.tid ≡ held.tid = (committed_unit-is rules lawful world safe held.tid unit named).1 in
      let forgotten = is_listed unit.tid (forgotten_in (log_of world unit.receiver)) in
      let done : is_listed unit.tid (done_in (log_of world unit.tid.system)) ≡ false =
      subst (λ (t : TidOf). is_listed unit.tid (done_in (log_of world t.system)) ≡ false) (sym its)
      (subst (λ (u : AleUnit). is_listed u.tid (done_in (log_of world held.tid.system)) ≡ false) equal shipped.2) in
      let open_ : forgotten ≡ false = false_from_ne_true forgotten (λ listed.
      both_ways (is_listed unit.tid (done_in (log_of world unit.tid.system))) done (forgotten_unit unit.receiver unit.tid listed)) in
      let heads : heads_at_sender rules world unit ≡ true = subst (λ (u : AleUnit). heads_at_sender rules world u ≡ true) equal shipped.3 in
      and_from (not forgotten) (is_among unit.tid (received (log_of world unit.receiver)) || heads_at_sender rules world unit)
      (not_from_false forgotten open_)
      (ap (λ b. is_among unit.tid (received (log_of world unit.receiver)) || b) heads
      ∙ or-true (is_among unit.tid (received (log_of world unit.receiver))))

  -- a unit that is done and not forgotten may arrive
  pub done_may_arrive : (tid : TidOf) (unit : AleUnit) → committed_unit rules world tid ≡ Some unit → is_listed tid (done_in (log_of world tid.system)) ≡ true
      → is_listed unit.tid (forgotten_in (log_of world unit.receiver)) ≡ false → may_arrive rules world unit ≡ true
  done_may_arrive tid unit named done open_ =
      let was = done_unit tid.system tid done in
      let found : committed_unit rules world tid ≡ Some was.0 =
      subst (λ t. unit_named t (committed_by rules world tid.system) ≡ Some was.0) was.1
      (unit_named-Contains (committed_by rules world tid.system) was.0 (numbered rules lawful world safe tid.system) was.2) in
      let equal : was.0 ≡ unit = cc (found, named) in
      let there : Contains (received (log_of world unit.receiver)) unit = subst (λ (u : AleUnit). Contains (received (log_of world u.receiver)) u) equal
      was.3 in
      let among = is_among-Contains unit (received (log_of world unit.receiver)) there in
      and_from (not (is_listed unit.tid (forgotten_in (log_of world unit.receiver))))
      (is_among unit.tid (received (log_of world unit.receiver)) || heads_at_sender rules world unit)
      (not_from_false (is_listed unit.tid (forgotten_in (log_of world unit.receiver))) open_)
      (ap (λ b. b || heads_at_sender rules world unit) among)

-- ---- logs only grow

-- another state of a system, whose log goes on, lets each log go on
grows_with : {R : Type 0} (world : World R) (system : ℕ) (change : SystemState → SystemState) → ((state : SystemState) → IsPrefix state.log (change state).log)
    → (other : ℕ) → IsPrefix (log_of world other) (log_of (with_state world system change) other)
grows_with {R} world system change longer other =
    elim (none_or_some (state_of world.systems system)) [
      | inl unknown ↦ subst (λ (w : World R). IsPrefix (log_of world other) (log_of w other)) (sym (with_state-unknown world system change unknown))
          (IsPrefix-same (log_of world other))
      | inr is ↦ at_each_state world system change is.0 is.1 (λ s found. IsPrefix (log_of world s) (log_or_none found))
          (subst (λ found. IsPrefix (log_or_none found) (change is.0).log) (sym is.1) (longer is.0)) (λ s _. IsPrefix-same (log_of world s)) other
    ]

open_longer : (state : SystemState) → IsPrefix state.log (state_open state).log
open_longer state = at state.rest
  where
    at : (rest : Option Record) → IsPrefix state.log (log_with state.log rest)
    at None = IsPrefix-same state.log
    at (Some next) = (next ∷ [], refl)

module _ {R : Type 0} (rules : Meaning) (world : World R) where
  abbrev Same : World R → Type 0
  Same after = (system : ℕ) → log_of after system ≡ log_of world system

  after_run_same : (unit : AleUnit) (given : Answer) → Same (with_run world unit given)
  after_run_same unit answer.Run system = refl
  after_run_same unit answer.New system = refl
  after_run_same unit answer.Down system = refl
  after_run_same unit answer.Known system = refl
  after_run_same unit answer.Busy system = refl
  after_run_same unit answer.SysFail system = refl

  arrival_same : (found : Option AleUnit) → Same (option_map_or (after_arrival rules world) found world)
  arrival_same None system = refl
  arrival_same (Some unit) system =
      cond_both (may_arrive rules world unit) (with_run world unit (answer_to rules world unit)) world (λ (w : World R). log_of w system ≡ log_of world system)
      (λ _. after_run_same unit (answer_to rules world unit) system) (λ _. refl)

  run_same : (tid : TidOf) (found : Option AleUnit) → Same (option_map_or (after_run world tid) found world)
  run_same tid None system = refl
  run_same tid (Some unit) system =
      cond_both (is_offered_inbound world unit.receiver tid) (with_claim world tid unit.receiver In) world
      (λ (w : World R). log_of w system ≡ log_of world system) (λ _. refl) (λ _. refl)

  work_same : (held : Option Held) (found : Option Writing) → Same (after_work world held found)
  work_same None found system = refl
  work_same (Some held) None system = refl
  work_same (Some held) (Some it) system = refl

  busy_same : (found : Option Held) → Same (option_map_or (λ held. after_busy world held held.kind) found world)
  busy_same None system = refl
  busy_same (Some held) system = of_kind held.kind
    where
      of_kind : (kind : HeldKind) → log_of (after_busy world held kind) system ≡ log_of world system
      of_kind Out = refl
      of_kind In = refl
      of_kind Direct = refl

  reply_same : (number : ℕ) (given : CoreAnswer) → Same (with_claims_after rules world (event.Reply (Claim number given)))
  reply_same number reply.Busy = busy_same (claim_of number world.claims)
  reply_same number reply.Done = work_same (claim_of number world.claims) (record_of rules world (event.Reply (Claim number reply.Done)))
  reply_same number reply.SysFail = work_same (claim_of number world.claims) (record_of rules world (event.Reply (Claim number reply.SysFail)))

  -- what becomes of claims leaves the logs
  pub claims_apart : (e : Event) → Same (with_claims_after rules world e)
  claims_apart (event.Commit system what) s = refl
  claims_apart (event.Claim tid) s =
      cond_both (is_offered_outbound rules world tid) (with_claim world tid tid.system Out) world
      (λ (w : World R). log_of w s ≡ log_of world s) (λ _. refl) (λ _. refl)
  claims_apart (event.Arrive tid) s = arrival_same (committed_unit rules world tid) s
  claims_apart (event.Run tid) s = run_same tid (committed_unit rules world tid) s
  claims_apart (event.Finish number) s = work_same (claim_of number world.claims) (record_of rules world (event.Finish number)) s
  claims_apart (event.Fail number) s = work_same (claim_of number world.claims) (record_of rules world (event.Fail number)) s
  claims_apart (event.Reply (Claim number given)) s = reply_same number given s
  claims_apart (event.Reply (Forgotten tid)) s = refl
  claims_apart (event.LoseRequest number) s = work_same (claim_of number world.claims) (record_of rules world (event.LoseRequest number)) s
  claims_apart (event.LoseReply number) s = work_same (claim_of number world.claims) (record_of rules world (event.LoseReply number)) s
  claims_apart (event.Confirm tid) s = refl
  claims_apart (event.LoseConfirm tid) s = refl
  claims_apart (event.Operator (Append system next)) s = refl
  claims_apart (event.Operator Revoke) s = refl
  claims_apart (event.Fall system kept) s = refl
  claims_apart (event.Open system) s = refl

  abbrev Grows : World R → Type 0
  Grows after = (system : ℕ) → IsPrefix (log_of world system) (log_of after system)

  writes_on : (found : Option Writing) (after : World R) → Same after → Grows (written found after)
  writes_on None after same system = subst (IsPrefix (log_of world system)) (sym (same system)) (IsPrefix-same (log_of world system))
  writes_on (Some it) after same system =
      subst (λ log. IsPrefix log (log_of (with_record after it.system it.next) system)) (same system)
      (grows_with after it.system (state_with it.next) (λ state. (it.next ∷ [], refl)) system)

  falls_on : (system : ℕ) (rest : Option Record) → Grows (with_fall world system rest)
  falls_on system rest = grows_with (record world { claims = []; falls = one_fall_more world.falls }) system (state_down rest)
      (λ state. IsPrefix-same state.log)

  -- every event lets each log go on
  pub logs_grow : (e : Event) → Grows (happens rules world e)
  logs_grow (event.Fall system None) s =
      cond_both (is_up world system) (with_fall world system None) (with_state world system (state_down None))
      (λ (w : World R). IsPrefix (log_of world s) (log_of w s)) (λ _. falls_on system None s)
      (λ _. grows_with world system (state_down None) (λ state. IsPrefix-same state.log) s)
  logs_grow (event.Fall system (Some next)) s =
      cond_both (may_keep rules world system next) (with_fall world system (Some next)) world
      (λ (w : World R). IsPrefix (log_of world s) (log_of w s)) (λ _. falls_on system (Some next) s) (λ _. IsPrefix-same (log_of world s))
  logs_grow (event.Open system) s =
      cond_both (is_up world system) world (with_state world system state_open)
      (λ (w : World R). IsPrefix (log_of world s) (log_of w s)) (λ _. IsPrefix-same (log_of world s)) (λ _. grows_with world system state_open open_longer s)
  logs_grow (event.Commit system what) s = writes_on (record_of rules world (event.Commit system what))
      (with_claims_after rules world (event.Commit system what)) (claims_apart (event.Commit system what)) s
  logs_grow (event.Claim tid) s = writes_on (record_of rules world (event.Claim tid)) (with_claims_after rules world (event.Claim tid))
      (claims_apart (event.Claim tid)) s
  logs_grow (event.Arrive tid) s = writes_on (record_of rules world (event.Arrive tid)) (with_claims_after rules world (event.Arrive tid))
      (claims_apart (event.Arrive tid)) s
  logs_grow (event.Run tid) s = writes_on (record_of rules world (event.Run tid)) (with_claims_after rules world (event.Run tid))
      (claims_apart (event.Run tid)) s
  logs_grow (event.Finish number) s = writes_on (record_of rules world (event.Finish number)) (with_claims_after rules world (event.Finish number))
      (claims_apart (event.Finish number)) s
  logs_grow (event.Fail number) s = writes_on (record_of rules world (event.Fail number)) (with_claims_after rules world (event.Fail number))
      (claims_apart (event.Fail number)) s
  logs_grow (event.Reply to) s = writes_on (record_of rules world (event.Reply to)) (with_claims_after rules world (event.Reply to))
      (claims_apart (event.Reply to)) s
  logs_grow (event.LoseRequest number) s = writes_on (record_of rules world (event.LoseRequest number))
      (with_claims_after rules world (event.LoseRequest number)) (claims_apart (event.LoseRequest number)) s
  logs_grow (event.LoseReply number) s = writes_on (record_of rules world (event.LoseReply number)) (with_claims_after rules world (event.LoseReply number))
      (claims_apart (event.LoseReply number)) s
  logs_grow (event.Confirm tid) s = writes_on (record_of rules world (event.Confirm tid)) (with_claims_after rules world (event.Confirm tid))
      (claims_apart (event.Confirm tid)) s
  logs_grow (event.LoseConfirm tid) s = writes_on (record_of rules world (event.LoseConfirm tid)) (with_claims_after rules world (event.LoseConfirm tid))
      (claims_apart (event.LoseConfirm tid)) s
  logs_grow (event.Operator action) s = writes_on (record_of rules world (event.Operator action)) (with_claims_after rules world (event.Operator action))
      (claims_apart (event.Operator action)) s
