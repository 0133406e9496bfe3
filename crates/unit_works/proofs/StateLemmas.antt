-- What an event makes of the states of systems: it lets those that are down be, and no system falls in it but by a fall.
use Rattle.std.specs.Prelude.{⊤}
use Rattle.std.specs.Option.{option_and_then, option_map_or}
use Rattle.std.proofs.Common.{◌≡◌, ◌≢◌, ℕ, Bool, true, false, Option, Some, None, [], inl, inr, refl, sym, ap, ◌∙◌, subst, not, ◌&&◌}
use Rattle.std.proofs.lemmas.Bool.{and_parts, both_ways, cases_eq, cond_both}
use Rattle.unit_core.specs.declared.ale_unit.AleUnit.{AleUnit}
use Rattle.ale_base.specs.Tid.{TidOf}
use Rattle.ale_base.specs.declared.mark.Mark.TheVariants.{Sysfail}
use Rattle.unit_core.specs.declared.records.Record.{Record}
use Rattle.unit_core.specs.declared.records.Record.TheVariants as log
use Rattle.unit_core.specs.Filters.{received, taken_by}
use Rattle.unit_core.specs.Queues.{is_among, unit_named}
use Rattle.trfc_protocol.specs.declared.answer.Answer.{Answer}
use Rattle.trfc_protocol.specs.declared.answer.Answer.TheVariants as answer
use Rattle.trfc_protocol.specs.declared.event.CoreAnswer.{CoreAnswer}
use Rattle.trfc_protocol.specs.declared.event.CoreAnswer.TheVariants as core
use Rattle.trfc_protocol.specs.declared.event.Event.{Event}
use Rattle.trfc_protocol.specs.declared.event.Event.TheVariants as event
use Rattle.trfc_protocol.specs.declared.event.ReplyTo.TheVariants.{Claim, Forgotten}
use Rattle.trfc_protocol.specs.declared.event.Action.TheVariants.{Append, Revoke}
use Rattle.trfc_protocol.specs.declared.held.Held.{Held}
use Rattle.trfc_protocol.specs.declared.held.HeldKind.{HeldKind}
use Rattle.trfc_protocol.specs.declared.held.HeldKind.TheVariants.{Out, In, Direct}
use Rattle.trfc_protocol.specs.declared.world.SystemState.{SystemState}
use Rattle.trfc_protocol.specs.declared.world.World.{World}
use Rattle.trfc_protocol.specs.Happens.{after_arrival, after_busy, after_run, after_work, happens, with_claims_after, with_run, written}
use Rattle.trfc_protocol.specs.Legal.{IsLawful, is_commit, is_empty, is_operators}
use Rattle.trfc_protocol.specs.Meaning.{Meaning}
use Rattle.trfc_protocol.specs.Offered.{answer_to, is_offered_inbound, is_offered_outbound, may_arrive, offers_received_now}
use Rattle.trfc_protocol.specs.RecordOf.{Writing, record_if, record_of, record_of_answer, record_of_answered, record_of_arrival, record_of_confirmation}
use Rattle.trfc_protocol.specs.RecordOf.{record_of_ending, record_of_failure, record_of_loss, record_of_reply, record_of_run, record_of_work}
use Rattle.trfc_protocol.specs.Safe.{Safe}
use Rattle.trfc_protocol.specs.Worlds.{claim_of, committed_by, committed_unit, is_up, log_of, log_or_none, offers_now, one_fall_more, rest_of, rest_or_none}
use Rattle.trfc_protocol.specs.Worlds.{state_down, state_of, state_with, up_or_not, with_claim, with_fall, with_record}
use Rattle.trfc_protocol.proofs.RecordLemmas.{MayWrite-record, each-record}
use Rattle.trfc_protocol.proofs.SafeLemmas.{committed_unit-is}
use Rattle.trfc_protocol.proofs.WorldLemmas.{at_each_state, is_up-known, joins-with_state, state_of-elsewhere, state_of-here}
use Rattle.unit_works.specs.Events.{is_works_record}

-- an event of the way of units, which is neither a fall nor an opening
abbrev pub is_step : Event → Bool
is_step (event.Fall system kept) = false
is_step (event.Open system) = false
is_step (event.Commit system what) = false
is_step (event.Operator (Append system next)) = false
is_step _ = true

-- a record that works append commits nothing
works-plain : (next : Record) → is_works_record next ≡ true → is_commit next ≡ false
works-plain (log.Mark tid cause) is = refl
works-plain (log.Done tid) is = refl
works-plain (log.Ended tid) is = refl
works-plain (log.Accept unit) is = refl
works-plain (log.Execute tid) is = refl
works-plain (log.Direct unit) is = refl
works-plain (log.Fail tid) is = refl
works-plain (log.Forget tid) is = refl
works-plain _ is = cc

-- a record that commits or that an operator asks for takes in no unit
commit-takes : (next : Record) → is_commit next ≡ true → taken_by next ≡ None
commit-takes (log.Commit origin docs) is = refl
commit-takes log.Dispatch is = refl
commit-takes _ is = cc

operator-takes : (next : Record) → is_operators next ≡ true → taken_by next ≡ None
operator-takes (log.Stop way destination name) is = refl
operator-takes (log.Start way destination name) is = refl
operator-takes (log.Retry way tid) is = refl
operator-takes (log.Put kind key fields) is = refl
operator-takes (log.App doc) is = refl
operator-takes (log.Repost doc) is = refl
operator-takes (log.Model text) is = refl
operator-takes _ is = cc

-- a record that commits nothing leaves the units that are committed
pub committed-record : {R : Type 0} (rules : Meaning) → IsLawful rules → (world : World R) (system : ℕ) (next : Record) → is_up world system ≡ true
    → is_commit next ≡ false → (tid : TidOf) → committed_unit rules (with_record world system next) tid ≡ committed_unit rules world tid
committed-record rules lawful world system next up plain tid =
    let known = is_up-known world system up in
    let joins = joins-with_state world system (state_with next) known.0 known.1 next refl in
    let same : committed_by rules (with_record world system next) tid.system ≡ committed_by rules world tid.system =
    elim (cases_eq tid.system system) [
      | inl here ↦
          subst (λ s. rules.committed s (log_of (with_record world system next) s) ≡ rules.committed s (log_of world s)) (sym here)
          (ap (rules.committed system) joins.here ∙ lawful.commits_nothing system (log_of world system) next plain)
      | inr other ↦ ap (rules.committed tid.system) (joins.elsewhere tid.system other)
    ] in
    ap (unit_named tid) same

-- ---- the records of the way of units

module _ {R : Type 0} (rules : Meaning) (world : World R) where
  abbrev pub IsOfWorks : Option Writing → Type 0
  IsOfWorks None = ⊤
  IsOfWorks (Some it) = is_works_record it.next ≡ true

  if_works : (met : Bool) (system : ℕ) (next : Record) → is_works_record next ≡ true → IsOfWorks (record_if met system next)
  if_works met system next is = cond_both met (Some (record { system = system; next = next })) None IsOfWorks (λ _. is) (λ _. tt)

  of_unit : (of : AleUnit → Option Writing) → ((unit : AleUnit) → IsOfWorks (of unit)) → (found : Option AleUnit) → IsOfWorks (option_and_then of found)
  of_unit of each None = tt
  of_unit of each (Some unit) = each unit

  of_claim : (of : Held → HeldKind → Option Writing) → ((held : Held) (kind : HeldKind) → IsOfWorks (of held kind)) → (found : Option Held)
      → IsOfWorks (option_and_then (λ held. of held held.kind) found)
  of_claim of each None = tt
  of_claim of each (Some held) = each held held.kind

  answered : (unit : AleUnit) (given : Answer) → IsOfWorks (record_of_answer unit given)
  answered unit answer.New = refl
  answered unit answer.Run = tt
  answered unit answer.Down = tt
  answered unit answer.Known = tt
  answered unit answer.Busy = tt
  answered unit answer.SysFail = tt

  arrival : (unit : AleUnit) → IsOfWorks (record_of_arrival rules world unit)
  arrival unit =
      cond_both (may_arrive rules world unit) (record_of_answer unit (answer_to rules world unit)) None IsOfWorks
      (λ _. answered unit (answer_to rules world unit)) (λ _. tt)

  work : (held : Held) (kind : HeldKind) → IsOfWorks (record_of_work rules world held kind)
  work held In = if_works (offers_received_now rules world held.system held.tid) held.system (log.Execute held.tid) refl
  work held Direct =
      of_unit (record_of_run rules world held) (λ unit. if_works (offers_now rules world held.system unit.function) held.system (log.Direct unit) refl)
      (committed_unit rules world held.tid)
  work held Out = tt

  failure : (held : Held) (kind : HeldKind) → IsOfWorks (record_of_failure rules world held kind)
  failure held In = if_works (not (offers_received_now rules world held.system held.tid)) held.system (log.Fail held.tid) refl
  failure held Direct = tt
  failure held Out = tt

  told : (given : CoreAnswer) (held : Held) (unit : AleUnit) → IsOfWorks (record_of_answered rules world held given unit)
  told core.Busy held unit = tt
  told core.Done held unit = if_works (is_among unit.tid (received (log_of world unit.receiver))) held.system (log.Done held.tid) refl
  told core.SysFail held unit =
      if_works (is_empty unit.inq && not (offers_now rules world unit.receiver unit.function)) held.system (log.Mark held.tid Sysfail) refl

  replied : (given : CoreAnswer) (held : Held) (kind : HeldKind) → IsOfWorks (record_of_reply rules world given held kind)
  replied core.Busy held kind = tt
  replied core.Done held Out = of_unit (record_of_answered rules world held core.Done) (told core.Done held) (committed_unit rules world held.tid)
  replied core.Done held In = tt
  replied core.Done held Direct = tt
  replied core.SysFail held Out = of_unit (record_of_answered rules world held core.SysFail) (told core.SysFail held) (committed_unit rules world held.tid)
  replied core.SysFail held In = tt
  replied core.SysFail held Direct = tt

  loss : (held : Held) (kind : HeldKind) → IsOfWorks (record_of_loss held kind)
  loss held Out = refl
  loss held In = tt
  loss held Direct = tt

  pub step-works : (e : Event) → is_step e ≡ true → IsOfWorks (record_of rules world e)
  step-works (event.Claim tid) is = tt
  step-works (event.Arrive tid) is = of_unit (record_of_arrival rules world) arrival (committed_unit rules world tid)
  step-works (event.Run tid) is = tt
  step-works (event.Finish number) is = of_claim (record_of_work rules world) work (claim_of number world.claims)
  step-works (event.Fail number) is = of_claim (record_of_failure rules world) failure (claim_of number world.claims)
  step-works (event.Reply (Claim number given)) is = of_claim (record_of_reply rules world given) (replied given) (claim_of number world.claims)
  step-works (event.Reply (Forgotten tid)) is =
      of_unit (record_of_ending world tid) (λ unit. if_works _ tid.system (log.Ended tid) refl) (committed_unit rules world tid)
  step-works (event.LoseRequest number) is = of_claim record_of_loss loss (claim_of number world.claims)
  step-works (event.LoseReply number) is = of_claim record_of_loss loss (claim_of number world.claims)
  step-works (event.Confirm tid) is =
      of_unit (record_of_confirmation world) (λ unit. if_works _ unit.receiver (log.Forget unit.tid) refl) (committed_unit rules world tid)
  step-works (event.LoseConfirm tid) is = tt
  step-works (event.Operator Revoke) is = tt
  step-works (event.Operator (Append system next)) is = cc
  step-works (event.Commit system what) is = cc
  step-works (event.Fall system kept) is = cc
  step-works (event.Open system) is = cc

-- a unit that a record takes in was committed
pub step-sent : {R : Type 0} (rules : Meaning) → IsLawful rules → (world : World R) → Safe rules world → (e : Event) (it : Writing)
    → record_of rules world e ≡ Some it
    → (unit : AleUnit) → taken_by it.next ≡ Some unit → committed_unit rules world unit.tid ≡ Some unit
step-sent {R} rules lawful world safe =
    each-record rules world (λ s next. (unit : AleUnit) → taken_by next ≡ Some unit → committed_unit rules world unit.tid ≡ Some unit) (record {
      commit = λ system next up is may unit takes. let none = commit-takes next is in cc;
      operator = λ system next up is may unit takes. let none = operator-takes next (and_parts (is_operators next) _ is).0 in cc;
      accept = λ tid sent named may answers unit takes. its tid sent named unit takes;
      execute = λ held has is offers unit takes. cc;
      fail = λ held has is offers unit takes. cc;
      direct = λ held has is sent named offers unit takes. its held.tid sent named unit takes;
      done = λ held sent has is named among unit takes. cc;
      refused = λ held sent has is named pass unit takes. cc;
      lost = λ held has is unit takes. cc;
      forget = λ tid sent named done up open_ unit takes. cc;
      ended = λ tid sent named up done open_ gone unit takes. cc;
    })
  where
    its : (tid : TidOf) (sent : AleUnit) → committed_unit rules world tid ≡ Some sent → (unit : AleUnit) → Some sent ≡ Some unit
        → committed_unit rules world unit.tid ≡ Some unit
    its tid sent named unit takes =
        let same : sent ≡ unit = cc in
        let id : sent.tid ≡ tid = (committed_unit-is rules lawful world safe tid sent named).1 in
        subst (λ (u : AleUnit). committed_unit rules world u.tid ≡ Some u) same (subst (λ t. committed_unit rules world t ≡ Some sent) (sym id) named)

-- ---- what becomes of claims leaves the systems

module _ {R : Type 0} (rules : Meaning) (world : World R) where
  abbrev pub Same : World R → Type 0
  Same after = after.systems ≡ world.systems

  run_systems : (unit : AleUnit) (given : Answer) → Same (with_run world unit given)
  run_systems unit answer.Run = refl
  run_systems unit answer.New = refl
  run_systems unit answer.Down = refl
  run_systems unit answer.Known = refl
  run_systems unit answer.Busy = refl
  run_systems unit answer.SysFail = refl

  arrival_systems : (found : Option AleUnit) → Same (option_map_or (after_arrival rules world) found world)
  arrival_systems None = refl
  arrival_systems (Some unit) =
      cond_both (may_arrive rules world unit) (with_run world unit (answer_to rules world unit)) world Same
      (λ _. run_systems unit (answer_to rules world unit)) (λ _. refl)

  work_systems : (held : Option Held) (found : Option Writing) → Same (after_work world held found)
  work_systems None found = refl
  work_systems (Some held) None = refl
  work_systems (Some held) (Some it) = refl

  kind_systems : (held : Held) (kind : HeldKind) → Same (after_busy world held kind)
  kind_systems held Out = refl
  kind_systems held In = refl
  kind_systems held Direct = refl

  busy_systems : (found : Option Held) → Same (option_map_or (λ held. after_busy world held held.kind) found world)
  busy_systems None = refl
  busy_systems (Some held) = kind_systems held held.kind

  pub claims_systems : (e : Event) → Same (with_claims_after rules world e)
  claims_systems (event.Commit system what) = refl
  claims_systems (event.Claim tid) =
      cond_both (is_offered_outbound rules world tid) (with_claim world tid tid.system Out) world Same (λ _. refl) (λ _. refl)
  claims_systems (event.Arrive tid) = arrival_systems (committed_unit rules world tid)
  claims_systems (event.Run tid) = claimed (committed_unit rules world tid)
    where
      claimed : (found : Option AleUnit) → Same (option_map_or (after_run world tid) found world)
      claimed None = refl
      claimed (Some unit) =
          cond_both (is_offered_inbound world unit.receiver tid) (with_claim world tid unit.receiver In) world Same (λ _. refl) (λ _. refl)
  claims_systems (event.Finish number) = work_systems (claim_of number world.claims) (record_of rules world (event.Finish number))
  claims_systems (event.Fail number) = work_systems (claim_of number world.claims) (record_of rules world (event.Fail number))
  claims_systems (event.Reply (Claim number core.Busy)) = busy_systems (claim_of number world.claims)
  claims_systems (event.Reply (Claim number core.Done)) =
      work_systems (claim_of number world.claims) (record_of rules world (event.Reply (Claim number core.Done)))
  claims_systems (event.Reply (Claim number core.SysFail)) =
      work_systems (claim_of number world.claims) (record_of rules world (event.Reply (Claim number core.SysFail)))
  claims_systems (event.Reply (Forgotten tid)) = refl
  claims_systems (event.LoseRequest number) = work_systems (claim_of number world.claims) (record_of rules world (event.LoseRequest number))
  claims_systems (event.LoseReply number) = work_systems (claim_of number world.claims) (record_of rules world (event.LoseReply number))
  claims_systems (event.Confirm tid) = refl
  claims_systems (event.LoseConfirm tid) = refl
  claims_systems (event.Operator (Append system next)) = refl
  claims_systems (event.Operator Revoke) = refl
  claims_systems (event.Fall system kept) = refl
  claims_systems (event.Open system) = refl

-- ---- a record joins, or a system falls

module _ {R : Type 0} (world : World R) (system : ℕ) (up : is_up world system ≡ true) where
  -- a record leaves which systems are up
  record-up : (next : Record) (other : ℕ) → is_up (with_record world system next) other ≡ is_up world other
  record-up next =
      let known = is_up-known world system up in
      at_each_state world system (state_with next) known.0 known.1 (λ s found. up_or_not found ≡ is_up world s) (sym (ap up_or_not known.1))
      (λ other differs. refl)

  -- and what each may find
  record-rest : (next : Record) (other : ℕ) → rest_of (with_record world system next) other ≡ rest_of world other
  record-rest next =
      let known = is_up-known world system up in
      at_each_state world system (state_with next) known.0 known.1 (λ s found. rest_or_none found ≡ rest_of world s) (sym (ap rest_or_none known.1))
      (λ other differs. refl)

  -- and the state of each that is down
  down-differs : (other : ℕ) → is_up world other ≡ false → other ≢ system
  down-differs other down same = both_ways (is_up world system) (sym (ap (is_up world) same) ∙ down) up

  record-down : (next : Record) (other : ℕ) → is_up world other ≡ false → state_of (with_record world system next).systems other ≡ state_of world.systems other
  record-down next other down =
      let known = is_up-known world system up in
      state_of-elsewhere world system (state_with next) known.0 known.1 other (down-differs other down)

  module _ (rest : Option Record) where
    abbrev Bare : World R
    Bare = record world { claims = []; falls = one_fall_more world.falls }

    -- so does a fall leave the state of each other system
    pub fall-other : (other : ℕ) → other ≢ system → state_of (with_fall world system rest).systems other ≡ state_of world.systems other
    fall-other other differs =
        let known = is_up-known world system up in
        state_of-elsewhere Bare system (state_down rest) known.0 known.1 other differs

    pub fall-down : (other : ℕ) → is_up world other ≡ false → state_of (with_fall world system rest).systems other ≡ state_of world.systems other
    fall-down other down = fall-other other (down-differs other down)

    -- each log stays
    pub fall-log : (other : ℕ) → log_of (with_fall world system rest) other ≡ log_of world other
    fall-log other =
        let known = is_up-known world system up in
        at_each_state Bare system (state_down rest) known.0 known.1 (λ s found. log_or_none found ≡ log_of world s) (sym (ap log_or_none known.1))
        (λ s differs. refl) other

    pub fall-committed : (rules : Meaning) (tid : TidOf) → committed_unit rules (with_fall world system rest) tid ≡ committed_unit rules world tid
    fall-committed rules tid = ap (λ l. unit_named tid (rules.committed tid.system l)) (fall-log tid.system)

    -- and the system is down, with what it may find
    pub fall-rest : rest_of (with_fall world system rest) system ≡ rest
    fall-rest =
        let known = is_up-known world system up in
        ap rest_or (state_of-here Bare system (state_down rest) known.0 known.1)
      where
        rest_or : Option SystemState → Option Record
        rest_or (Some state) = state.rest
        rest_or None = None

    pub fall-is_down : is_up (with_fall world system rest) system ≡ false
    fall-is_down =
        let known = is_up-known world system up in
        ap up_or_not (state_of-here Bare system (state_down rest) known.0 known.1)

    pub fall-only : (other : ℕ) → is_up world other ≡ true → is_up (with_fall world system rest) other ≡ false → other ≡ system
    fall-only other was now = elim (cases_eq other system) [
      | inl same ↦ same
      | inr differs ↦ absurd (both_ways (is_up world other) (sym (ap up_or_not (fall-other other differs)) ∙ now) was)
    ]

-- ---- an event that is neither a fall nor an opening

module _ {R : Type 0} (rules : Meaning) (lawful : IsLawful rules) (world : World R) (safe : Safe rules world) (e : Event) (step : is_step e ≡ true) where
  pub happens-step : (f : Event) → is_step f ≡ true → happens rules world f ≡ written (record_of rules world f) (with_claims_after rules world f)
  happens-step (event.Fall system kept) is = cc
  happens-step (event.Open system) is = cc
  happens-step (event.Commit system what) is = refl
  happens-step (event.Claim tid) is = refl
  happens-step (event.Arrive tid) is = refl
  happens-step (event.Run tid) is = refl
  happens-step (event.Finish number) is = refl
  happens-step (event.Fail number) is = refl
  happens-step (event.Reply to) is = refl
  happens-step (event.LoseRequest number) is = refl
  happens-step (event.LoseReply number) is = refl
  happens-step (event.Confirm tid) is = refl
  happens-step (event.LoseConfirm tid) is = refl
  happens-step (event.Operator action) is = refl

  abbrev Claimed : World R
  Claimed = with_claims_after rules world e

  same_up : (other : ℕ) → is_up Claimed other ≡ is_up world other
  same_up other = ap (λ systems. up_or_not (state_of systems other)) (claims_systems rules world e)

  same_rest : (other : ℕ) → rest_of Claimed other ≡ rest_of world other
  same_rest other = ap (λ systems. rest_or_none (state_of systems other)) (claims_systems rules world e)

  claimed_committed : (tid : TidOf) → committed_unit rules Claimed tid ≡ committed_unit rules world tid
  claimed_committed tid =
      ap (λ systems. unit_named tid (rules.committed tid.system (log_or_none (state_of systems tid.system)))) (claims_systems rules world e)

  written-up : (found : Option Writing) → record_of rules world e ≡ found → (other : ℕ) → is_up (written found Claimed) other ≡ is_up world other
  written-up None is other = same_up other
  written-up (Some it) is other =
      let up = (MayWrite-record rules lawful world safe e it is).up in
      record-up Claimed it.system (same_up it.system ∙ up) it.next other ∙ same_up other

  written-rest : (found : Option Writing) → record_of rules world e ≡ found → (other : ℕ) → rest_of (written found Claimed) other ≡ rest_of world other
  written-rest None is other = same_rest other
  written-rest (Some it) is other =
      let up = (MayWrite-record rules lawful world safe e it is).up in
      record-rest Claimed it.system (same_up it.system ∙ up) it.next other ∙ same_rest other

  written-down : (found : Option Writing) → record_of rules world e ≡ found → (other : ℕ) → is_up world other ≡ false
      → state_of (written found Claimed).systems other ≡ state_of world.systems other
  written-down None is other down = ap (λ systems. state_of systems other) (claims_systems rules world e)
  written-down (Some it) is other down =
      let up = (MayWrite-record rules lawful world safe e it is).up in
      record-down Claimed it.system (same_up it.system ∙ up) it.next other (same_up other ∙ down)
      ∙ ap (λ systems. state_of systems other) (claims_systems rules world e)

  -- leaves which systems are up
  pub step-up : (other : ℕ) → is_up (happens rules world e) other ≡ is_up world other
  step-up other = ap (λ (w : World R). is_up w other) (happens-step e step) ∙ written-up (record_of rules world e) refl other

  -- and what each may find
  pub step-rest : (other : ℕ) → rest_of (happens rules world e) other ≡ rest_of world other
  step-rest other = ap (λ (w : World R). rest_of w other) (happens-step e step) ∙ written-rest (record_of rules world e) refl other

  -- and the state of each that is down
  pub step-down : (other : ℕ) → is_up world other ≡ false → state_of (happens rules world e).systems other ≡ state_of world.systems other
  step-down other down =
      ap (λ (w : World R). state_of w.systems other) (happens-step e step) ∙ written-down (record_of rules world e) refl other down

  written-committed : (found : Option Writing) → record_of rules world e ≡ found → IsOfWorks rules world found → (tid : TidOf)
      → committed_unit rules (written found Claimed) tid ≡ committed_unit rules world tid
  written-committed None is works tid = claimed_committed tid
  written-committed (Some it) is works tid =
      let up = (MayWrite-record rules lawful world safe e it is).up in
      committed-record rules lawful Claimed it.system it.next (same_up it.system ∙ up) (works-plain it.next works) tid ∙ claimed_committed tid

  -- and the units that are committed
  pub step-committed : (tid : TidOf) → committed_unit rules (happens rules world e) tid ≡ committed_unit rules world tid
  step-committed tid =
      ap (λ (w : World R). committed_unit rules w tid) (happens-step e step)
      ∙ written-committed (record_of rules world e) refl (step-works rules world e step) tid
