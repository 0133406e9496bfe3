-- A record that may follow a legal log joins the tables of the log, by legality alone.
use Rattle.std.specs.Prelude.{Contains, ⊤}
use Rattle.std.proofs.Common.{◌≡◌, ℕ, ◌==◌, true, false, not, ◌&&◌, Option, Some, None, List, [], ◌∷◌, ◌++◌, refl, sym, subst, ◌∙◌}
use Rattle.std.proofs.lemmas.Bool.{and_parts, both_ways, false_from_ne_true, not_from_false, or_from, not-true}
use Rattle.std.proofs.lemmas.List.{append-nil, append_cancel_left}
use Rattle.std.proofs.lemmas.List.Elements.{Contains-append_right}
use Rattle.ale_base.specs.Tid.{TidOf, is_tid}
use Rattle.ale_base.specs.declared.way.Way.TheVariants.{Outgoing, Incoming}
use Rattle.ale_base.proofs.ListLemmas.{AllByRecursion-from_places, Contains-at}
use Rattle.unit_core.specs.declared.ale_unit.AleUnit.{AleUnit}
use Rattle.unit_core.specs.declared.records.Record.{Record}
use Rattle.unit_core.specs.declared.records.Record.TheVariants as log
use Rattle.unit_core.specs.Filters.{received, executed, done_in, ended_in, forgotten_in, is_marked}
use Rattle.unit_core.specs.Once.{NoneTwice}
use Rattle.unit_core.specs.Queues.{is_listed, is_among, unit_named, tids_of, heads_outbound, heads_inbound}
use Rattle.unit_core.proofs.TidLemmas.{is_tid-other, is_among-listed, is_among-Contains, unit_named-Some}
use Rattle.plain_queues.specs.LogQueues.{IsNew}
use Rattle.trfc_protocol.specs.Meaning.{Meaning}
use Rattle.trfc_protocol.specs.Legal.{is_commit, is_empty, is_free_outbound, is_free_inbound, is_new, offers_received, may_begin, may_follow, may_follow_others}
use Rattle.trfc_protocol.specs.Legal.{IsLegal, IsLawful}
use Rattle.trfc_protocol.proofs.LegalLemmas.{IsLegal-push, is_free-parts, committed-NoneTwice}
use Rattle.trfc_protocol.proofs.LegalFacts.{done-committed, ended-done, forgotten-received, executed-received, unmarked-new}
use Rattle.system_tables.specs.Joins.{HasQueues, Commits, Takes, Accepts, Ends, JoinsSent, JoinsArrived, Joins}
use Rattle.log_tables.specs.Read.{CommitFew, IsProper}

-- a record that does not begin a log follows one that is not empty
pub others : (rules : Meaning) (system : ℕ) (l : List Record) (next : Record) → may_begin system next ≡ false → may_follow rules system l next ≡ true
    → may_follow_others rules system l next ≡ true
others rules system [] next none may = absurd (both_ways (may_begin system next) none may)
others rules system (x ∷ xs) next none may = may

-- the claim that is handed in is that of an id
pub record HeldBy (claims : TidOf → Option ℕ) (tid : TidOf) (claim : Option ℕ) : Type 0 where
  pub number : ℕ
  pub given : claim ≡ Some number
  pub held : claims tid ≡ Some number

-- the claim that a record ends is held and handed in
abbrev pub IsEnding : Record → Option ℕ → (TidOf → Option ℕ) → (TidOf → Option ℕ) → Type 0
IsEnding (log.Done tid) claim sent arrived = HeldBy sent tid claim
IsEnding (log.Mark tid cause) claim sent arrived = HeldBy sent tid claim
IsEnding (log.Execute tid) claim sent arrived = HeldBy arrived tid claim
IsEnding (log.Fail tid) claim sent arrived = HeldBy arrived tid claim
IsEnding _ claim sent arrived = ⊤

-- a unit behind others, where no id is twice, is not among them
apart_from : (front back : List AleUnit) → NoneTwice (tids_of (front ++ back)) → (unit : AleUnit) → Contains back unit
    → is_among unit.tid front ≡ false
apart_from [] back apart unit has = refl
apart_from (u ∷ us) back apart unit has =
    or_from (is_tid u.tid unit.tid) (is_among unit.tid us)
    (is_tid-other u.tid unit.tid (λ same.
    both_ways (is_among u.tid (us ++ back)) (is_among-listed u.tid (us ++ back) ∙ apart.0)
    (subst (λ t. is_among t (us ++ back) ≡ true) (sym same) (is_among-Contains unit (us ++ back) (Contains-append_right us back unit has)))))
    (apart_from us back apart.1 unit has)

module _ (rules : Meaning) (lawful : IsLawful rules) (few : CommitFew rules) (system : ℕ) (before : List Record) (legal : IsLegal rules system before)
    (sent arrived : TidOf → Option ℕ) (none_sent : (tid : TidOf) → is_among tid (rules.committed system before) ≡ false → sent tid ≡ None)
    (none_arrived : (tid : TidOf) → is_among tid (received before) ≡ false → arrived tid ≡ None) where
  abbrev units : List AleUnit
  units = rules.committed system before

  -- ---- a claim ends

  ends-out : (tid : TidOf) (claim : Option ℕ) → HeldBy sent tid claim → is_free_outbound units before tid ≡ true → Ends Outgoing units before claim sent tid
  ends-out tid claim its free =
      let is = is_free-parts (done_in before) (is_marked Outgoing tid before) (heads_outbound (done_in before) units) (unit_named tid units) free in
      record {
        unit = is.0;
        named = is.1;
        outstanding = not_from_false (is_listed is.0.tid (done_in before)) is.2;
        number = its.number;
        given = its.given;
        held = its.held;
      }

  ends-in : (tid : TidOf) (claim : Option ℕ) → HeldBy arrived tid claim → is_free_inbound before tid ≡ true
      → Ends Incoming (received before) before claim arrived tid
  ends-in tid claim its free =
      let is = is_free-parts (executed before) (is_marked Incoming tid before) (heads_inbound (executed before) (received before))
      (unit_named tid (received before)) free in
      record {
        unit = is.0;
        named = is.1;
        outstanding = not_from_false (is_listed is.0.tid (executed before)) is.2;
        number = its.number;
        given = its.given;
        held = its.held;
      }

  -- a unit that may be sent is not ended: what is ended is done
  not_ended : (tid : TidOf) → is_free_outbound units before tid ≡ true → is_listed tid (ended_in before) ≡ false
  not_ended tid free =
      let is = is_free-parts (done_in before) (is_marked Outgoing tid before) (heads_outbound (done_in before) units) (unit_named tid units) free in
      let its : is.0.tid ≡ tid = (unit_named-Some tid units is.0 is.1).1 in
      let open_ : is_listed tid (done_in before) ≡ false = subst (λ t. is_listed t (done_in before) ≡ false) its is.2 in
      false_from_ne_true (is_listed tid (ended_in before)) (λ listed.
      both_ways (is_listed tid (done_in before)) open_ (ended-done rules lawful system tid before legal listed))

  -- ---- units are committed

  new-sent : (unit : AleUnit) → is_among unit.tid units ≡ false → IsNew Outgoing before sent unit
  new-sent unit new = record {
    outstanding = false_from_ne_true (is_listed unit.tid (done_in before)) (λ listed.
        both_ways (is_among unit.tid units) new (done-committed rules lawful system unit.tid before legal listed));
    unclaimed = none_sent unit.tid new;
    unmarked = unmarked-new rules lawful system unit.tid Outgoing before legal new;
  }

  module _ (next : Record) (more : List AleUnit) (follows : IsLegal rules system (before ++ next ∷ []))
      (commits : rules.committed system (before ++ next ∷ []) ≡ units ++ more) where
    apart : NoneTwice (tids_of (units ++ more))
    apart = subst (λ us. NoneTwice (tids_of us)) commits (committed-NoneTwice rules lawful system (before ++ next ∷ []) follows)

    queues-sent : (unit : AleUnit) → Contains more unit → HasQueues Outgoing unit
    queues-sent unit has =
        few.each system (before ++ next ∷ []) follows unit (subst (λ us. Contains us unit) (sym commits) (Contains-append_right units more unit has))

    all-commit : Commits units more before sent
    all-commit = record {
      apart = apart;
      new = AllByRecursion-from_places (IsNew Outgoing before sent) more (λ i unit here.
          new-sent unit (apart_from units more apart unit (Contains-at more i unit here)));
      queues = AllByRecursion-from_places (HasQueues Outgoing) more (λ i unit here. queues-sent unit (Contains-at more i unit here));
    }

    -- a record that commits nothing brings no units
    no_more : is_commit next ≡ false → more ≡ []
    no_more plain = append_cancel_left units more [] (sym commits ∙ lawful.commits_nothing system before next plain ∙ sym (append-nil units))

  -- ---- a unit is taken in

  takes : (unit : AleUnit) → is_new system before unit ≡ true → Takes before unit
  takes unit new =
      let fresh : is_among unit.tid (received before) ≡ false =
      not-true (is_among unit.tid (received before)) (and_parts (unit.receiver == system) (not (is_among unit.tid (received before))) new).1 in
      record {
        not_received = fresh;
        not_forgotten = false_from_ne_true (is_listed unit.tid (forgotten_in before)) (λ listed.
            both_ways (is_among unit.tid (received before)) fresh (forgotten-received rules lawful system unit.tid before legal listed));
      }

  accepts : (unit : AleUnit) → is_new system before unit ≡ true → HasQueues Incoming unit → Accepts before arrived unit
  accepts unit new queues =
      let take = takes unit new in
      record {
        takes = take;
        new = record {
          outstanding = false_from_ne_true (is_listed unit.tid (executed before)) (λ listed.
              both_ways (is_among unit.tid (received before)) take.not_received (executed-received rules lawful system unit.tid before legal listed));
          unclaimed = none_arrived unit.tid take.not_received;
          unmarked = unmarked-new rules lawful system unit.tid Incoming before legal take.not_received;
        };
        queues = queues;
      }

  -- ---- a record

  sending : (next : Record) (more : List AleUnit) (claim : Option ℕ) → may_follow rules system before next ≡ true
      → rules.committed system (before ++ next ∷ []) ≡ units ++ more → IsEnding next claim sent arrived → JoinsSent units more before claim sent next
  sending (log.Commit origin docs) more claim may commits ends =
      all-commit (log.Commit origin docs) more (IsLegal-push rules system before (log.Commit origin docs) legal may) commits
  sending log.Dispatch more claim may commits ends = all-commit log.Dispatch more (IsLegal-push rules system before log.Dispatch legal may) commits
  sending (log.Done tid) more claim may commits ends =
      let free = others rules system before (log.Done tid) refl may in (
        no_more (log.Done tid) more (IsLegal-push rules system before (log.Done tid) legal may) commits refl,
        ends-out tid claim ends free,
        not_ended tid free,
      )
  sending (log.Mark tid cause) more claim may commits ends = (
    no_more (log.Mark tid cause) more (IsLegal-push rules system before (log.Mark tid cause) legal may) commits refl,
    ends-out tid claim ends (others rules system before (log.Mark tid cause) refl may),
  )
  sending next more claim may commits ends = no_more next more (IsLegal-push rules system before next legal may) commits refl

  receiving : (next : Record) (claim : Option ℕ) → may_follow rules system before next ≡ true → IsProper next → IsEnding next claim sent arrived
      → JoinsArrived before claim arrived next
  receiving (log.Accept unit) claim may proper ends =
      accepts unit (and_parts (is_new system before unit) (not (is_empty unit.inq)) (others rules system before (log.Accept unit) refl may)).0 proper
  receiving (log.Direct unit) claim may proper ends =
      takes unit (and_parts (is_new system before unit) (is_empty unit.inq)
      (and_parts (is_new system before unit && is_empty unit.inq) (rules.offers system before unit.function)
      (others rules system before (log.Direct unit) refl may)).0).0
  receiving (log.Execute tid) claim may proper ends =
      ends-in tid claim ends (and_parts (is_free_inbound before tid) (offers_received rules system before tid)
      (others rules system before (log.Execute tid) refl may)).0
  receiving (log.Fail tid) claim may proper ends =
      ends-in tid claim ends (and_parts (is_free_inbound before tid) (not (offers_received rules system before tid))
      (others rules system before (log.Fail tid) refl may)).0
  receiving next claim may proper ends = tt

  -- a record that may follow a legal log joins its tables, where the claim that it ends is held
  pub joins-legal : (next : Record) (more : List AleUnit) (claim : Option ℕ) → may_follow rules system before next ≡ true → IsProper next
      → rules.committed system (before ++ next ∷ []) ≡ units ++ more → IsEnding next claim sent arrived → Joins units more before claim sent arrived next
  joins-legal next more claim may proper commits ends = record {
    sending = sending next more claim may commits ends;
    receiving = receiving next claim may proper ends;
  }
