-- A safe world stays safe where a unit is claimed by its receiver, executed or failed, and where a direct run ends.
use Rattle.std.specs.Prelude.{Contains}
use Rattle.std.specs.Option.{option_and_then, option_map_or}
use Rattle.std.proofs.Common.{◌≡◌, ◌≢◌, ℕ, ◌==◌, true, false, not, ◌&&◌, Option, Some, None, List, [], ◌∷◌, refl, sym, ap, subst, ◌∙◌}
use Rattle.std.proofs.lemmas.Bool.{cond_both, and_parts, and_from, both_ways, not-true, not_from_false, eq-eqb}
use Rattle.std.proofs.lemmas.Option.{same_Some, none-some}
use Rattle.ale_base.specs.Tid.{TidOf}
use Rattle.ale_base.specs.declared.mark.Mark.TheVariants.{Sysfail}
use Rattle.ale_base.specs.declared.way.Way.TheVariants.{Incoming}
use Rattle.unit_core.specs.declared.ale_unit.AleUnit.{AleUnit}
use Rattle.unit_core.specs.declared.records.Record.TheVariants as log
use Rattle.unit_core.specs.Filters.{received, executed, is_marked}
use Rattle.unit_core.specs.Queues.{is_listed, is_among, unit_named, heads_inbound}
use Rattle.ale_base.proofs.MemberLemmas.{Contains-filter_back}
use Rattle.unit_core.proofs.TidLemmas.{is_among-Contains, unit_named-Some}
use Rattle.unit_core.proofs.InsideLemmas.{MayExecute}
use Rattle.trfc_protocol.specs.declared.world.World.{World}
use Rattle.trfc_protocol.specs.declared.held.Held.{Held}
use Rattle.trfc_protocol.specs.declared.held.HeldKind.{HeldKind}
use Rattle.trfc_protocol.specs.declared.held.HeldKind.TheVariants.{Out, In, Direct}
use Rattle.trfc_protocol.specs.Meaning.{Meaning}
use Rattle.trfc_protocol.specs.Legal.{is_empty, offers_that_of, is_new, offers_received, is_free_inbound, IsLawful}
use Rattle.trfc_protocol.specs.Worlds.{log_of, is_up, committed_by, committed_unit, offers_now, with_record, with_claim, without_claim, is_claimed, claim_of}
use Rattle.trfc_protocol.specs.Offered.{is_stopped_inbound, may_move, heads_at_sender, offers_received_now}
use Rattle.trfc_protocol.specs.RecordOf.{record_of_run, record_of_work, record_of_failure}
use Rattle.trfc_protocol.specs.Happens.{after_run, ends_with}
use Rattle.trfc_protocol.specs.Safe.{is_due, Holds, Safe}
use Rattle.trfc_protocol.proofs.WorldLemmas.{is_up-known, offers_now-known}
use Rattle.trfc_protocol.proofs.LegalLemmas.{is_free-parts, MayJoin-plain, MayJoin-direct, MayJoin-execute}
use Rattle.trfc_protocol.proofs.SafeLemmas.{MayWrite, IsRun-due, hold, committed_unit-is, received-is, may_follow-up}
use Rattle.trfc_protocol.proofs.NextLemmas.{IsNext, Next-with_claim, Next-closed, not_marked, other_than, spares_all, stays}
use Rattle.trfc_protocol.proofs.SendingLemmas.{may_take}

-- a list that the test takes for empty
is_empty-nil : {A : Type 0} (xs : List A) → is_empty xs ≡ true → xs ≡ []
is_empty-nil [] is = refl
is_empty-nil (x ∷ xs) is = cc

module _ {R : Type 0} (rules : Meaning) (lawful : IsLawful rules) (world : World R) (safe : Safe rules world) where
  abbrev Next : World R → Type 0
  Next after = IsNext rules world after

  -- a unit is claimed by its receiver
  pub Next-claims_inbound : (tid : TidOf) (found : Option AleUnit) → Next (option_map_or (after_run world tid) found world)
  Next-claims_inbound tid None = stays rules lawful world safe
  Next-claims_inbound tid (Some unit) =
      let up = is_up world unit.receiver in
      let free = is_free_inbound (log_of world unit.receiver) tid in
      let idle = not (is_claimed In tid world.claims) in
      let moves = may_move (is_stopped_inbound (log_of world unit.receiver)) (unit_named tid (received (log_of world unit.receiver))) in
      cond_both (up && free && idle && moves) (with_claim world tid unit.receiver In) world Next
      (λ pass.
      let a = and_parts (up && free && idle) moves pass in
      let b = and_parts (up && free) idle a.0 in
      let c = and_parts up free b.0 in
      Next-with_claim rules lawful world safe tid unit.receiver In c.0 c.1 (not-true (is_claimed In tid world.claims) b.1))
      (λ _. stays rules lawful world safe)

  -- what a system offers, by its log
  offers_as : (system : ℕ) (found : Option AleUnit) → is_up world system ≡ true
      → offers_that_of (offers_now rules world system) found ≡ offers_that_of (rules.offers system (log_of world system)) found
  offers_as system None up = refl
  offers_as system (Some unit) up = let known = is_up-known world system up in offers_now-known world rules system known.0 unit.function known.1

  -- a unit that may be executed was received, and heads its inbound queues
  may_execute : (system : ℕ) (tid : TidOf) → is_free_inbound (log_of world system) tid ≡ true → MayExecute (log_of world system) tid
  may_execute system tid free =
      let l = log_of world system in
      let is = is_free-parts (executed l) (is_marked Incoming tid l) (heads_inbound (executed l) (received l)) (unit_named tid (received l)) free in
      record {
        unit = is.0;
        named = is.1;
        open_ = subst (λ t. is_listed t (executed l) ≡ false) (unit_named-Some tid (received l) is.0 is.1).1 is.2;
        heads = is.4;
      }

  -- the unit of an inbound claim was received
  pub in_received : (held : Held) → Holds rules world held → held.kind ≡ In
      → (unit : AleUnit) × Contains (received (log_of world held.system)) unit × (unit.tid ≡ held.tid)
  in_received held holds kind =
      let l = log_of world held.system in
      let free : is_free_inbound l held.tid ≡ true = subst (λ k. is_due rules world held k ≡ true) kind holds.due in
      let is = is_free-parts (executed l) (is_marked Incoming held.tid l) (heads_inbound (executed l) (received l)) (unit_named held.tid (received l)) free in
      let named = unit_named-Some held.tid (received l) is.0 is.1 in
      (is.0, named.0, named.1)

  -- the unit of an inbound claim is free
  in_free : (held : Held) → Contains world.claims held → held.kind ≡ In → is_free_inbound (log_of world held.system) held.tid ≡ true
  in_free held has kind = subst (λ k. is_due rules world held k ≡ true) kind (hold rules lawful world safe held has).due

  -- a unit that was taken in is executed
  pub writes-execute : (held : Held) → Contains world.claims held → held.kind ≡ In → offers_received_now rules world held.system held.tid ≡ true
      → MayWrite rules world held.system (log.Execute held.tid)
  writes-execute held has kind offers =
      let up = (hold rules lawful world safe held has).up in
      let l = log_of world held.system in
      let free = in_free held has kind in
      record {
        up = up;
        may = may_follow-up rules lawful world safe held.system (log.Execute held.tid) up
            (and_from (is_free_inbound l held.tid) (offers_received rules held.system l held.tid) free
            (sym (offers_as held.system (unit_named held.tid (received l)) up) ∙ offers));
        join = MayJoin-execute (committed_by rules world) (log_of world) held.system held.tid (may_execute held.system held.tid free);
      }

  Next-executes : (held : Held) → Contains world.claims held → claim_of held.number world.claims ≡ Some held → held.kind ≡ In
      → offers_received_now rules world held.system held.tid ≡ true
      → Next (with_record (without_claim world held.number) held.system (log.Execute held.tid))
  Next-executes held has found kind offers =
      Next-closed rules lawful world safe held held.system (log.Execute held.tid) (writes-execute held has kind offers)
      (λ other there. record {
        out = λ k here. (λ t same. absurd (none-some t same), refl);
        in_ = λ k here. (λ t same its. other_than rules lawful world safe held other found there (k ∙ sym kind) (same_Some held.tid t same ∙ its), refl);
        direct = λ k. (λ t same. absurd (none-some t same), λ u same here. absurd (none-some u same), λ here. refl);
      })

  -- a unit that was taken in fails
  pub writes-fail : (held : Held) → Contains world.claims held → held.kind ≡ In → offers_received_now rules world held.system held.tid ≡ false
      → MayWrite rules world held.system (log.Fail held.tid)
  writes-fail held has kind offers =
      let up = (hold rules lawful world safe held has).up in
      let l = log_of world held.system in
      record {
        up = up;
        may = may_follow-up rules lawful world safe held.system (log.Fail held.tid) up
            (and_from (is_free_inbound l held.tid) (not (offers_received rules held.system l held.tid)) (in_free held has kind)
            (not_from_false (offers_received rules held.system l held.tid)
            (sym (offers_as held.system (unit_named held.tid (received l)) up) ∙ offers)));
        join = MayJoin-plain (committed_by rules world) (log_of world) held.system (log.Fail held.tid) refl refl refl refl refl;
      }

  Next-fails : (held : Held) → Contains world.claims held → claim_of held.number world.claims ≡ Some held → held.kind ≡ In
      → offers_received_now rules world held.system held.tid ≡ false
      → Next (with_record (without_claim world held.number) held.system (log.Fail held.tid))
  Next-fails held has found kind offers =
      Next-closed rules lawful world safe held held.system (log.Fail held.tid) (writes-fail held has kind offers)
      (λ other there. spares_all held.system (log.Fail held.tid) other refl refl refl refl (λ _. refl)
      (λ k. (not_marked Incoming other.tid held.tid Sysfail (other_than rules lawful world safe held other found there (k ∙ sym kind))).1))

  -- no inbound claim has the unit of a direct run, since it was not received
  no_inbound : (unit : AleUnit) (system : ℕ) → committed_unit rules world unit.tid ≡ Some unit → unit.receiver ≡ system
      → is_among unit.tid (received (log_of world system)) ≡ false
      → (other : Held) → Contains world.claims other → other.kind ≡ In → unit.tid ≢ other.tid
  no_inbound unit system named receiver new other has kind same =
      let got = in_received other (hold rules lawful world safe other has) kind in
      let is = received-is rules lawful world safe other.system got.0 got.1 in
      let its : got.0.tid ≡ unit.tid = got.2 ∙ sym same in
      let equal : got.0 ≡ unit = same_Some got.0 unit (sym (subst (λ t. committed_unit rules world t ≡ Some got.0) its is.1) ∙ named) in
      let there : other.system ≡ system = sym is.0 ∙ ap (λ (u : AleUnit). u.receiver) equal ∙ receiver in
      both_ways (is_among unit.tid (received (log_of world system))) new
      (is_among-Contains unit (received (log_of world system))
      (subst (λ s. Contains (received (log_of world s)) unit) there (subst (Contains (received (log_of world other.system))) equal got.1)))

  -- what the claim of a direct run says of its unit
  run_parts : (held : Held) → Contains world.claims held → held.kind ≡ Direct → (unit : AleUnit) → committed_unit rules world held.tid ≡ Some unit
      → (unit.tid ≡ held.tid) × (unit.receiver ≡ held.system) × (is_empty unit.inq ≡ true)
      × (is_among unit.tid (received (log_of world held.system)) ≡ false) × (heads_at_sender rules world unit ≡ true)
  run_parts held has kind unit named =
      let l = log_of world held.system in
      let run = IsRun-due rules world held.system held.tid (subst (λ k. is_due rules world held k ≡ true) kind (hold rules lawful world safe held has).due) in
      let equal : run.unit ≡ unit = same_Some run.unit unit (sym run.named ∙ named) in (
        (committed_unit-is rules lawful world safe held.tid unit named).1,
        subst (λ (u : AleUnit). u.receiver ≡ held.system) equal run.receiver,
        subst (λ (u : AleUnit). is_empty u.inq ≡ true) equal run.direct,
        subst (λ (u : AleUnit). is_among u.tid (received l) ≡ false) equal run.new,
        subst (λ (u : AleUnit). heads_at_sender rules world u ≡ true) equal run.heads,
      )

  -- a direct run ends
  pub writes-direct : (held : Held) → Contains world.claims held → held.kind ≡ Direct → (unit : AleUnit) → committed_unit rules world held.tid ≡ Some unit
      → offers_now rules world held.system unit.function ≡ true → MayWrite rules world held.system (log.Direct unit)
  writes-direct held has kind unit named offers =
      let up = (hold rules lawful world safe held has).up in
      let l = log_of world held.system in
      let is = run_parts held has kind unit named in
      let known = is_up-known world held.system up in
      record {
        up = up;
        may = may_follow-up rules lawful world safe held.system (log.Direct unit) up
            (and_from (is_new held.system l unit && is_empty unit.inq) (rules.offers held.system l unit.function)
            (and_from (is_new held.system l unit) (is_empty unit.inq)
            (and_from (unit.receiver == held.system) (not (is_among unit.tid (received l))) (eq-eqb unit.receiver held.system is.1)
            (not_from_false (is_among unit.tid (received l)) is.3))
            is.2)
            (sym (offers_now-known world rules held.system known.0 unit.function known.1) ∙ offers));
        join = MayJoin-direct (committed_by rules world) (log_of world) held.system unit
            (may_take rules lawful world safe held.tid unit held.system named is.1 is.3 is.4) (is_empty-nil unit.inq is.2);
      }

  Next-ends_run : (held : Held) → Contains world.claims held → claim_of held.number world.claims ≡ Some held → held.kind ≡ Direct → (unit : AleUnit)
      → committed_unit rules world held.tid ≡ Some unit → offers_now rules world held.system unit.function ≡ true
      → Next (with_record (without_claim world held.number) held.system (log.Direct unit))
  Next-ends_run held has found kind unit named offers =
      let is = run_parts held has kind unit named in
      let its : unit.tid ≡ held.tid = is.0 in
      Next-closed rules lawful world safe held held.system (log.Direct unit) (writes-direct held has kind unit named offers)
      (λ other there. record {
        out = λ k here. (λ t same. absurd (none-some t same), refl);
        in_ = λ k here. (
          λ t same its_other. no_inbound unit held.system (subst (λ t. committed_unit rules world t ≡ Some unit) (sym its) named) is.1 is.3 other
              (Contains-filter_back (λ h. not (h.number == held.number)) world.claims other there).0 k (same_Some unit.tid t same ∙ its_other),
          refl,
        );
        direct = λ k. (
          λ t same. absurd (none-some t same),
          λ u same here its_other. other_than rules lawful world safe held other found there (k ∙ sym kind)
              (sym its ∙ ap (λ (v : AleUnit). v.tid) (same_Some unit u same) ∙ its_other),
          λ here. refl,
        );
      })

  -- the same where there is such a unit
  ends_run_of : (held : Held) → Contains world.claims held → claim_of held.number world.claims ≡ Some held → held.kind ≡ Direct → (found : Option AleUnit)
      → committed_unit rules world held.tid ≡ found → Next (ends_with world held (option_and_then (record_of_run rules world held) found))
  ends_run_of held has found kind None named = stays rules lawful world safe
  ends_run_of held has found kind (Some unit) named =
      cond_both (offers_now rules world held.system unit.function) (Some (record { system = held.system; next = log.Direct unit })) None
      (λ it. Next (ends_with world held it))
      (λ offers. Next-ends_run held has found kind unit named offers) (λ _. stays rules lawful world safe)

  -- the work of a claim ends, and its unit is executed
  pub Next-finishes : (held : Held) (kind : HeldKind) → Contains world.claims held → claim_of held.number world.claims ≡ Some held → held.kind ≡ kind
      → Next (ends_with world held (record_of_work rules world held kind))
  Next-finishes held In has found is =
      cond_both (offers_received_now rules world held.system held.tid) (Some (record { system = held.system; next = log.Execute held.tid })) None
      (λ it. Next (ends_with world held it))
      (λ offers. Next-executes held has found is offers) (λ _. stays rules lawful world safe)
  Next-finishes held Direct has found is = ends_run_of held has found is (committed_unit rules world held.tid) refl
  Next-finishes held Out has found is = stays rules lawful world safe

  -- the work of a claim ends, and its unit fails
  pub Next-fails_all : (held : Held) (kind : HeldKind) → Contains world.claims held → claim_of held.number world.claims ≡ Some held → held.kind ≡ kind
      → Next (ends_with world held (record_of_failure rules world held kind))
  Next-fails_all held In has found is =
      cond_both (not (offers_received_now rules world held.system held.tid)) (Some (record { system = held.system; next = log.Fail held.tid })) None
      (λ it. Next (ends_with world held it))
      (λ offers. Next-fails held has found is (not-true (offers_received_now rules world held.system held.tid) offers))
      (λ _. stays rules lawful world safe)
  Next-fails_all held Direct has found is = stays rules lawful world safe
  Next-fails_all held Out has found is = stays rules lawful world safe
