-- A late request of a unit may arrive, and what comes of it.
use Rattle.std.specs.Prelude.{find, is_some}
use Rattle.std.specs.List.{cons_option}
use Rattle.std.specs.Option.{option_map, option_map_or, option_or}
use Rattle.std.proofs.Common.{◌≡◌, ℕ, Bool, true, false, not, cond, ◌&&◌, ◌||◌, ◌==◌, Option, Some, None, List, [], ◌∷◌, ◌++◌, inl, inr, ◌⊎◌, refl, sym, ap}
use Rattle.std.proofs.Common.{subst, ◌∙◌, append_assoc}
use Rattle.std.proofs.lemmas.Bool.{cases_Bool, both_ways, eqb-true, and_parts, and_from, false_from_ne_true, not-true, not_from_false}
use Rattle.std.proofs.lemmas.List.{append-nil}
use Rattle.std.proofs.lemmas.List.Elements.{filter_map-append}
use Rattle.std.proofs.lemmas.List.Folds.{list_any-append}
use Rattle.std.proofs.Math.Bool.{or-true}
use Rattle.std.proofs.lemmas.List.Sums.{fold_push}
use Rattle.std.proofs.lemmas.Option.{same_Some}
use Rattle.ale_base.specs.Tid.{TidOf, is_tid}
use Rattle.ale_base.specs.declared.mark.Mark.{Mark as Cause}
use Rattle.ale_base.specs.declared.way.Way.TheVariants.{Outgoing}
use Rattle.ale_base.proofs.MemberLemmas.{find-Some, find-longer}
use Rattle.unit_core.specs.declared.ale_unit.AleUnit.{AleUnit}
use Rattle.unit_core.specs.declared.records.Record.{Record}
use Rattle.unit_core.specs.declared.records.Record.TheVariants as log
use Rattle.unit_core.specs.Filters.{received, done_by, done_in, forgotten_in, mark_after, mark_of, is_marked}
use Rattle.unit_core.specs.Queues.{is_listed, is_among, unit_named, heads_outbound}
use Rattle.unit_core.proofs.TidLemmas.{is_tid-true, unit_named-Some}
use Rattle.unit_core.proofs.QueueLemmas.{heads_outbound-keeps}
use Rattle.plain_queues.specs.declared.queue_key.QueueKey.{QueueKey}
use Rattle.plain_queues.specs.declared.queued_unit.QueuedUnit.{QueuedUnit}
use Rattle.plain_queues.specs.declared.not_offered.NotOffered.{NotOffered}
use Rattle.plain_queues.specs.declared.not_offered.NotOffered.TheVariants.{Unknown, Running, Failed, Stopped, Behind}
use Rattle.plain_queues.specs.Queues.{QueuesOf, head_of}
use Rattle.plain_queues.specs.Offered.{first_stopped, behind_head, first_behind, why_not_unit, why_not}
use Rattle.plain_queues.specs.LogQueues.{queued}
use Rattle.plain_queues.proofs.GoesLemmas.{unit_of-log}
use Rattle.trfc_protocol.specs.declared.world.World.{World}
use Rattle.trfc_protocol.specs.declared.held.Held.{Held}
use Rattle.trfc_protocol.specs.declared.held.HeldKind.TheVariants.{Out}
use Rattle.trfc_protocol.specs.Meaning.{Meaning}
use Rattle.trfc_protocol.specs.Legal.{may_follow, AllFollow, IsLegal, IsLawful}
use Rattle.trfc_protocol.specs.Worlds.{log_of, committed_by, committed_unit, is_kind}
use Rattle.trfc_protocol.specs.Offered.{heads_at_sender, may_arrive}
use Rattle.trfc_protocol.specs.Safe.{Safe}
use Rattle.trfc_protocol.proofs.ClaimLemmas.{is_kind-true}
use Rattle.trfc_protocol.proofs.LegalLemmas.{IsLegal-push, committed-grows, is_free-parts}
use Rattle.trfc_protocol.proofs.SafeLemmas.{sound_now, committed_unit-is}
use Rattle.trfc_protocol.proofs.ReplyingLemmas.{out_parts}
use Rattle.trfc_protocol.proofs.ForCallers.{forgotten_unit}
use Rattle.unit_landscape.specs.Claims.{is_at, claim_at}
use Rattle.system_tables.specs.Tables.{TablesOf}
use Rattle.unit_landscape.specs.LogAnswers.{AreTablesNow}
use Rattle.unit_landscape.specs.Late.{is_of_loss, is_lost, IsLate, is_marked_lost}

-- ---- a unit that is marked and not done heads its queues

module _ (rules : Meaning) (lawful : IsLawful rules) (system : ℕ) (tid : TidOf) where
  -- the unit of the id heads its outbound queues
  record Heads (log : List Record) : Type 0 where
    unit : AleUnit
    named : unit_named tid (rules.committed system log) ≡ Some unit
    heads : heads_outbound (done_in log) (rules.committed system log) unit ≡ true

  -- an id is not marked, or it is done, or its unit heads its queues
  abbrev IsReady : List Record → Type 0
  IsReady log = (mark_of Outgoing tid log ≡ None) ⊎ ((is_listed tid (done_in log) ≡ true) ⊎ Heads log)

  done-push : (log : List Record) (next : Record) → done_in (log ++ next ∷ []) ≡ done_in log ++ cons_option (done_by next) []
  done-push log next = filter_map-append done_by log (next ∷ [])

  -- more records leave the head of its queues there, unless it is done
  Heads-push : (log : List Record) (next : Record) → IsLegal rules system log → may_follow rules system log next ≡ true → Heads log
      → (is_listed tid (done_in (log ++ next ∷ [])) ≡ true) ⊎ Heads (log ++ next ∷ [])
  Heads-push log next legal may is =
      let more = cons_option (done_by next) [] in
      let its : is.unit.tid ≡ tid = (unit_named-Some tid (rules.committed system log) is.unit is.named).1 in
      let longer = committed-grows rules lawful system log legal next may in
      let grown : rules.committed system log ++ longer.0 ≡ rules.committed system (log ++ next ∷ []) = longer.1 in
      elim (cases_Bool (is_listed tid more)) [
        | inl listed ↦ inl (ap (is_listed tid) (done-push log next) ∙ list_any-append (λ t. is_tid t tid) (done_in log) more
            ∙ ap (λ b. is_listed tid (done_in log) || b) listed ∙ or-true (is_listed tid (done_in log)))
        | inr other ↦ inr (record {
          unit = is.unit;
          named = subst (λ units. unit_named tid units ≡ Some is.unit) grown
              (find-longer (λ u. is_tid u.tid tid) (rules.committed system log) longer.0 is.unit is.named);
          heads = subst (λ tids. heads_outbound tids (rules.committed system (log ++ next ∷ [])) is.unit ≡ true) (sym (done-push log next))
              (subst (λ units. heads_outbound (done_in log ++ more) units is.unit ≡ true) grown
              (heads_outbound-keeps (done_in log) more (rules.committed system log) longer.0 is.unit
              (subst (λ t. is_listed t more ≡ false) (sym its) other) is.heads));
        })
      ]

  -- a unit that a Mark may follow heads its queues
  marked-heads : (before : List Record) (cause : Cause) → may_follow rules system before (log.Mark tid cause) ≡ true → Heads before
  marked-heads [] cause may = cc
  marked-heads (first ∷ rest) cause may =
      let l = first ∷ rest in
      let units = rules.committed system l in
      let is = is_free-parts (done_in l) (is_marked Outgoing tid l) (heads_outbound (done_in l) units) (unit_named tid units) may in
      record { unit = is.0; named = is.1; heads = is.4 }

  no_mark : (b : Bool) → cond {A = Option Cause} b None None ≡ None
  no_mark true = refl
  no_mark false = refl

  -- a record marks no id, or its unit heads its queues
  marks : (before : List Record) (next : Record) → may_follow rules system before next ≡ true
      → (mark_after Outgoing tid None next ≡ None) ⊎ Heads before
  marks before (log.Mark other cause) may =
      elim (cases_Bool (is_tid other tid)) [
        | inl same ↦ inr (marked-heads before cause (subst (λ t. may_follow rules system before (log.Mark t cause) ≡ true) (is_tid-true other tid same) may))
        | inr differs ↦ inl (ap (λ b. cond b (Some cause) None) differs)
      ]
  marks before (log.Retry Outgoing other) may = inl (no_mark (is_tid other tid))
  marks before _ may = inl refl

  IsReady-push : (log : List Record) (next : Record) → IsLegal rules system log → may_follow rules system log next ≡ true → IsReady log
      → IsReady (log ++ next ∷ [])
  IsReady-push log next legal may (inl none) =
      elim (marks log next may) [
        | inl stays ↦ inl (fold_push (mark_after Outgoing tid) None log next ∙ ap (λ mark. mark_after Outgoing tid mark next) none ∙ stays)
        | inr heads ↦ inr (Heads-push log next legal may heads)
      ]
  IsReady-push log next legal may (inr (inl done)) =
      inr (inl (ap (is_listed tid) (done-push log next) ∙ list_any-append (λ t. is_tid t tid) (done_in log) (cons_option (done_by next) [])
      ∙ ap (λ b. b || is_listed tid (cons_option (done_by next) [])) done))
  IsReady-push log next legal may (inr (inr heads)) = inr (Heads-push log next legal may heads)

  IsReady-on : (before after : List Record) → IsLegal rules system before → AllFollow rules system before after → IsReady before → IsReady (before ++ after)
  IsReady-on before [] legal all is = subst IsReady (sym (append-nil before)) is
  IsReady-on before (next ∷ rest) legal all is =
      subst IsReady (append_assoc before (next ∷ []) rest)
      (IsReady-on (before ++ next ∷ []) rest (IsLegal-push rules system before next legal all.0) all.1 (IsReady-push before next legal all.0 is))

  -- a unit that is marked by a legal log and is not done heads its queues
  pub lost-heads : (log : List Record) (unit : AleUnit) → IsLegal rules system log → is_some (mark_of Outgoing tid log) ≡ true
      → is_listed tid (done_in log) ≡ false
      → unit_named tid (rules.committed system log) ≡ Some unit → heads_outbound (done_in log) (rules.committed system log) unit ≡ true
  lost-heads log unit legal marked open_ named =
      elim (IsReady-on [] log tt legal (inl refl)) [
        | inl none ↦ absurd (both_ways (is_some (mark_of Outgoing tid log)) (ap is_some none) marked)
        | inr more ↦ elim more [
          | inl done ↦ absurd (both_ways (is_listed tid (done_in log)) open_ done)
          | inr heads ↦ subst (λ u. heads_outbound (done_in log) (rules.committed system log) u ≡ true)
              (same_Some heads.unit unit (sym heads.named ∙ named)) heads.heads
        ]
      ]

-- a mark of a loss is a mark
of_loss-some : (mark : Option Cause) → is_of_loss mark ≡ true → is_some mark ≡ true
of_loss-some (Some cause) is = refl
of_loss-some None is = cc

-- a unit that is lost may arrive
pub late_may_arrive : {R : Type 0} (rules : Meaning) → IsLawful rules → (world : World R) → Safe rules world → (tid : TidOf) (unit : AleUnit)
    → IsLate rules world tid unit
    → may_arrive rules world unit ≡ true
late_may_arrive rules lawful world safe tid unit late =
    let l = log_of world tid.system in
    let parts = and_parts (is_of_loss (mark_of Outgoing tid l)) (not (is_listed tid (done_in l))) late.lost in
    let open_ = not-true (is_listed tid (done_in l)) parts.1 in
    let its : unit.tid ≡ tid = (committed_unit-is rules lawful world safe tid unit late.committed).1 in
    let forgotten = is_listed unit.tid (forgotten_in (log_of world unit.receiver)) in
    let fresh : forgotten ≡ false = false_from_ne_true forgotten (λ listed.
    both_ways (is_listed tid (done_in l)) open_
    (subst (λ (t : TidOf). is_listed t (done_in (log_of world t.system)) ≡ true) its
    (forgotten_unit rules lawful world safe unit.receiver unit.tid listed))) in
    let heads : heads_at_sender rules world unit ≡ true =
    subst (λ (t : TidOf). heads_outbound (done_in (log_of world t.system)) (committed_by rules world t.system) unit ≡ true) (sym its)
    (lost-heads rules lawful tid.system tid l unit ((sound_now rules lawful world safe).legal tid.system)
    (of_loss-some (mark_of Outgoing tid l) parts.0) open_ late.committed) in
    and_from (not forgotten) (is_among unit.tid (received (log_of world unit.receiver)) || heads_at_sender rules world unit)
    (not_from_false forgotten fresh)
    (ap (λ b. is_among unit.tid (received (log_of world unit.receiver)) || b) heads ∙ or-true (is_among unit.tid (received (log_of world unit.receiver))))

-- ---- by the tables

stopped_kept : (found : Option QueueKey) → is_marked_lost (option_map Stopped found) ≡ false
stopped_kept None = refl
stopped_kept (Some key) = refl

or_kept : (a b : Option NotOffered) → is_marked_lost a ≡ false → is_marked_lost b ≡ false → is_marked_lost (option_or a b) ≡ false
or_kept None b first second = second
or_kept (Some why) b first second = first

head_kept : (b : Bool) (key : QueueKey) (other : TidOf) → is_marked_lost (cond b None (Some (Behind key other))) ≡ false
head_kept true key other = refl
head_kept false key other = refl

behind_one : (tid : TidOf) (key : QueueKey) (found : Option QueuedUnit) → is_marked_lost (behind_head tid key found) ≡ false
behind_one tid key None = refl
behind_one tid key (Some head) = head_kept (is_tid head.tid tid) key head.tid

behind_kept : (tid : TidOf) (queues : QueuesOf) (keys : List QueueKey) → is_marked_lost (first_behind tid queues keys) ≡ false
behind_kept tid queues [] = refl
behind_kept tid queues (key ∷ keys) =
    or_kept (behind_head tid key (head_of key queues)) (first_behind tid queues keys) (behind_one tid key (head_of key queues)) (behind_kept tid queues keys)

reasons : (claim : Option ℕ) (mark : Option Cause) (rest : Option NotOffered) → is_marked_lost rest ≡ false → ((n : ℕ) → claim ≡ Some n → mark ≡ None)
    → is_marked_lost (option_or (option_map Running claim) (option_or (option_map Failed mark) rest)) ≡ is_of_loss mark
reasons None (Some cause) rest kept none = refl
reasons None None rest kept none = kept
reasons (Some n) mark rest kept none = sym (ap is_of_loss (none n refl))

-- a unit in a queue is marked CPICERR, and no claim hides it
unit_lost : (queues : QueuesOf) (unit : QueuedUnit) → ((n : ℕ) → unit.claim ≡ Some n → unit.mark ≡ None)
    → is_marked_lost (why_not_unit queues unit) ≡ is_of_loss unit.mark
unit_lost queues unit none =
    reasons unit.claim unit.mark (option_or (first_stopped queues unit.keys) (first_behind unit.tid queues unit.keys))
    (or_kept (first_stopped queues unit.keys) (first_behind unit.tid queues unit.keys) (stopped_kept _) (behind_kept unit.tid queues unit.keys)) none

and_false : (b : Bool) → (b && false) ≡ false
and_false true = refl
and_false false = refl

and_true : (b : Bool) → (b && true) ≡ b
and_true true = refl
and_true false = refl

unmarked : (mark : Option Cause) → is_some mark ≡ false → mark ≡ None
unmarked None is = refl
unmarked (Some cause) is = cc

module _ {R : Type 0} (rules : Meaning) (lawful : IsLawful rules) (world : World R) (safe : Safe rules world) where
  -- a unit that is claimed to be shipped is not marked
  claimed_unmarked : (system : ℕ) (tid : TidOf) (n : ℕ) → claim_at Out system world.claims tid ≡ Some n → mark_of Outgoing tid (log_of world system) ≡ None
  claimed_unmarked system tid n claimed = at (find (is_at Out system tid) world.claims) refl claimed
    where
      at : (found : Option Held) → find (is_at Out system tid) world.claims ≡ found → option_map (λ (held : Held). held.number) found ≡ Some n
          → mark_of Outgoing tid (log_of world system) ≡ None
      at None is some = cc
      at (Some held) is some =
          let got = find-Some (is_at Out system tid) world.claims held is in
          let parts = and_parts (is_kind held.kind Out && (held.system == system)) (is_tid held.tid tid) got.1 in
          let more = and_parts (is_kind held.kind Out) (held.system == system) parts.0 in
          let here : held.system ≡ system = eqb-true held.system system more.1 in
          let its : held.tid ≡ tid = is_tid-true held.tid tid parts.1 in
          let out = out_parts rules lawful world safe held got.0 (is_kind-true held.kind Out more.0) in
          let l = log_of world held.system in
          let free = is_free-parts (done_in l) (is_marked Outgoing held.tid l) (heads_outbound (done_in l) (rules.committed held.system l))
          (unit_named held.tid (rules.committed held.system l)) out.1 in
          subst (λ t. mark_of Outgoing t (log_of world system) ≡ None) its
          (subst (λ s. mark_of Outgoing held.tid (log_of world s) ≡ None) here (unmarked (mark_of Outgoing held.tid l) free.3))

  -- the tables say of a committed unit whether it is lost
  pub lost-table : {A : Type 0} (stands : A → List Record → Type 0) (tid : TidOf) (unit : AleUnit) (its : TablesOf A)
      → AreTablesNow stands rules world tid.system its
      → committed_unit rules world tid ≡ Some unit → is_marked_lost (why_not tid its.outgoing) ≡ is_lost world tid
  lost-table stands tid unit its are named =
      let l = log_of world tid.system in
      let all = committed_by rules world tid.system in
      let claims = claim_at Out tid.system world.claims in
      let asked = λ (found : Option QueuedUnit). is_marked_lost (option_map_or (why_not_unit its.outgoing) found (Some Unknown)) in
      let found = unit_of-log Outgoing all l claims its.outgoing tid are.outgoing in
      elim (cases_Bool (is_listed tid (done_in l))) [
        | inl listed ↦
            ap asked (found ∙ ap (λ b. option_map (queued Outgoing l claims) (cond (not b) (unit_named tid all) None)) listed)
            ∙ sym (ap (λ b. is_of_loss (mark_of Outgoing tid l) && not b) listed ∙ and_false (is_of_loss (mark_of Outgoing tid l)))
        | inr fresh ↦
            let same : unit.tid ≡ tid = (committed_unit-is rules lawful world safe tid unit named).1 in
            ap asked (found ∙ ap (λ b. option_map (queued Outgoing l claims) (cond (not b) (unit_named tid all) None)) fresh
            ∙ ap (option_map (queued Outgoing l claims)) named)
            ∙ unit_lost its.outgoing (queued Outgoing l claims unit) (claimed_unmarked tid.system unit.tid)
            ∙ ap (λ t. is_of_loss (mark_of Outgoing t l)) same
            ∙ sym (ap (λ b. is_of_loss (mark_of Outgoing tid l) && not b) fresh ∙ and_true (is_of_loss (mark_of Outgoing tid l)))
      ]

-- what is there
pub some_there : {X : Type 0} (found : Option X) → is_some found ≡ true → (x : X) × (found ≡ Some x)
some_there None is = cc
some_there (Some x) is = (x, refl)
