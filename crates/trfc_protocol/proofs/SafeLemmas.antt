-- A safe world stays safe where a record joins the log of one system, whatever those that are down will find.
use Rattle.std.specs.Prelude.{Contains, All}
use Rattle.std.specs.List.{cons_option}
use Rattle.std.proofs.Common.{◌≡◌, ◌≢◌, ℕ, ◌<◌, ◌≤◌, ◌==◌, Bool, true, false, not, ◌&&◌, Option, Some, None, List, [], ◌∷◌, ◌++◌, inl, inr, refl, sym, ap}
use Rattle.std.proofs.Common.{subst, ◌∙◌}
use Rattle.std.proofs.lemmas.Bool.{cases_eq, and_parts, and_from, or_from, not-true, not_from_false, eqb-true, eq-eqb}
use Rattle.std.proofs.lemmas.List.Folds.{list_any-append}
use Rattle.std.proofs.lemmas.List.Elements.{All-contains, filter_map-append}
use Rattle.ale_base.specs.Tid.{TidOf, is_tid}
use Rattle.ale_base.specs.declared.way.Way.TheVariants.{Outgoing, Incoming}
use Rattle.unit_core.specs.declared.ale_unit.AleUnit.{AleUnit}
use Rattle.unit_core.specs.declared.records.Record.{Record}
use Rattle.unit_core.specs.Filters.{taken_by, executed_by, done_by, received, done_in, mark_after}
use Rattle.unit_core.specs.Queues.{is_among, unit_named, tids_of, heads_outbound}
use Rattle.ale_base.specs.Prefix.{IsPrefix}
use Rattle.unit_core.specs.Once.{NoneTwice}
use Rattle.ale_base.proofs.MemberLemmas.{find-longer}
use Rattle.ale_base.proofs.PrefixLemmas.{IsPrefix-same}
use Rattle.unit_core.proofs.TidLemmas.{is_tid-other, unit_named-Some, unit_named-Contains}
use Rattle.unit_core.proofs.QueueLemmas.{heads_outbound-keeps}
use Rattle.unit_core.proofs.OnceLemmas.{Joins, MayJoin}
use Rattle.trfc_protocol.specs.declared.world.World.{World}
use Rattle.trfc_protocol.specs.declared.world.SystemState.{SystemState}
use Rattle.trfc_protocol.specs.declared.held.Held.{Held}
use Rattle.trfc_protocol.specs.declared.held.HeldKind.{HeldKind}
use Rattle.trfc_protocol.specs.declared.held.HeldKind.TheVariants.{Out, In, Direct}
use Rattle.trfc_protocol.specs.Meaning.{Meaning}
use Rattle.trfc_protocol.specs.Legal.{may_follow, may_follow_others, is_empty, is_model, IsUnitAt, IsLawful, is_free_outbound, is_free_inbound}
use Rattle.trfc_protocol.specs.Worlds.{state_of, log_or_none, rest_or_none, up_or_not, log_found, log_of, log_under, is_up, committed_by, committed_unit}
use Rattle.trfc_protocol.specs.Worlds.{offers_at, offers_now, state_with, with_state, with_record}
use Rattle.trfc_protocol.specs.Offered.{heads_at_sender}
use Rattle.trfc_protocol.specs.Safe.{is_direct, is_due, Holds, AreApart, Sound, Safe}
use Rattle.trfc_protocol.proofs.WorldLemmas.{state_of-least, state_of-most, is_up-known, log_found-settled, log_found-cases, offers_now-known}
use Rattle.trfc_protocol.proofs.WorldLemmas.{length-with_state, state_of-here, state_of-elsewhere, at_each_state, kept-with_state, joins-with_state}
use Rattle.trfc_protocol.proofs.WorldLemmas.{is_up-with_state}
use Rattle.trfc_protocol.proofs.LegalLemmas.{may_follow-others, offers_kept, committed-NoneTwice, committed-at, committed-grows, is_free_outbound-keeps}
use Rattle.trfc_protocol.proofs.LegalLemmas.{is_free_inbound-keeps, option_misses}
use Rattle.trfc_protocol.proofs.ClaimLemmas.{All-from_Contains}
use Rattle.trfc_protocol.proofs.SoundLemmas.{IsLonger, Sound-joins, MayJoin-further}

-- a record joins the log of a system and is not that of a claim's unit
pub record Spares (system : ℕ) (next : Record) (held : Held) : Type 0 where
  pub out : held.kind ≡ Out → held.system ≡ system
      → ((t : TidOf) → done_by next ≡ Some t → t ≢ held.tid) × (mark_after Outgoing held.tid None next ≡ None)
  pub in_ : held.kind ≡ In → held.system ≡ system
      → ((t : TidOf) → executed_by next ≡ Some t → t ≢ held.tid) × (mark_after Incoming held.tid None next ≡ None)
  pub direct : held.kind ≡ Direct
      → ((t : TidOf) → done_by next ≡ Some t → t ≢ held.tid)
      × ((unit : AleUnit) → taken_by next ≡ Some unit → held.system ≡ system → unit.tid ≢ held.tid)
      × (held.system ≡ system → is_model next ≡ false)

-- a system may write a record: it is up, and the record may follow its log and join the logs of all
pub record MayWrite {R : Type 0} (rules : Meaning) (world : World R) (system : ℕ) (next : Record) : Type 0 where
  pub up : is_up world system ≡ true
  pub may : may_follow rules system (log_of world system) next ≡ true
  pub join : MayJoin (committed_by rules world) (log_of world) system next

taken_elsewhere : (tid : TidOf) (found : Option AleUnit) → ((unit : AleUnit) → found ≡ Some unit → unit.tid ≢ tid) → is_among tid (cons_option found []) ≡ false
taken_elsewhere tid None differs = refl
taken_elsewhere tid (Some unit) differs = or_from (is_tid unit.tid tid) false (is_tid-other unit.tid tid (differs unit refl)) refl

-- the parts of what a direct claim was made for
pub record IsRun {R : Type 0} (rules : Meaning) (world : World R) (system : ℕ) (tid : TidOf) : Type 0 where
  pub unit : AleUnit
  pub named : committed_unit rules world tid ≡ Some unit
  pub receiver : unit.receiver ≡ system
  pub direct : is_empty unit.inq ≡ true
  pub offers : offers_now rules world system unit.function ≡ true
  pub new : is_among unit.tid (received (log_of world system)) ≡ false
  pub heads : heads_at_sender rules world unit ≡ true

is_direct-parts : {R : Type 0} (rules : Meaning) (world : World R) (system : ℕ) (tid : TidOf) (found : Option AleUnit) → committed_unit rules world tid ≡ found
    → is_direct rules world system found ≡ true → IsRun rules world system tid
is_direct-parts rules world system tid None named direct = cc
is_direct-parts rules world system tid (Some unit) named direct =
    let receiver = unit.receiver == system in
    let empty = is_empty unit.inq in
    let offers = offers_now rules world system unit.function in
    let new = not (is_among unit.tid (received (log_of world system))) in
    let heads = heads_at_sender rules world unit in
    let a = and_parts (receiver && empty && offers && new) heads direct in
    let b = and_parts (receiver && empty && offers) new a.0 in
    let c = and_parts (receiver && empty) offers b.0 in
    let d = and_parts receiver empty c.0 in
    record {
      unit = unit;
      named = named;
      receiver = eqb-true unit.receiver system d.0;
      direct = d.1;
      offers = c.1;
      new = not-true (is_among unit.tid (received (log_of world system))) b.1;
      heads = a.1;
    }

-- a direct run that is due has these parts
pub IsRun-due : {R : Type 0} (rules : Meaning) (world : World R) (system : ℕ) (tid : TidOf)
    → is_direct rules world system (committed_unit rules world tid) ≡ true → IsRun rules world system tid
IsRun-due rules world system tid direct = is_direct-parts rules world system tid (committed_unit rules world tid) refl direct

-- a direct run that has these parts is due
pub due-IsRun : {R : Type 0} (rules : Meaning) (world : World R) (system : ℕ) (tid : TidOf) → IsRun rules world system tid
    → is_direct rules world system (committed_unit rules world tid) ≡ true
due-IsRun rules world system tid run =
    let unit : AleUnit = run.unit in
    let receiver = unit.receiver == system in
    let empty = is_empty unit.inq in
    let offers = offers_now rules world system unit.function in
    let new = not (is_among unit.tid (received (log_of world system))) in
    ap (is_direct rules world system) run.named
    ∙ and_from (receiver && empty && offers && new) (heads_at_sender rules world unit)
    (and_from (receiver && empty && offers) new
    (and_from (receiver && empty) offers (and_from receiver empty (eq-eqb unit.receiver system run.receiver) run.direct) run.offers)
    (not_from_false (is_among unit.tid (received (log_of world system))) run.new))
    run.heads

module _ {R : Type 0} (rules : Meaning) (lawful : IsLawful rules) (world : World R) (safe : Safe rules world) where
  -- the logs as they are
  pub sound_now : Sound rules (log_of world)
  sound_now = safe.sound (λ _. false)

  -- a claim of the world holds
  pub hold : (held : Held) → Contains world.claims held → Holds rules world held
  hold held has = All-contains (Holds rules world) world.claims held safe.hold has

  -- the units that a system committed have ids that differ
  pub numbered : (system : ℕ) → NoneTwice (tids_of (committed_by rules world system))
  numbered system = committed-NoneTwice rules lawful system (log_of world system) (sound_now.legal system)

  -- a unit that a system committed has its place there
  pub committed_place : (system : ℕ) (unit : AleUnit) → Contains (committed_by rules world system) unit → (k : ℕ) × IsUnitAt rules.systems system k unit
  committed_place system unit has = committed-at rules lawful system (log_of world system) (sound_now.legal system) unit has

  -- a system that is known has a log that is begun
  pub begun : (system : ℕ) (state : SystemState) → state_of world.systems system ≡ Some state → log_of world system ≢ []
  begun system state known =
      sound_now.begun system (state_of-least world.systems system state known)
      (subst (λ n. system ≤ n) safe.systems (state_of-most world.systems system state known))

  -- a record that may follow the records behind the first may follow the log of a system that is up
  pub may_follow-up : (system : ℕ) (next : Record) → is_up world system ≡ true → may_follow_others rules system (log_of world system) next ≡ true
      → may_follow rules system (log_of world system) next ≡ true
  may_follow-up system next up may =
      let known = is_up-known world system up in
      may_follow-others rules system (log_of world system) next (begun system known.0 known.1) may

  -- a unit that is named by its id was committed by the system that the id names
  pub committed_unit-is : (tid : TidOf) (unit : AleUnit) → committed_unit rules world tid ≡ Some unit
      → Contains (committed_by rules world tid.system) unit × (unit.tid ≡ tid) × (unit.sender ≡ tid.system) × (1 ≤ unit.receiver)
      × (unit.receiver ≤ rules.systems)
  committed_unit-is tid unit named =
      let is = unit_named-Some tid (committed_by rules world tid.system) unit named in
      let at = (committed_place tid.system unit is.0).1 in
      (is.0, is.1, at.sender, at.receiver_least, at.receiver_most)

  -- a unit that a system received is the one that its id names, and is for that system
  pub received-is : (system : ℕ) (unit : AleUnit) → Contains (received (log_of world system)) unit
      → (unit.receiver ≡ system) × (committed_unit rules world unit.tid ≡ Some unit)
  received-is system unit has =
      let was = All-contains (λ (u : AleUnit). (u.receiver ≡ system) × Contains (committed_by rules world u.sender) u) (received (log_of world system)) unit
      (sound_now.once.taken_was_committed system) has in
      let at = (committed_place unit.sender unit was.1).1 in
      let from : unit.sender ≡ unit.tid.system = sym (ap (λ (t : TidOf). t.system) at.tid) in (
        was.0,
        unit_named-Contains (committed_by rules world unit.tid.system) unit (numbered unit.tid.system)
            (subst (λ s. Contains (committed_by rules world s) unit) from was.1),
      )

  -- under each choice a log is as it is, or one record longer
  pub under_longer : (choice : ℕ → Bool) (system : ℕ) → IsLonger (log_of world system) (log_under choice world system)
  under_longer choice system = log_found-cases (choice system) (state_of world.systems system)

  -- that of a system that is up is as it is
  pub under_up : (choice : ℕ → Bool) (system : ℕ) → is_up world system ≡ true → log_under choice world system ≡ log_of world system
  under_up choice system up = log_found-settled (choice system) (state_of world.systems system) (safe.settled system up)

  -- a record that a system may write leaves the logs sound, under each choice
  pub Sound-written : (system : ℕ) (next : Record) → MayWrite rules world system next → (choice : ℕ → Bool) (after : ℕ → List Record)
      → Joins (log_under choice world) after system next → Sound rules after
  Sound-written system next write choice after joins =
      let same = under_up choice system write.up in
      Sound-joins rules lawful (log_under choice world) after system next (safe.sound choice)
      (subst (λ log. may_follow rules system log next ≡ true) (sym same) write.may)
      (MayJoin-further rules lawful (log_of world) (log_under choice world) sound_now (safe.sound choice) (under_longer choice) system next same write.join)
      joins

  module _ (claims : List Held) (system : ℕ) (next : Record) (change : SystemState → SystemState) (state : SystemState)
      (known : state_of world.systems system ≡ Some state) (longer : (change state).log ≡ state.log ++ next ∷ [])
      (stays_up : state.up ≡ true → (change state).up ≡ true) (may : may_follow rules system (log_of world system) next ≡ true) where
    abbrev before : World R
    before = record world { claims = claims }

    abbrev after : World R
    after = with_state before system change

    log_here : log_of after system ≡ log_of world system ++ next ∷ []
    log_here = (joins-with_state before system change state known next longer).here

    log_elsewhere : (other : ℕ) → other ≢ system → log_of after other ≡ log_of world other
    log_elsewhere = (joins-with_state before system change state known next longer).elsewhere

    committed_elsewhere : (other : ℕ) → other ≢ system → committed_by rules after other ≡ committed_by rules world other
    committed_elsewhere other differs = ap (rules.committed other) (log_elsewhere other differs)

    offers_elsewhere : (other : ℕ) → other ≢ system → (function : List ℕ) → offers_now rules after other function ≡ offers_now rules world other function
    offers_elsewhere other differs function = ap (λ found. offers_at rules other found function)
        (state_of-elsewhere before system change state known other differs)

    -- the lists of committed units go on
    pub committed_on : (other : ℕ) → IsPrefix (committed_by rules world other) (committed_by rules after other)
    committed_on other =
        elim (cases_eq other system) [
          | inl same ↦ subst (λ s. IsPrefix (committed_by rules world s) (committed_by rules after s)) (sym same)
              (subst (λ log. IsPrefix (committed_by rules world system) (rules.committed system log)) (sym log_here)
              (committed-grows rules lawful system (log_of world system) (sound_now.legal system) next may))
          | inr differs ↦ subst (IsPrefix (committed_by rules world other)) (sym (committed_elsewhere other differs))
              (IsPrefix-same (committed_by rules world other))
        ]

    -- what is offered stays, where the record is no Model
    pub offers_on : (other : ℕ) (function : List ℕ) → (other ≡ system → is_model next ≡ false)
        → offers_now rules after other function ≡ offers_now rules world other function
    offers_on other function plain =
        elim (cases_eq other system) [
          | inl same ↦ subst (λ s. offers_now rules after s function ≡ offers_now rules world s function) (sym same)
              (offers_now-known after rules system (change state) function (state_of-here before system change state known)
              ∙ ap (λ log. rules.offers system log function) log_here
              ∙ lawful.offers_stay system (log_of world system) next function (record { legal = sound_now.legal system; may = may })
              (offers_kept rules system (log_of world system) next (begun system state known) may (plain same))
              ∙ sym (offers_now-known world rules system state function known))
          | inr differs ↦ offers_elsewhere other differs function
        ]

    -- what a claim was made for due still
    out_due : (held : Held)
        → (held.system ≡ system → ((t : TidOf) → done_by next ≡ Some t → t ≢ held.tid) × (mark_after Outgoing held.tid None next ≡ None))
        → is_due rules world held Out ≡ true → is_due rules after held Out ≡ true
    out_due held spared due =
        let parts = and_parts (held.system == held.tid.system)
        (is_free_outbound (committed_by rules world held.system) (log_of world held.system) held.tid) due in
        and_from (held.system == held.tid.system) (is_free_outbound (committed_by rules after held.system) (log_of after held.system) held.tid) parts.0
        (elim (cases_eq held.system system) [
          | inl same ↦
              let more = committed_on held.system in
              let log : log_of after held.system ≡ log_of world held.system ++ next ∷ [] = subst (λ s. log_of after s ≡ log_of world s ++ next ∷ [])
              (sym same) log_here in
              subst (λ units. is_free_outbound units (log_of after held.system) held.tid ≡ true) more.1
              (subst (λ l. is_free_outbound (committed_by rules world held.system ++ more.0) l held.tid ≡ true) (sym log)
              (is_free_outbound-keeps (committed_by rules world held.system) more.0 (log_of world held.system) next held.tid parts.1
              (spared same).0 (spared same).1))
          | inr differs ↦ subst (λ units. is_free_outbound units (log_of after held.system) held.tid ≡ true) (sym (committed_elsewhere held.system differs))
              (subst (λ l. is_free_outbound (committed_by rules world held.system) l held.tid ≡ true) (sym (log_elsewhere held.system differs)) parts.1)
        ])

    in_due : (held : Held)
        → (held.system ≡ system → ((t : TidOf) → executed_by next ≡ Some t → t ≢ held.tid) × (mark_after Incoming held.tid None next ≡ None))
        → is_due rules world held In ≡ true → is_due rules after held In ≡ true
    in_due held spared due =
        elim (cases_eq held.system system) [
          | inl same ↦ subst (λ l. is_free_inbound l held.tid ≡ true) (sym (subst (λ s. log_of after s ≡ log_of world s ++ next ∷ []) (sym same) log_here))
              (is_free_inbound-keeps (log_of world held.system) next held.tid due (spared same).0 (spared same).1)
          | inr differs ↦ subst (λ l. is_free_inbound l held.tid ≡ true) (sym (log_elsewhere held.system differs)) due
        ]

    heads_on : (unit : AleUnit) → ((t : TidOf) → done_by next ≡ Some t → t ≢ unit.tid) → heads_at_sender rules world unit ≡ true
        → heads_at_sender rules after unit ≡ true
    heads_on unit spared heads =
        elim (cases_eq unit.tid.system system) [
          | inl same ↦
              let sender = unit.tid.system in
              let more = committed_on unit.tid.system in
              let log : log_of after unit.tid.system ≡ log_of world unit.tid.system ++ next ∷ [] = subst (λ s. log_of after s ≡ log_of world s ++ next ∷ [])
              (sym same) log_here in
              let done : done_in (log_of after unit.tid.system) ≡ done_in (log_of world unit.tid.system) ++ cons_option (done_by next) [] = ap done_in log
              ∙ filter_map-append done_by (log_of world unit.tid.system) (next ∷ []) in
              subst (λ units. heads_outbound (done_in (log_of after unit.tid.system)) units unit ≡ true) more.1
              (subst (λ tids. heads_outbound tids (committed_by rules world unit.tid.system ++ more.0) unit ≡ true) (sym done)
              (heads_outbound-keeps (done_in (log_of world unit.tid.system)) (cons_option (done_by next) [])
              (committed_by rules world unit.tid.system) more.0 unit (option_misses unit.tid (done_by next) spared) heads))
          | inr differs ↦ subst (λ units. heads_outbound (done_in (log_of after unit.tid.system)) units unit ≡ true)
              (sym (committed_elsewhere unit.tid.system differs))
              (subst (λ l. heads_outbound (done_in l) (committed_by rules world unit.tid.system) unit ≡ true)
              (sym (log_elsewhere unit.tid.system differs)) heads)
        ]

    new_on : (other : ℕ) (tid : TidOf) → ((unit : AleUnit) → taken_by next ≡ Some unit → other ≡ system → unit.tid ≢ tid)
        → is_among tid (received (log_of world other)) ≡ false → is_among tid (received (log_of after other)) ≡ false
    new_on other tid spared new =
        elim (cases_eq other system) [
          | inl same ↦
              let log : log_of after other ≡ log_of world other ++ next ∷ [] = subst (λ s. log_of after s ≡ log_of world s ++ next ∷ []) (sym same) log_here in
              let units : received (log_of after other) ≡ received (log_of world other) ++ cons_option (taken_by next) [] = ap received log
              ∙ filter_map-append taken_by (log_of world other) (next ∷ []) in
              ap (is_among tid) units ∙ list_any-append (λ (u : AleUnit). is_tid u.tid tid) (received (log_of world other)) (cons_option (taken_by next) [])
              ∙ or_from (is_among tid (received (log_of world other))) (is_among tid (cons_option (taken_by next) [])) new
              (taken_elsewhere tid (taken_by next) (λ unit taken. spared unit taken same))
          | inr differs ↦ ap (λ l. is_among tid (received l)) (log_elsewhere other differs) ∙ new
        ]

    direct_due : (held : Held)
        → ((t : TidOf) → done_by next ≡ Some t → t ≢ held.tid)
        × ((unit : AleUnit) → taken_by next ≡ Some unit → held.system ≡ system → unit.tid ≢ held.tid)
        × (held.system ≡ system → is_model next ≡ false)
        → is_due rules world held Direct ≡ true → is_due rules after held Direct ≡ true
    direct_due held spared due =
        let run = IsRun-due rules world held.system held.tid due in
        let more = committed_on held.tid.system in
        let its : run.unit.tid ≡ held.tid = (unit_named-Some held.tid (committed_by rules world held.tid.system) run.unit run.named).1 in
        due-IsRun rules after held.system held.tid (record {
          unit = run.unit;
          named = ap (unit_named held.tid) (sym more.1)
              ∙ find-longer (λ (u : AleUnit). is_tid u.tid held.tid) (committed_by rules world held.tid.system) more.0 run.unit run.named;
          receiver = run.receiver;
          direct = run.direct;
          offers = offers_on held.system run.unit.function spared.2 ∙ run.offers;
          new = new_on held.system run.unit.tid (λ unit taken here same. spared.1 unit taken here (same ∙ its)) run.new;
          heads = heads_on run.unit (λ t finishes same. spared.0 t finishes (same ∙ its)) run.heads;
        })

    by_kind : (held : Held) (kind : HeldKind) → held.kind ≡ kind → Spares system next held → is_due rules world held kind ≡ true
        → is_due rules after held kind ≡ true
    by_kind held Out is spared due = out_due held (spared.out is) due
    by_kind held In is spared due = in_due held (spared.in_ is) due
    by_kind held Direct is spared due = direct_due held (spared.direct is) due

    -- the claims that the record is not of hold still
    pub All-hold : ((held : Held) → Contains claims held → Holds rules world held) → ((held : Held) → Contains claims held → Spares system next held)
        → All (Holds rules after) after.claims
    All-hold holds spared =
        let kept = kept-with_state before system change state known in
        subst (All (Holds rules after)) (sym kept.0)
        (All-from_Contains (Holds rules after) claims (λ held has.
        let was = holds held has in
        record {
          up = is_up-with_state before system change state known stays_up held.system was.up;
          due = by_kind held held.kind refl (spared held has) was.due;
          number = subst (λ n. held.number < n) (sym kept.1) was.number;
        }))

  -- the world is safe where a system writes a record, which is not that of a unit that is claimed still
  pub Safe-written : (claims : List Held) (system : ℕ) (next : Record) → MayWrite rules world system next
      → ((held : Held) → Contains claims held → Holds rules world held) → AreApart claims
      → ((held : Held) → Contains claims held → Spares system next held) → Safe rules (with_record (record world { claims = claims }) system next)
  Safe-written claims system next write holds apart spared =
      let up = is_up-known world system write.up in
      let state : SystemState = up.0 in
      let known : state_of world.systems system ≡ Some state = up.1 in
      let base : World R = record world { claims = claims } in
      let change : SystemState → SystemState = state_with next in
      let none : rest_or_none (state_of world.systems system) ≡ None = safe.settled system write.up in
      let still : state.rest ≡ None = sym (ap rest_or_none known) ∙ none in
      record {
        systems = length-with_state base system change state known ∙ safe.systems;
        sound = λ choice. Sound-written system next write choice (log_under choice (with_record base system next)) (record {
          here = ap (log_found (choice system)) (state_of-here base system change state known)
              ∙ log_found-settled (choice system) (Some (change state)) still
              ∙ sym (ap (λ log. log ++ next ∷ []) (log_found-settled (choice system) (state_of world.systems system) none ∙ ap log_or_none known));
          elsewhere = λ other differs. ap (log_found (choice other)) (state_of-elsewhere base system change state known other differs);
        });
        settled = at_each_state base system change state known (λ _ found. up_or_not found ≡ true → rest_or_none found ≡ None) (λ _. still)
            (λ other _. safe.settled other);
        hold = All-hold claims system next change state known refl (λ stays. stays) write.may holds spared;
        apart = subst AreApart (sym (kept-with_state base system change state known).0) apart;
      }
