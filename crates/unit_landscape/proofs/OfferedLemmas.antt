-- What the tables of a system offer is what the protocol offers, and what a claim of it makes of the world.
use Rattle.std.specs.Prelude.{Contains, find, is_none}
use Rattle.std.specs.Option.{option_map, option_map_or}
use Rattle.std.proofs.Common.{◌≡◌, ℕ, ◌==◌, Bool, true, false, not, cond, ◌&&◌, Option, Some, None, List, inl, inr, refl, sym, ap, subst, ◌∙◌}
use Rattle.std.proofs.lemmas.Bool.{cases_Bool, and_parts, and_from, and_right, both_ways, eq-eqb}
use Rattle.std.proofs.lemmas.Option.{same_Some}
use Rattle.ale_base.specs.Tid.{TidOf, is_tid}
use Rattle.ale_base.specs.declared.way.Way.{Way}
use Rattle.ale_base.specs.declared.way.Way.TheVariants.{Outgoing, Incoming}
use Rattle.ale_base.proofs.MemberLemmas.{find-Some, list_any-found}
use Rattle.ale_base.proofs.OptionLemmas.{option_map-Some, none_or_some}
use Rattle.unit_core.specs.declared.ale_unit.AleUnit.{AleUnit}
use Rattle.unit_core.specs.Filters.{received, executed, done_in, is_marked}
use Rattle.unit_core.specs.Queues.{is_outstanding, tids_of, unit_named, heads_outbound, heads_inbound}
use Rattle.unit_core.specs.Once.{NoneTwice}
use Rattle.unit_core.proofs.TidLemmas.{is_tid-true, unit_named-Some, unit_named-Contains}
use Rattle.plain_queues.specs.LogQueues.{HaveOneSender, units_of, may_go, is_held_up}
use Rattle.plain_queues.proofs.OfferedLemmas.{find-None}
use Rattle.trfc_protocol.specs.declared.world.World.{World}
use Rattle.trfc_protocol.specs.declared.held.Held.{Held}
use Rattle.trfc_protocol.specs.declared.held.HeldKind.{HeldKind}
use Rattle.trfc_protocol.specs.declared.held.HeldKind.TheVariants.{Out, In}
use Rattle.trfc_protocol.specs.declared.event.Event.TheVariants as event
use Rattle.trfc_protocol.specs.Meaning.{Meaning}
use Rattle.trfc_protocol.specs.Legal.{is_free, is_free_inbound, IsLawful}
use Rattle.trfc_protocol.specs.Worlds.{log_of, is_up, committed_by, committed_unit, with_claim, is_kind, is_claimed}
use Rattle.trfc_protocol.specs.Offered.{is_stopped_outbound, is_stopped_inbound, may_move, is_offered_outbound, is_offered_inbound}
use Rattle.trfc_protocol.specs.Happens.{after_run, happens}
use Rattle.trfc_protocol.specs.Safe.{Safe}
use Rattle.trfc_protocol.proofs.ClaimLemmas.{is_kind-true}
use Rattle.trfc_protocol.proofs.LegalLemmas.{is_free-parts}
use Rattle.trfc_protocol.proofs.SafeLemmas.{sound_now, hold, numbered, committed_place, received-is}
use Rattle.trfc_protocol.proofs.ExecutingLemmas.{in_received}
use Rattle.trfc_protocol.proofs.ForCallers.{shipped_by}
use Rattle.unit_landscape.specs.Claims.{is_at, claim_at, kind_of}
use Rattle.unit_landscape.proofs.ClaimsLemmas.{claim_at-none}
use Rattle.unit_landscape.specs.LogAnswers.{may_go_at, first_to_go}

-- ---- the claims on a unit

-- where each claim of a kind on a unit is at one system, none is found there exactly where no claim of the kind holds the unit
unclaimed-at : (kind : HeldKind) (system : ℕ) (tid : TidOf) (claims : List Held)
    → ((held : Held) → Contains claims held → held.kind ≡ kind → held.tid ≡ tid → held.system ≡ system)
    → is_none (claim_at kind system claims tid) ≡ not (is_claimed kind tid claims)
unclaimed-at kind system tid claims one =
    elim (cases_Bool (is_claimed kind tid claims)) [
      | inl some ↦
          let got = list_any-found (λ (held : Held). is_kind held.kind kind && is_tid held.tid tid) claims some in
          let parts = and_parts (is_kind got.0.kind kind) (is_tid got.0.tid tid) got.2 in
          let here : got.0.system ≡ system = one got.0 got.1 (is_kind-true got.0.kind kind parts.0) (is_tid-true got.0.tid tid parts.1) in
          let is : is_at kind system tid got.0 ≡ true =
          and_from (is_kind got.0.kind kind && (got.0.system == system)) (is_tid got.0.tid tid)
          (and_from (is_kind got.0.kind kind) (got.0.system == system) parts.0 (eq-eqb got.0.system system here)) parts.1 in
          elim (none_or_some (find (is_at kind system tid) claims)) [
            | inl nothing ↦ absurd (both_ways (is_at kind system tid got.0) (find-None (is_at kind system tid) claims got.0 nothing got.1) is)
            | inr found ↦ ap (λ f. is_none (option_map (λ (held : Held). held.number) f)) found.1 ∙ sym (ap not some)
          ]
      | inr none ↦ ap is_none (claim_at-none kind system tid claims none) ∙ sym (ap not none)
    ]

-- the same conjuncts in another order
in_order : (open_ idle plain heads moves : Bool) → (open_ && (idle && plain && (heads && moves))) ≡ (true && (open_ && plain && heads) && idle && moves)
in_order false idle plain heads moves = refl
in_order true true true true moves = refl
in_order true true true false moves = refl
in_order true true false heads moves = refl
in_order true false true true moves = refl
in_order true false true false moves = refl
in_order true false false heads moves = refl

-- ---- the first unit that may go

module _ {R : Type 0} (rules : Meaning) (world : World R) (system : ℕ) (way : Way) where
  abbrev units : List AleUnit
  units = units_of way (committed_by rules world system) (log_of world system)

  abbrev goes : AleUnit → Bool
  goes = may_go way units (log_of world system) (claim_at (kind_of way) system world.claims)

  -- it is there, and it may go
  first-goes : (tid : TidOf) → NoneTwice (tids_of units) → first_to_go rules world system way ≡ Some tid
      → (unit : AleUnit) × Contains units unit × (unit.tid ≡ tid) × (may_go_at rules world system way tid ≡ true)
  first-goes tid differ first =
      let got = option_map-Some (λ (unit : AleUnit). unit.tid) (find goes units) tid first in
      let found = find-Some goes units got.0 got.1 in
      let named : unit_named tid units ≡ Some got.0 =
      subst (λ t. unit_named t units ≡ Some got.0) got.2 (unit_named-Contains units got.0 differ found.0) in
      (got.0, found.0, got.2, ap (λ f. option_map_or goes f false) named ∙ found.1)

  -- where there is none, no unit may go
  none-goes : (tid : TidOf) → first_to_go rules world system way ≡ None → may_go_at rules world system way tid ≡ false
  none-goes tid none =
      elim (none_or_some (unit_named tid units)) [
        | inl nothing ↦ ap (λ f. option_map_or goes f false) nothing
        | inr is ↦ ap (λ f. option_map_or goes f false) is.1
            ∙ find-None goes units is.0 (none_found (find goes units) none) (unit_named-Some tid units is.0 is.1).0
      ]
    where
      none_found : (found : Option AleUnit) → option_map (λ (unit : AleUnit). unit.tid) found ≡ None → found ≡ None
      none_found None is = refl
      none_found (Some unit) is = cc

-- ---- by the protocol

module _ {R : Type 0} (rules : Meaning) (lawful : IsLawful rules) (world : World R) (safe : Safe rules world) where
  -- what a system committed has one sender
  pub one-sender : (way : Way) (system : ℕ) → HaveOneSender way (units_of way (committed_by rules world system) (log_of world system))
  one-sender Outgoing system = (system, λ unit has. (committed_place rules lawful world safe system unit has).1.sender)
  one-sender Incoming system = tt

  -- the ids of the units of a direction differ
  units-differ : (way : Way) (system : ℕ) → NoneTwice (tids_of (units_of way (committed_by rules world system) (log_of world system)))
  units-differ Outgoing system = numbered rules lawful world safe system
  units-differ Incoming system = (sound_now rules lawful world safe).once.taken_once system

  -- each claim to ship a unit is at the system that its id names
  shipped_at : (tid : TidOf) (held : Held) → Contains world.claims held → held.kind ≡ Out → held.tid ≡ tid → held.system ≡ tid.system
  shipped_at tid held has kind its = shipped_by rules lawful world safe held has kind ∙ ap (λ (t : TidOf). t.system) its

  -- each claim to execute a unit that a system received is at that system
  executed_at : (system : ℕ) (unit : AleUnit) → Contains (received (log_of world system)) unit
      → (held : Held) → Contains world.claims held → held.kind ≡ In → held.tid ≡ unit.tid → held.system ≡ system
  executed_at system unit there held has kind its =
      let got = in_received rules lawful world safe held (hold rules lawful world safe held has) kind in
      let one = received-is rules lawful world safe held.system got.0 got.1 in
      let other = received-is rules lawful world safe system unit there in
      let same : got.0 ≡ unit =
      same_Some got.0 unit (sym (subst (λ t. committed_unit rules world t ≡ Some got.0) (got.2 ∙ its) one.1) ∙ other.1) in
      sym one.0 ∙ ap (λ (u : AleUnit). u.receiver) same ∙ other.0

  outbound-of : (tid : TidOf) (found : Option AleUnit) → committed_unit rules world tid ≡ found → is_up world tid.system ≡ true
      → let all = committed_by rules world tid.system in let log = log_of world tid.system in
      option_map_or (may_go Outgoing all log (claim_at Out tid.system world.claims)) found false
      ≡ (is_up world tid.system && is_free (done_in log) (is_marked Outgoing tid log) (heads_outbound (done_in log) all) found
      && not (is_claimed Out tid world.claims) && may_move (is_stopped_outbound log) found)
  outbound-of tid None named up =
      let all = committed_by rules world tid.system in
      let log = log_of world tid.system in
      sym (and_right
      (is_up world tid.system && is_free (done_in log) (is_marked Outgoing tid log) (heads_outbound (done_in log) all) None
      && not (is_claimed Out tid world.claims))
      false refl)
  outbound-of tid (Some unit) named up =
      let all = committed_by rules world tid.system in
      let log = log_of world tid.system in
      let claims = claim_at Out tid.system world.claims in
      let open_ = is_outstanding (done_in log) unit in
      let heads = heads_outbound (done_in log) all unit in
      let moves = not (is_held_up Outgoing log unit) in
      let plain = not (is_marked Outgoing tid log) in
      let idle = not (is_claimed Out tid world.claims) in
      ap (λ t. open_ && (is_none (claims t) && not (is_marked Outgoing t log) && (heads && moves))) (unit_named-Some tid all unit named).1
      ∙ ap (λ b. open_ && (b && plain && (heads && moves))) (unclaimed-at Out tid.system tid world.claims (shipped_at tid))
      ∙ in_order open_ idle plain heads moves
      ∙ ap (λ b. b && (open_ && plain && heads) && idle && moves) (sym up)

  inbound-of : (system : ℕ) (tid : TidOf) (found : Option AleUnit) → unit_named tid (received (log_of world system)) ≡ found → is_up world system ≡ true
      → let log = log_of world system in
      option_map_or (may_go Incoming (received log) log (claim_at In system world.claims)) found false
      ≡ (is_up world system && is_free (executed log) (is_marked Incoming tid log) (heads_inbound (executed log) (received log)) found
      && not (is_claimed In tid world.claims) && may_move (is_stopped_inbound log) found)
  inbound-of system tid None named up =
      let log = log_of world system in
      sym (and_right
      (is_up world system && is_free (executed log) (is_marked Incoming tid log) (heads_inbound (executed log) (received log)) None
      && not (is_claimed In tid world.claims))
      false refl)
  inbound-of system tid (Some unit) named up =
      let log = log_of world system in
      let claims = claim_at In system world.claims in
      let open_ = is_outstanding (executed log) unit in
      let heads = heads_inbound (executed log) (received log) unit in
      let moves = not (is_held_up Incoming log unit) in
      let plain = not (is_marked Incoming tid log) in
      let idle = not (is_claimed In tid world.claims) in
      let is = unit_named-Some tid (received log) unit named in
      ap (λ t. open_ && (is_none (claims t) && not (is_marked Incoming t log) && (heads && moves))) is.1
      ∙ ap (λ b. open_ && (b && plain && (heads && moves)))
      (unclaimed-at In system tid world.claims (λ held has kind its. executed_at system unit is.0 held has kind (its ∙ sym is.1)))
      ∙ in_order open_ idle plain heads moves
      ∙ ap (λ b. b && (open_ && plain && heads) && idle && moves) (sym up)

  -- a unit may go outbound, by the tables of a system that is up, exactly where the protocol offers it
  pub may_go-outbound : (tid : TidOf) → is_up world tid.system ≡ true → may_go_at rules world tid.system Outgoing tid ≡ is_offered_outbound rules world tid
  may_go-outbound tid up = outbound-of tid (committed_unit rules world tid) refl up

  -- and so inbound
  pub may_go-inbound : (system : ℕ) (tid : TidOf) → is_up world system ≡ true
      → may_go_at rules world system Incoming tid ≡ is_offered_inbound world system tid
  may_go-inbound system tid up = inbound-of system tid (unit_named tid (received (log_of world system))) refl up

  -- the first unit to go outbound is of the system, and is offered
  pub first-outbound : (system : ℕ) (tid : TidOf) → is_up world system ≡ true → first_to_go rules world system Outgoing ≡ Some tid
      → (tid.system ≡ system) × (is_offered_outbound rules world tid ≡ true)
  first-outbound system tid up first =
      let got = first-goes rules world system Outgoing tid (units-differ Outgoing system) first in
      let at = (committed_place rules lawful world safe system got.0 got.1).1 in
      let here : tid.system ≡ system = ap (λ (t : TidOf). t.system) (sym got.2 ∙ at.tid) in
      let there : is_up world tid.system ≡ true = ap (is_up world) here ∙ up in
      (here, sym (may_go-outbound tid there) ∙ ap (λ s. may_go_at rules world s Outgoing tid) here ∙ got.3)

  -- where there is none, no unit of the system is offered outbound
  pub none-outbound : (system : ℕ) → is_up world system ≡ true → first_to_go rules world system Outgoing ≡ None
      → (tid : TidOf) → tid.system ≡ system → is_offered_outbound rules world tid ≡ false
  none-outbound system up none tid here =
      let there : is_up world tid.system ≡ true = ap (is_up world) here ∙ up in
      sym (may_go-outbound tid there) ∙ ap (λ s. may_go_at rules world s Outgoing tid) here ∙ none-goes rules world system Outgoing tid none

  -- the first unit to go inbound is offered
  pub first-inbound : (system : ℕ) (tid : TidOf) → is_up world system ≡ true → first_to_go rules world system Incoming ≡ Some tid
      → is_offered_inbound world system tid ≡ true
  first-inbound system tid up first =
      sym (may_go-inbound system tid up) ∙ (first-goes rules world system Incoming tid (units-differ Incoming system) first).3

  -- where there is none, no unit is offered inbound at the system
  pub none-inbound : (system : ℕ) → is_up world system ≡ true → first_to_go rules world system Incoming ≡ None
      → (tid : TidOf) → is_offered_inbound world system tid ≡ false
  none-inbound system up none tid = sym (may_go-inbound system tid up) ∙ none-goes rules world system Incoming tid none

  -- ---- what a claim makes of the world

  -- a unit that is offered outbound is claimed by the system that its id names
  pub claim-after : (tid : TidOf) → is_offered_outbound rules world tid ≡ true → happens rules world (event.Claim tid) ≡ with_claim world tid tid.system Out
  claim-after tid offered = ap (λ b. cond b (with_claim world tid tid.system Out) world) offered

  -- the unit that is offered outbound
  pub outbound_unit : (tid : TidOf) → is_offered_outbound rules world tid ≡ true → (unit : AleUnit) × (committed_unit rules world tid ≡ Some unit)
  outbound_unit tid offered = there (committed_unit rules world tid) refl
      (and_parts (is_up world tid.system && is_free (done_in (log_of world tid.system)) (is_marked Outgoing tid (log_of world tid.system))
      (heads_outbound (done_in (log_of world tid.system)) (committed_by rules world tid.system)) (committed_unit rules world tid)
      && not (is_claimed Out tid world.claims)) (may_move (is_stopped_outbound (log_of world tid.system)) (committed_unit rules world tid)) offered).1
    where
      there : (found : Option AleUnit) → committed_unit rules world tid ≡ found → may_move (is_stopped_outbound (log_of world tid.system)) found ≡ true
          → (unit : AleUnit) × (committed_unit rules world tid ≡ Some unit)
      there None named moves = cc
      there (Some unit) named moves = (unit, named)

  -- a unit that is offered inbound was received there, and is the one that its sender committed
  pub inbound_unit : (system : ℕ) (tid : TidOf) → is_offered_inbound world system tid ≡ true
      → (unit : AleUnit) × (committed_unit rules world tid ≡ Some unit) × (unit.receiver ≡ system)
  inbound_unit system tid offered =
      let log = log_of world system in
      let a = and_parts (is_up world system && is_free_inbound log tid && not (is_claimed In tid world.claims))
      (may_move (is_stopped_inbound log) (unit_named tid (received log))) offered in
      let b = and_parts (is_up world system && is_free_inbound log tid) (not (is_claimed In tid world.claims)) a.0 in
      let c = and_parts (is_up world system) (is_free_inbound log tid) b.0 in
      let free = is_free-parts (executed log) (is_marked Incoming tid log) (heads_inbound (executed log) (received log)) (unit_named tid (received log)) c.1 in
      let is = unit_named-Some tid (received log) free.0 free.1 in
      let got = received-is rules lawful world safe system free.0 is.0 in
      (free.0, subst (λ t. committed_unit rules world t ≡ Some free.0) is.1 got.1, got.0)

  -- a unit that is offered inbound at a system is claimed by that system
  pub run-after : (system : ℕ) (tid : TidOf) → is_offered_inbound world system tid ≡ true
      → happens rules world (event.Run tid) ≡ with_claim world tid system In
  run-after system tid offered =
      let unit = inbound_unit system tid offered in
      ap (λ found. option_map_or (after_run world tid) found world) unit.1
      ∙ ap (λ s. cond (is_offered_inbound world s tid) (with_claim world tid s In) world) unit.2
      ∙ ap (λ b. cond b (with_claim world tid system In) world) offered
