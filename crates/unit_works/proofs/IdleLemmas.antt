-- Where nothing holds units up and none is offered, each went its whole way: the first of those that are outstanding heads all its queues.
use Rattle.std.specs.Prelude.{find, Contains}
use Rattle.std.specs.List.{list_all, list_any}
use Rattle.std.specs.Cmp.Lexicographic.{bytes_decides, pointwise}
use Rattle.std.proofs.Common.{◌≡◌, ◌≤◌, ◌==◌, ◌&&◌, ℕ, not, Bool, true, false, Some, None, List, [], ◌∷◌, nat_eq, inl, inr, refl, sym, ap, subst, ◌∙◌}
use Rattle.std.proofs.lemmas.Bool.{and_from, and_right, both_ways, cases_Bool, eq-eqb, not-true, not_from_false, or_from}
use Rattle.std.proofs.lemmas.List.Elements.{All-contains}
use Rattle.std.proofs.lemmas.Option.{same_Some}
use Rattle.ale_base.specs.Tid.{TidOf}
use Rattle.ale_base.specs.declared.way.Way.{Way}
use Rattle.ale_base.specs.declared.way.Way.TheVariants.{Outgoing, Incoming}
use Rattle.ale_base.proofs.MemberLemmas.{Contains-cons, Contains-here, Contains-nil, Contains-there, find-Some, find-narrower, list_any-Contains}
use Rattle.ale_base.proofs.OptionLemmas.{none_or_some}
use Rattle.unit_core.specs.declared.ale_unit.AleUnit.{AleUnit}
use Rattle.unit_core.specs.declared.queue.Queue.{Queue}
use Rattle.unit_core.specs.declared.queue.Queue.TheVariants.{Outbound, Inbound}
use Rattle.unit_core.specs.Filters.{done_in, ended_in, executed, forgotten_in, is_marked, is_stopped, received}
use Rattle.unit_core.specs.Queues.{has_name, has_tid, head_of, heads_inbound, heads_outbound, is_among, is_head, is_listed, is_outstanding, stands_in}
use Rattle.unit_core.specs.Queues.{unit_named}
use Rattle.unit_core.proofs.TidLemmas.{Contains-is_listed, is_among-Contains, is_listed-Contains, is_tid-same, unit_named-Contains}
use Rattle.system_tables.specs.OfLog.{is_unconfirmed}
use Rattle.trfc_protocol.specs.declared.held.HeldKind.TheVariants.{In, Out}
use Rattle.trfc_protocol.specs.declared.world.World.{World}
use Rattle.trfc_protocol.specs.Meaning.{Meaning}
use Rattle.trfc_protocol.specs.Legal.{IsLawful, is_free_inbound, is_free_outbound}
use Rattle.trfc_protocol.specs.Offered.{is_offered_inbound, is_offered_outbound, is_stopped_inbound, is_stopped_outbound, may_move}
use Rattle.trfc_protocol.specs.Safe.{Safe}
use Rattle.trfc_protocol.specs.Worlds.{committed_by, committed_unit, is_claimed, is_up, log_of, log_or_none, state_of}
use Rattle.trfc_protocol.proofs.ForCallers.{done_unit}
use Rattle.trfc_protocol.proofs.LegalLemmas.{is_free-from}
use Rattle.trfc_protocol.proofs.SafeLemmas.{committed_place, committed_unit-is, numbered, received-is, sound_now}
use Rattle.trfc_protocol.proofs.WorldLemmas.{state_of-least, state_of-most}
use Rattle.unit_works.specs.Through.{IsClear, IsThrough}
use Rattle.unit_works.specs.Trips.{is_due}

-- ---- the first of those that are outstanding

each-name : (p : List ℕ → Bool) (names : List (List ℕ)) → ((name : List ℕ) → Contains names name → p name ≡ true) → list_all p names ≡ true
each-name p [] each = refl
each-name p (name ∷ names) each =
    and_from (p name) (list_all p names) (each name (Contains-here name names))
    (each-name p names (λ other has. each other (Contains-there name names other has)))

named-there : (name : List ℕ) (names : List (List ℕ)) → Contains names name → has_name name names ≡ true
named-there name names has = list_any-Contains (λ other. pointwise nat_eq other name) names name has ((bytes_decides name name).1 refl)

module _ (through : List TidOf) (units : List AleUnit) (unit : AleUnit) (first : find (is_outstanding through) units ≡ Some unit) where
  -- it heads each queue in which it stands
  heads-first : (queue : Queue) → stands_in queue unit ≡ true → is_head through units unit.tid queue ≡ true
  heads-first queue stands =
      let there = find-Some (is_outstanding through) units unit first in
      let head : head_of through units queue ≡ Some unit =
      find-narrower (is_outstanding through) (λ u. stands_in queue u && is_outstanding through u) units unit first
      (λ other through_all. and_right (stands_in queue other) (is_outstanding through other) through_all)
      (and_from (stands_in queue unit) (is_outstanding through unit) stands there.1) in
      ap (has_tid unit.tid) head ∙ is_tid-same unit.tid

  outbound-first : heads_outbound through units unit ≡ true
  outbound-first =
      each-name (λ name. is_head through units unit.tid (Outbound unit.sender unit.receiver name)) unit.outq
      (λ name has. heads-first (Outbound unit.sender unit.receiver name)
      (and_from ((unit.sender == unit.sender) && (unit.receiver == unit.receiver)) (has_name name unit.outq)
      (and_from (unit.sender == unit.sender) (unit.receiver == unit.receiver) (eq-eqb unit.sender unit.sender refl)
      (eq-eqb unit.receiver unit.receiver refl))
      (named-there name unit.outq has)))

  inbound-first : heads_inbound through units unit ≡ true
  inbound-first =
      each-name (λ name. is_head through units unit.tid (Inbound name)) unit.inq
      (λ name has. heads-first (Inbound name) (named-there name unit.inq has))

-- where none is found, each fails
none-found : {X : Type 0} (p : X → Bool) (xs : List X) → find p xs ≡ None → (x : X) → Contains xs x → p x ≡ false
none-found p [] none x has = absurd (Contains-nil x has)
none-found p (y ∷ ys) none x has = elim (cases_Bool (p y)) [
  | inl holds ↦
      let is : find p (y ∷ ys) ≡ Some y = rw holds refl in
      let wrong = sym is ∙ none in cc
  | inr fails ↦
      let rest : find p (y ∷ ys) ≡ find p ys = rw fails refl in
      elim (Contains-cons y ys x has) [
        | inl same ↦ subst (λ z. p z ≡ false) same fails
        | inr more ↦ none-found p ys (sym rest ∙ none) x more
      ]
]

through-found : (through : List TidOf) (units : List AleUnit) → find (is_outstanding through) units ≡ None → (unit : AleUnit) → Contains units unit
    → is_listed unit.tid through ≡ true
through-found through units none unit has = shown (is_listed unit.tid through) (none-found (is_outstanding through) units none unit has)
  where
    shown : (b : Bool) → not b ≡ false → b ≡ true
    shown true is = refl
    shown false is = cc

-- ---- a world in which no unit is offered

module _ {R : Type 0} (rules : Meaning) (lawful : IsLawful rules) (world : World R) (safe : Safe rules world) (clear : IsClear world)
    (unclaimed : world.claims ≡ [])
    (ups : (system : ℕ) → 1 ≤ system → system ≤ rules.systems → is_up world system ≡ true) where
  none-stopped : (system : ℕ) (way : Way) (destination : ℕ) (names : List (List ℕ))
      → list_any (λ name. is_stopped way destination name (log_of world system)) names ≡ false
  none-stopped system way destination [] = refl
  none-stopped system way destination (name ∷ names) =
      or_from (is_stopped way destination name (log_of world system)) (list_any (λ n. is_stopped way destination n (log_of world system)) names)
      (clear.started system way destination name) (none-stopped system way destination names)

  -- a system that committed a unit is up
  committed-up : (system : ℕ) (unit : AleUnit) → Contains (committed_by rules world system) unit → is_up world system ≡ true
  committed-up system unit has = elim (none_or_some (state_of world.systems system)) [
    | inl none ↦
        absurd (Contains-nil unit
        (subst (λ units. Contains units unit) (ap (λ found. rules.committed system (log_or_none found)) none ∙ lawful.nothing_at_first system) has))
    | inr is ↦
        ups system (state_of-least world.systems system is.0 is.1)
        (subst (λ n. system ≤ n) safe.systems (state_of-most world.systems system is.0 is.1))
  ]

  module _ (outbound : (tid : TidOf) → is_offered_outbound rules world tid ≡ false) (system : ℕ) where
    -- each unit that a system committed is done
    committed-done : find (is_outstanding (done_in (log_of world system))) (committed_by rules world system) ≡ None
    committed-done = elim (none_or_some (find (is_outstanding (done_in (log_of world system))) (committed_by rules world system))) [
      | inl none ↦ none
      | inr is ↦ absurd (still is.0 is.1)
    ]
      where
        still : (unit : AleUnit) → find (is_outstanding (done_in (log_of world system))) (committed_by rules world system) ≡ Some unit → ⊥
        still unit first =
            let records = log_of world system in
            let units = committed_by rules world system in
            let there = find-Some (is_outstanding (done_in records)) units unit first in
            let place = (committed_place rules lawful world safe system unit there.0).1 in
            let its : unit.tid.system ≡ system = ap (λ (t : TidOf). t.system) place.tid in
            let named : unit_named unit.tid units ≡ Some unit = unit_named-Contains units unit (numbered rules lawful world safe system) there.0 in
            let up = is_up world system in
            let free = is_free_outbound units records unit.tid in
            let open_ = not (is_claimed Out unit.tid world.claims) in
            let moves = may_move (is_stopped_outbound records) (unit_named unit.tid units) in
            let is_free : free ≡ true =
            is_free-from (done_in records) (is_marked Outgoing unit.tid records) (heads_outbound (done_in records) units) (unit_named unit.tid units) unit named
            (not-true (is_listed unit.tid (done_in records)) there.1) (clear.unmarked system Outgoing unit.tid)
            (outbound-first (done_in records) units unit first) in
            let is_open : open_ ≡ true = ap (λ claims. not (is_claimed Out unit.tid claims)) unclaimed in
            let is_moving : moves ≡ true =
            ap (may_move (is_stopped_outbound records)) named
            ∙ not_from_false (is_stopped_outbound records unit) (none-stopped system Outgoing unit.receiver unit.outq) in
            let offered : (up && free && open_ && moves) ≡ true =
            and_from (up && free && open_) moves (and_from (up && free) open_ (and_from up free (committed-up system unit there.0) is_free) is_open)
            is_moving in
            both_ways (is_offered_outbound rules world unit.tid) (outbound unit.tid)
            (subst (λ s. (is_up world s && is_free_outbound (committed_by rules world s) (log_of world s) unit.tid && not (is_claimed Out unit.tid world.claims)
            && may_move (is_stopped_outbound (log_of world s)) (unit_named unit.tid (committed_by rules world s))) ≡ true) (sym its) offered)

  module _ (inbound : (system : ℕ) (tid : TidOf) → is_offered_inbound world system tid ≡ false) (system : ℕ) where
    -- each unit that a system received is executed
    received-executed : find (is_outstanding (executed (log_of world system))) (received (log_of world system)) ≡ None
    received-executed = elim (none_or_some (find (is_outstanding (executed (log_of world system))) (received (log_of world system)))) [
      | inl none ↦ none
      | inr is ↦ absurd (still is.0 is.1)
    ]
      where
        still : (unit : AleUnit) → find (is_outstanding (executed (log_of world system))) (received (log_of world system)) ≡ Some unit → ⊥
        still unit first =
            let records = log_of world system in
            let units = received records in
            let there = find-Some (is_outstanding (executed records)) units unit first in
            let got = received-is rules lawful world safe system unit there.0 in
            let sent = committed_unit-is rules lawful world safe unit.tid unit got.1 in
            let now = sound_now rules lawful world safe in
            let once = now.once in
            let named : unit_named unit.tid units ≡ Some unit = unit_named-Contains units unit (once.taken_once system) there.0 in
            let up = is_up world system in
            let free = is_free_inbound records unit.tid in
            let open_ = not (is_claimed In unit.tid world.claims) in
            let moves = may_move (is_stopped_inbound records) (unit_named unit.tid units) in
            let is_up_there : up ≡ true = subst (λ s. is_up world s ≡ true) got.0 (ups unit.receiver sent.3 sent.4) in
            let is_free : free ≡ true =
            is_free-from (executed records) (is_marked Incoming unit.tid records) (heads_inbound (executed records) units)
            (unit_named unit.tid units) unit named
            (not-true (is_listed unit.tid (executed records)) there.1) (clear.unmarked system Incoming unit.tid)
            (inbound-first (executed records) units unit first) in
            let is_open : open_ ≡ true = ap (λ claims. not (is_claimed In unit.tid claims)) unclaimed in
            let is_moving : moves ≡ true =
            ap (may_move (is_stopped_inbound records)) named
            ∙ not_from_false (is_stopped_inbound records unit) (none-stopped system Incoming 0 unit.inq) in
            both_ways (is_offered_inbound world system unit.tid) (inbound system unit.tid)
            (and_from (up && free && open_) moves (and_from (up && free) open_ (and_from up free is_up_there is_free) is_open) is_moving)

  module _ (outbound : (tid : TidOf) → is_offered_outbound rules world tid ≡ false)
      (inbound : (system : ℕ) (tid : TidOf) → is_offered_inbound world system tid ≡ false)
      (not_due : (unit : AleUnit) → committed_unit rules world unit.tid ≡ Some unit → is_due world unit ≡ true → ⊥) where
    -- so each unit that was committed went its whole way
    pub idle-through : (tid : TidOf) (unit : AleUnit) → committed_unit rules world tid ≡ Some unit → IsThrough world unit
    idle-through tid unit named_so = record { taken_in = among; ran = ran; done = done; forgotten = forgotten; ended = ended }
      where
        sent : Contains (committed_by rules world tid.system) unit × (unit.tid ≡ tid) × (unit.sender ≡ tid.system) × (1 ≤ unit.receiver)
            × (unit.receiver ≤ rules.systems)
        sent = committed_unit-is rules lawful world safe tid unit named_so

        named : committed_unit rules world unit.tid ≡ Some unit
        named = subst (λ t. committed_unit rules world t ≡ Some unit) (sym sent.1) named_so

        has : Contains (committed_by rules world unit.tid.system) unit
        has = subst (λ (t : TidOf). Contains (committed_by rules world t.system) unit) (sym sent.1) sent.0

        done : is_listed unit.tid (done_in (log_of world unit.tid.system)) ≡ true
        done =
            through-found (done_in (log_of world unit.tid.system)) (committed_by rules world unit.tid.system) (committed-done outbound unit.tid.system) unit has

        there : Contains (received (log_of world unit.receiver)) unit
        there =
            let was = done_unit rules lawful world safe unit.tid.system unit.tid done in
            let found : committed_unit rules world unit.tid ≡ Some was.0 =
            subst (λ t. unit_named t (committed_by rules world unit.tid.system) ≡ Some was.0) was.1
            (unit_named-Contains (committed_by rules world unit.tid.system) was.0 (numbered rules lawful world safe unit.tid.system) was.2) in
            let same : was.0 ≡ unit = same_Some was.0 unit (sym found ∙ named) in
            subst (λ (u : AleUnit). Contains (received (log_of world u.receiver)) u) same was.3

        among : is_among unit.tid (received (log_of world unit.receiver)) ≡ true
        among = is_among-Contains unit (received (log_of world unit.receiver)) there

        ran : is_listed unit.tid (executed (log_of world unit.receiver)) ≡ true
        ran =
            through-found (executed (log_of world unit.receiver)) (received (log_of world unit.receiver)) (received-executed inbound unit.receiver) unit there

        ended : is_listed unit.tid (ended_in (log_of world unit.tid.system)) ≡ true
        ended = elim (cases_Bool (is_listed unit.tid (ended_in (log_of world unit.tid.system)))) [
          | inl done_so ↦ done_so
          | inr fails ↦
              absurd (not_due unit named
              (and_from (is_up world unit.tid.system && is_up world unit.receiver) (is_unconfirmed unit.tid (log_of world unit.tid.system))
              (and_from (is_up world unit.tid.system) (is_up world unit.receiver) (committed-up unit.tid.system unit has) (ups unit.receiver sent.3 sent.4))
              (and_from (is_listed unit.tid (done_in (log_of world unit.tid.system))) (not (is_listed unit.tid (ended_in (log_of world unit.tid.system)))) done
              (not_from_false (is_listed unit.tid (ended_in (log_of world unit.tid.system))) fails))))
        ]

        forgotten : is_listed unit.tid (forgotten_in (log_of world unit.receiver)) ≡ true
        forgotten =
            let now = sound_now rules lawful world safe in
            let once = now.once in
            let was = All-contains
            (λ (t : TidOf). (u : AleUnit) × (u.tid ≡ t) × Contains (committed_by rules world unit.tid.system) u
            × Contains (forgotten_in (log_of world u.receiver)) t)
            (ended_in (log_of world unit.tid.system)) unit.tid (once.ended_was_forgotten unit.tid.system)
            (Contains-is_listed unit.tid (ended_in (log_of world unit.tid.system)) ended) in
            let found : committed_unit rules world unit.tid ≡ Some was.0 =
            subst (λ t. unit_named t (committed_by rules world unit.tid.system) ≡ Some was.0) was.1
            (unit_named-Contains (committed_by rules world unit.tid.system) was.0 (numbered rules lawful world safe unit.tid.system) was.2) in
            let same : was.0 ≡ unit = same_Some was.0 unit (sym found ∙ named) in
            is_listed-Contains unit.tid (forgotten_in (log_of world unit.receiver))
            (subst (λ (u : AleUnit). Contains (forgotten_in (log_of world u.receiver)) unit.tid) same was.3)
