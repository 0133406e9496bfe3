-- Which unit is offered, said by the log and the claims alone; and what a caller needs to meet the conditions of the calls.
use Rattle.std.specs.Prelude.{find, filter, not, ◌&&◌, ◌||◌, Contains}
use Rattle.std.specs.List.{list_any, list_all}
use Rattle.std.specs.Option.{option_and_then, option_map, option_map_or, is_none, is_some}
use Rattle.std.specs.Cmp.Lexicographic.{pointwise}
use Rattle.std.proofs.Common.{◌≡◌, ℕ, nat_eq, ◌==◌, Bool, true, false, cond, Option, Some, None, List, [], ◌∷◌, map, inl, inr, refl, sym, ap, subst, ◌∙◌}
use Rattle.std.proofs.lemmas.Bool.{cases_Bool, cond-true, cond-false, and_from, and_left, and_right, or_parts, eq-eqb}
use Rattle.std.proofs.lemmas.List.Folds.{list_all-map}
use Rattle.ale_base.specs.Tid.{TidOf, is_tid}
use Rattle.ale_base.specs.declared.way.Way.{Way}
use Rattle.ale_base.specs.declared.way.Way.TheVariants.{Outgoing, Incoming}
use Rattle.ale_base.proofs.MemberLemmas.{Contains-here, Contains-there, find-filter, find-Some}
use Rattle.unit_core.specs.declared.ale_unit.AleUnit.{AleUnit}
use Rattle.unit_core.specs.declared.queue.Queue.{Queue}
use Rattle.unit_core.specs.declared.queue.Queue.TheVariants.{Outbound, Inbound}
use Rattle.unit_core.specs.declared.records.Record.{Record}
use Rattle.unit_core.specs.Filters.{mark_of, is_marked}
use Rattle.unit_core.specs.Queues.{is_listed, is_among, unit_named, is_outstanding, has_name, are_different, stands_in, is_head}
use Rattle.unit_core.specs.Queues.{has_tid as core_has_tid}
use Rattle.unit_core.proofs.TidLemmas.{is_tid-true, is_tid-same}
use Rattle.plain_queues.specs.declared.queue_key.QueueKey.{QueueKey}
use Rattle.plain_queues.specs.declared.queued_unit.QueuedUnit.{QueuedUnit}
use Rattle.plain_queues.specs.Keys.{is_key, has_key, keys_differ}
use Rattle.plain_queues.specs.Queues.{QueuesOf, unit_of, claim_of, is_stopped}
use Rattle.plain_queues.specs.Offered.{has_tid, heads, lets_go, is_ready, is_offered, is_free_unit, is_free, first_offered}
use Rattle.plain_queues.specs.LogQueues.{AreQueuesOver, through, keys_of, queued, names_of, heads_all, is_held_up, may_go, is_free_by, HaveOneSender}
use Rattle.plain_queues.proofs.OfferedLemmas.{has_key-Contains}

-- ---- lists

pub find-map : {X Y : Type 0} (p : Y → Bool) (f : X → Y) (xs : List X) → find p (map f xs) ≡ option_map f (find (λ x. p (f x)) xs)
find-map p f [] = refl
find-map p f (x ∷ xs) =
    elim (cases_Bool (p (f x))) [
      | inl pass ↦ rw pass refl
      | inr miss ↦ rw miss (find-map p f xs)
    ]

pub find-same : {X : Type 0} (p q : X → Bool) (xs : List X) → ((x : X) → Contains xs x → p x ≡ q x) → find p xs ≡ find q xs
find-same p q [] same = refl
find-same p q (x ∷ xs) same =
    ap (λ b. cond b (Some x) (find p xs)) (same x (Contains-here x xs))
    ∙ ap (cond (q x) (Some x)) (find-same p q xs (λ y has. same y (Contains-there x xs y has)))

any-map : {X Y : Type 0} (p : Y → Bool) (f : X → Y) (xs : List X) → list_any p (map f xs) ≡ list_any (λ x. p (f x)) xs
any-map p f [] = refl
any-map p f (x ∷ xs) = ap (λ b. p (f x) || b) (any-map p f xs)

any-and : {X : Type 0} (b : Bool) (p : X → Bool) (xs : List X) → list_any (λ x. b && p x) xs ≡ (b && list_any p xs)
any-and true p xs = refl
any-and false p [] = refl
any-and false p (x ∷ xs) = any-and false p xs

all-going : {X : Type 0} (h s : X → Bool) (xs : List X) → list_all (λ x. h x && not (s x)) xs ≡ (list_all h xs && not (list_any s xs))
all-going h s [] = refl
all-going h s (x ∷ xs) =
    elim (cases_Bool (h x)) [
      | inl head ↦ elim (cases_Bool (s x)) [
        | inl stopped ↦ rw head (rw stopped (sym (and_right (list_all h xs) false refl)))
        | inr free ↦ rw head (rw free (all-going h s xs))
      ]
      | inr miss ↦ rw miss refl
    ]

and_turned : (a b : Bool) → (a && b) ≡ (b && a)
and_turned true true = refl
and_turned true false = refl
and_turned false true = refl
and_turned false false = refl

none_some : {X : Type 0} (found : Option X) → is_none found ≡ not (is_some found)
none_some None = refl
none_some (Some x) = refl

-- ---- the unit of an id

none_of : {X : Type 0} (b : Bool) → ◌≡◌ {A = Option X} (cond b None None) None
none_of true = refl
none_of false = refl

-- among the units that are outstanding, the one of an id is that of all, unless the id is through
found-outstanding : (tids : List TidOf) (tid : TidOf) (all : List AleUnit)
    → find (λ (u : AleUnit). is_outstanding tids u && is_tid u.tid tid) all ≡ cond (not (is_listed tid tids)) (unit_named tid all) None
found-outstanding tids tid [] = sym (none_of (not (is_listed tid tids)))
found-outstanding tids tid (u ∷ us) =
    let test = λ (v : AleUnit). is_outstanding tids v && is_tid v.tid tid in
    elim (cases_Bool (is_tid u.tid tid)) [
      | inl its ↦ let same : u.tid ≡ tid = is_tid-true u.tid tid its in
          elim (cases_Bool (is_listed tid tids)) [
            | inl listed ↦
                cond-false (test u) (Some u) (find test us)
                (and_left (is_outstanding tids u) (is_tid u.tid tid) (ap (λ t. not (is_listed t tids)) same ∙ ap not listed))
                ∙ found-outstanding tids tid us
                ∙ ap (λ b. cond (not b) (unit_named tid us) None) listed
                ∙ sym (ap (λ b. cond (not b) (unit_named tid (u ∷ us)) None) listed)
            | inr fresh ↦
                cond-true (test u) (Some u) (find test us)
                (and_from (is_outstanding tids u) (is_tid u.tid tid) (ap (λ t. not (is_listed t tids)) same ∙ ap not fresh) its)
                ∙ sym (cond-true (is_tid u.tid tid) (Some u) (unit_named tid us) its)
                ∙ sym (ap (λ b. cond (not b) (unit_named tid (u ∷ us)) None) fresh)
          ]
      | inr other ↦
          cond-false (test u) (Some u) (find test us) (and_right (is_outstanding tids u) (is_tid u.tid tid) other)
          ∙ found-outstanding tids tid us
          ∙ sym (ap (λ o. cond (not (is_listed tid tids)) o None) (cond-false (is_tid u.tid tid) (Some u) (unit_named tid us) other))
    ]

-- the unit of an id in the queues: that of the log, unless it is through
pub unit_of-log : (way : Way) (all : List AleUnit) (log : List Record) (claims : TidOf → Option ℕ) (queues : QueuesOf) (tid : TidOf) →
    AreQueuesOver way all log claims queues
    → unit_of tid queues ≡ option_map (queued way log claims) (cond (not (is_listed tid (through way log))) (unit_named tid all) None)
unit_of-log way all log claims queues tid are =
    ap (find (λ (u : QueuedUnit). is_tid u.tid tid)) are.units
    ∙ find-map (λ (u : QueuedUnit). is_tid u.tid tid) (queued way log claims) (filter (is_outstanding (through way log)) all)
    ∙ ap (option_map (queued way log claims))
    (find-filter (is_outstanding (through way log)) (λ (u : AleUnit). is_tid u.tid tid) all ∙ found-outstanding (through way log) tid all)

not_among : (tid : TidOf) (all : List AleUnit) → is_among tid all ≡ false → unit_named tid all ≡ None
not_among tid [] none = refl
not_among tid (u ∷ us) none =
    let parts = or_parts (is_tid u.tid tid) (is_among tid us) none in
    cond-false (is_tid u.tid tid) (Some u) (unit_named tid us) parts.0 ∙ not_among tid us parts.1

-- an id that is not among those of the log is not in the queues, so its unit may be added
pub unit_of-new : (way : Way) (all : List AleUnit) (log : List Record) (claims : TidOf → Option ℕ) (queues : QueuesOf) (tid : TidOf) →
    AreQueuesOver way all log claims queues
    → is_among tid all ≡ false → unit_of tid queues ≡ None
unit_of-new way all log claims queues tid are new =
    unit_of-log way all log claims queues tid are
    ∙ ap (λ found. option_map (queued way log claims) (cond (not (is_listed tid (through way log))) found None)) (not_among tid all new)
    ∙ ap (option_map (queued way log claims)) (none_of (not (is_listed tid (through way log))))

-- the claim on an outstanding unit is that of the caller, so it may be finished, marked and released under its number
pub claim_of-log : (way : Way) (all : List AleUnit) (log : List Record) (claims : TidOf → Option ℕ) (queues : QueuesOf) (unit : AleUnit) →
    AreQueuesOver way all log claims queues
    → unit_named unit.tid all ≡ Some unit → is_outstanding (through way log) unit ≡ true → claim_of unit.tid queues ≡ claims unit.tid
claim_of-log way all log claims queues unit are named open_ =
    ap (λ (found : Option QueuedUnit). option_and_then (λ (u : QueuedUnit). u.claim) found) (unit_of-log way all log claims queues unit.tid are
    ∙ ap (λ b. option_map (queued way log claims) (cond b (unit_named unit.tid all) None)) open_
    ∙ ap (option_map (queued way log claims)) named)

-- ---- heads

same_tid : (way : Way) (log : List Record) (claims : TidOf → Option ℕ) (tid : TidOf) (found : Option AleUnit)
    → has_tid tid (option_map (queued way log claims) found) ≡ core_has_tid tid found
same_tid way log claims tid None = refl
same_tid way log claims tid (Some unit) = refl

-- a unit heads a queue by the table exactly where it does so by the log
heads-log : (way : Way) (all : List AleUnit) (log : List Record) (claims : TidOf → Option ℕ) (queues : QueuesOf) (tid : TidOf) (key : QueueKey) (queue : Queue)
    → AreQueuesOver way all log claims queues → ((u : AleUnit) → Contains all u → has_key key (keys_of way u) ≡ stands_in queue u)
    → heads tid queues key ≡ is_head (through way log) all tid queue
heads-log way all log claims queues tid key queue are same =
    let open_ = is_outstanding (through way log) in
    ap (λ us. has_tid tid (find (λ (u : QueuedUnit). has_key key u.keys) us)) are.units
    ∙ ap (has_tid tid) (find-map (λ (u : QueuedUnit). has_key key u.keys) (queued way log claims) (filter open_ all))
    ∙ same_tid way log claims tid (find (λ u. has_key key (keys_of way u)) (filter open_ all))
    ∙ ap (core_has_tid tid)
    (find-filter open_ (λ u. has_key key (keys_of way u)) all
    ∙ find-same (λ u. open_ u && has_key key (keys_of way u)) (λ u. stands_in queue u && open_ u) all
    (λ u has. ap (λ b. open_ u && b) (same u has) ∙ and_turned (open_ u) (stands_in queue u)))

outbound_keys : (u : AleUnit) (sender destination : ℕ) (name : List ℕ) → u.sender ≡ sender
    → has_key (record { partner = destination; name = name }) (keys_of Outgoing u) ≡ stands_in (Outbound sender destination name) u
outbound_keys u sender destination name same =
    any-map (λ (other : QueueKey). is_key other (record { partner = destination; name = name })) (λ n. record { partner = u.receiver; name = n }) u.outq
    ∙ any-and (u.receiver == destination) (λ n. pointwise nat_eq n name) u.outq
    ∙ sym (ap (λ b. (b && (u.receiver == destination)) && has_name name u.outq) (eq-eqb u.sender sender same))

inbound_keys : (u : AleUnit) (name : List ℕ) → has_key (record { partner = 0; name = name }) (keys_of Incoming u) ≡ stands_in (Inbound name) u
inbound_keys u name = any-map (λ (other : QueueKey). is_key other (record { partner = 0; name = name })) (λ n. record { partner = 0; name = n }) u.inq

-- the queues of a unit let it go exactly where it heads them by the log and none is stopped there
go-log : (way : Way) (all : List AleUnit) (log : List Record) (claims : TidOf → Option ℕ) (queues : QueuesOf) (unit : AleUnit) → HaveOneSender way all →
    Contains all unit
    → AreQueuesOver way all log claims queues
    → list_all (lets_go unit.tid queues) (keys_of way unit) ≡ (heads_all way (through way log) all unit && not (is_held_up way log unit))
go-log Outgoing all log claims queues unit one has are =
    let key_of : List ℕ → QueueKey = λ name. record { partner = unit.receiver; name = name } in
    list_all-map (lets_go unit.tid queues) key_of unit.outq
    ∙ all-going (λ name. heads unit.tid queues (key_of name)) (λ name. is_stopped (key_of name) queues) unit.outq
    ∙ ap (λ f. list_all f unit.outq && not (list_any (λ name. is_stopped (key_of name) queues) unit.outq)) (λ i name.
    heads-log Outgoing all log claims queues unit.tid (key_of name) (Outbound unit.sender unit.receiver name) are
    (λ u among. outbound_keys u unit.sender unit.receiver name (one.1 u among ∙ sym (one.1 unit has))) i)
    ∙ ap (λ f. heads_all Outgoing (through Outgoing log) all unit && not (list_any f unit.outq)) (λ i name. are.stops (key_of name) i)
go-log Incoming all log claims queues unit one has are =
    let key_of : List ℕ → QueueKey = λ name. record { partner = 0; name = name } in
    list_all-map (lets_go unit.tid queues) key_of unit.inq
    ∙ all-going (λ name. heads unit.tid queues (key_of name)) (λ name. is_stopped (key_of name) queues) unit.inq
    ∙ ap (λ f. list_all f unit.inq && not (list_any (λ name. is_stopped (key_of name) queues) unit.inq)) (λ i name.
    heads-log Incoming all log claims queues unit.tid (key_of name) (Inbound name) are (λ u among. inbound_keys u name) i)
    ∙ ap (λ f. heads_all Incoming (through Incoming log) all unit && not (list_any f unit.inq)) (λ i name. are.stops (key_of name) i)

-- ---- what is offered

ready-log : (way : Way) (all : List AleUnit) (log : List Record) (claims : TidOf → Option ℕ) (queues : QueuesOf) (unit : AleUnit) → HaveOneSender way all →
    Contains all unit
    → AreQueuesOver way all log claims queues
    → (is_outstanding (through way log) unit && is_ready queues (queued way log claims unit)) ≡ may_go way all log claims unit
ready-log way all log claims queues unit one has are =
    ap (λ b. is_outstanding (through way log) unit && (is_none (claims unit.tid) && b && list_all (lets_go unit.tid queues) (keys_of way unit)))
    (none_some (mark_of way unit.tid log))
    ∙ ap (λ b. is_outstanding (through way log) unit && (is_none (claims unit.tid) && not (is_marked way unit.tid log) && b))
    (go-log way all log claims queues unit one has are)

-- a unit is offered exactly where it is there and may go by the log
pub offered-log : (way : Way) (all : List AleUnit) (log : List Record) (claims : TidOf → Option ℕ) (queues : QueuesOf) (tid : TidOf) → HaveOneSender way all
    → AreQueuesOver way all log claims queues → is_offered tid queues ≡ option_map_or (may_go way all log claims) (unit_named tid all) false
offered-log way all log claims queues tid one are =
    ap (λ found. option_map_or (is_ready queues) found false) (unit_of-log way all log claims queues tid are)
    ∙ by_named (unit_named tid all) refl
  where
    by_named : (found : Option AleUnit) → unit_named tid all ≡ found
        → option_map_or (is_ready queues) (option_map (queued way log claims) (cond (not (is_listed tid (through way log))) found None)) false
        ≡ option_map_or (may_go way all log claims) found false
    by_named None at = ap (λ found. option_map_or (is_ready queues) (option_map (queued way log claims) found) false)
        (none_of (not (is_listed tid (through way log))))
    by_named (Some unit) at =
        let there = find-Some (λ (u : AleUnit). is_tid u.tid tid) all unit at in
        let same : unit.tid ≡ tid = is_tid-true unit.tid tid there.1 in
        let tids = through way log in
        elim (cases_Bool (is_listed tid tids)) [
          | inl listed ↦
              ap (λ b. option_map_or (is_ready queues) (option_map (queued way log claims) (cond (not b) (Some unit) None)) false) listed
              ∙ sym (ap (λ b. b && is_ready queues (queued way log claims unit)) (ap (λ t. not (is_listed t tids)) same ∙ ap not listed))
              ∙ ready-log way all log claims queues unit one there.0 are
          | inr fresh ↦
              ap (λ b. option_map_or (is_ready queues) (option_map (queued way log claims) (cond (not b) (Some unit) None)) false) fresh
              ∙ sym (ap (λ b. b && is_ready queues (queued way log claims unit)) (ap (λ t. not (is_listed t tids)) same ∙ ap not fresh))
              ∙ ready-log way all log claims queues unit one there.0 are
        ]

-- ---- what is free

-- a unit heads all its queues exactly where it does so by the log
heads_all-log : (way : Way) (all : List AleUnit) (log : List Record) (claims : TidOf → Option ℕ) (queues : QueuesOf) (unit : AleUnit) → HaveOneSender way all →
    Contains all unit
    → AreQueuesOver way all log claims queues
    → list_all (heads unit.tid queues) (keys_of way unit) ≡ heads_all way (through way log) all unit
heads_all-log Outgoing all log claims queues unit one has are =
    let key_of : List ℕ → QueueKey = λ name. record { partner = unit.receiver; name = name } in
    list_all-map (heads unit.tid queues) key_of unit.outq
    ∙ ap (λ f. list_all f unit.outq) (λ i name.
    heads-log Outgoing all log claims queues unit.tid (key_of name) (Outbound unit.sender unit.receiver name) are
    (λ u among. outbound_keys u unit.sender unit.receiver name (one.1 u among ∙ sym (one.1 unit has))) i)
heads_all-log Incoming all log claims queues unit one has are =
    let key_of : List ℕ → QueueKey = λ name. record { partner = 0; name = name } in
    list_all-map (heads unit.tid queues) key_of unit.inq
    ∙ ap (λ f. list_all f unit.inq) (λ i name.
    heads-log Incoming all log claims queues unit.tid (key_of name) (Inbound name) are (λ u among. inbound_keys u name) i)

free_unit-log : (way : Way) (all : List AleUnit) (log : List Record) (claims : TidOf → Option ℕ) (queues : QueuesOf) (unit : AleUnit) → HaveOneSender way all →
    Contains all unit
    → AreQueuesOver way all log claims queues
    → (is_outstanding (through way log) unit && is_free_unit queues (queued way log claims unit)) ≡ is_free_by way all log claims unit
free_unit-log way all log claims queues unit one has are =
    ap (λ b. is_outstanding (through way log) unit && (is_none (claims unit.tid) && b && list_all (heads unit.tid queues) (keys_of way unit)))
    (none_some (mark_of way unit.tid log))
    ∙ ap (λ b. is_outstanding (through way log) unit && (is_none (claims unit.tid) && not (is_marked way unit.tid log) && b))
    (heads_all-log way all log claims queues unit one has are)

-- a unit is free exactly where it is there and free by the log
pub free-log : (way : Way) (all : List AleUnit) (log : List Record) (claims : TidOf → Option ℕ) (queues : QueuesOf) (tid : TidOf) → HaveOneSender way all
    → AreQueuesOver way all log claims queues → is_free tid queues ≡ option_map_or (is_free_by way all log claims) (unit_named tid all) false
free-log way all log claims queues tid one are =
    ap (λ found. option_map_or (is_free_unit queues) found false) (unit_of-log way all log claims queues tid are)
    ∙ by_named (unit_named tid all) refl
  where
    by_named : (found : Option AleUnit) → unit_named tid all ≡ found
        → option_map_or (is_free_unit queues) (option_map (queued way log claims) (cond (not (is_listed tid (through way log))) found None)) false
        ≡ option_map_or (is_free_by way all log claims) found false
    by_named None at = ap (λ found. option_map_or (is_free_unit queues) (option_map (queued way log claims) found) false)
        (none_of (not (is_listed tid (through way log))))
    by_named (Some unit) at =
        let there = find-Some (λ (u : AleUnit). is_tid u.tid tid) all unit at in
        let same : unit.tid ≡ tid = is_tid-true unit.tid tid there.1 in
        let tids = through way log in
        elim (cases_Bool (is_listed tid tids)) [
          | inl listed ↦
              ap (λ b. option_map_or (is_free_unit queues) (option_map (queued way log claims) (cond (not b) (Some unit) None)) false) listed
              ∙ sym (ap (λ b. b && is_free_unit queues (queued way log claims unit)) (ap (λ t. not (is_listed t tids)) same ∙ ap not listed))
              ∙ free_unit-log way all log claims queues unit one there.0 are
          | inr fresh ↦
              ap (λ b. option_map_or (is_free_unit queues) (option_map (queued way log claims) (cond (not b) (Some unit) None)) false) fresh
              ∙ sym (ap (λ b. b && is_free_unit queues (queued way log claims unit)) (ap (λ t. not (is_listed t tids)) same ∙ ap not fresh))
              ∙ free_unit-log way all log claims queues unit one there.0 are
        ]

same_first : (way : Way) (log : List Record) (claims : TidOf → Option ℕ) (found : Option AleUnit)
    → option_map (λ (unit : QueuedUnit). unit.tid) (option_map (queued way log claims) found) ≡ option_map (λ (unit : AleUnit). unit.tid) found
same_first way log claims None = refl
same_first way log claims (Some unit) = refl

-- the offered unit that was added first is the first unit of the log that may go
pub first_offered-log : (way : Way) (all : List AleUnit) (log : List Record) (claims : TidOf → Option ℕ) (queues : QueuesOf) → HaveOneSender way all
    → AreQueuesOver way all log claims queues → first_offered queues ≡ option_map (λ (unit : AleUnit). unit.tid) (find (may_go way all log claims) all)
first_offered-log way all log claims queues one are =
    let open_ = is_outstanding (through way log) in
    ap (λ us. option_map (λ (unit : QueuedUnit). unit.tid) (find (is_ready queues) us)) are.units
    ∙ ap (option_map (λ (unit : QueuedUnit). unit.tid)) (find-map (is_ready queues) (queued way log claims) (filter open_ all))
    ∙ same_first way log claims (find (λ u. is_ready queues (queued way log claims u)) (filter open_ all))
    ∙ ap (option_map (λ (unit : AleUnit). unit.tid))
    (find-filter open_ (λ u. is_ready queues (queued way log claims u)) all
    ∙ find-same (λ u. open_ u && is_ready queues (queued way log claims u)) (may_go way all log claims) all
    (λ u has. ready-log way all log claims queues u one has are))

-- ---- conditions of the calls

same_name : (partner : ℕ) (name : List ℕ) (names : List (List ℕ))
    → has_key (record { partner = partner; name = name }) (map (λ n. record { partner = partner; name = n }) names) ≡ has_name name names
same_name partner name names =
    any-map (λ (other : QueueKey). is_key other (record { partner = partner; name = name })) (λ n. record { partner = partner; name = n }) names
    ∙ any-and (partner == partner) (λ n. pointwise nat_eq n name) names
    ∙ ap (λ b. b && has_name name names) (eq-eqb partner partner refl)

differ : (partner : ℕ) (names : List (List ℕ)) → keys_differ (map (λ n. record { partner = partner; name = n }) names) ≡ are_different names
differ partner [] = refl
differ partner (name ∷ names) =
    ap (λ b. not b && keys_differ (map (λ n. record { partner = partner; name = n }) names)) (same_name partner name names)
    ∙ ap (λ b. not (has_name name names) && b) (differ partner names)

-- the keys of a unit's queues differ exactly where their names do
pub keys_of-differ : (way : Way) (unit : AleUnit) → keys_differ (keys_of way unit) ≡ are_different (names_of way unit)
keys_of-differ Outgoing unit = differ unit.receiver unit.outq
keys_of-differ Incoming unit = differ 0 unit.inq

-- ---- something goes, where nothing holds it up

-- the earliest unit heads all its queues
pub earliest-heads : (queues : QueuesOf) (unit : QueuedUnit) (behind : List QueuedUnit) → queues.units ≡ unit ∷ behind →
    list_all (heads unit.tid queues) unit.keys ≡ true
earliest-heads queues unit behind first = each unit.keys (λ key has. has)
  where
    head : (key : QueueKey) → Contains unit.keys key → heads unit.tid queues key ≡ true
    head key has =
        ap (λ us. has_tid unit.tid (find (λ (u : QueuedUnit). has_key key u.keys) us)) first
        ∙ ap (has_tid unit.tid) (cond-true (has_key key unit.keys) (Some unit) (find (λ (u : QueuedUnit). has_key key u.keys) behind)
        (has_key-Contains key unit.keys has))
        ∙ is_tid-same unit.tid

    each : (keys : List QueueKey) → ((key : QueueKey) → Contains keys key → Contains unit.keys key) → list_all (heads unit.tid queues) keys ≡ true
    each [] within = refl
    each (key ∷ keys) within =
        and_from (heads unit.tid queues key) (list_all (heads unit.tid queues) keys)
        (head key (within key (Contains-here key keys))) (each keys (λ k has. within k (Contains-there key keys k has)))

-- where nothing is offered, no unit is claimed or marked and no queue is stopped, there is no unit
pub nothing-left : (queues : QueuesOf) → first_offered queues ≡ None
    → ((unit : QueuedUnit) → Contains queues.units unit → (unit.claim ≡ None) × (unit.mark ≡ None))
    → ((key : QueueKey) → is_stopped key queues ≡ false) → queues.units ≡ []
nothing-left queues none free moves = by_units queues.units refl
  where
    by_units : (units : List QueuedUnit) → queues.units ≡ units → units ≡ []
    by_units [] at = refl
    by_units (unit ∷ behind) at =
        let is_free = free unit (subst (λ us. Contains us unit) (sym at) (Contains-here unit behind)) in
        let goes : list_all (lets_go unit.tid queues) unit.keys ≡ true =
        all-going (heads unit.tid queues) (λ key. is_stopped key queues) unit.keys
        ∙ and_from (list_all (heads unit.tid queues) unit.keys) (not (list_any (λ key. is_stopped key queues) unit.keys))
        (earliest-heads queues unit behind at) (ap not (none_stopped unit.keys)) in
        let ready : is_ready queues unit ≡ true =
        and_from (is_none unit.claim && is_none unit.mark) (list_all (lets_go unit.tid queues) unit.keys)
        (and_from (is_none unit.claim) (is_none unit.mark) (ap is_none is_free.0) (ap is_none is_free.1)) goes in
        let found : first_offered queues ≡ Some unit.tid =
        ap (λ us. option_map (λ (u : QueuedUnit). u.tid) (find (is_ready queues) us)) at
        ∙ ap (option_map (λ (u : QueuedUnit). u.tid)) (cond-true (is_ready queues unit) (Some unit) (find (is_ready queues) behind) ready) in
        let never : Some unit.tid ≡ None = sym found ∙ none in
        absurd (cc)
      where
        none_stopped : (keys : List QueueKey) → list_any (λ key. is_stopped key queues) keys ≡ false
        none_stopped [] = refl
        none_stopped (key ∷ keys) = ap (λ b. b || list_any (λ k. is_stopped k queues) keys) (moves key) ∙ none_stopped keys
