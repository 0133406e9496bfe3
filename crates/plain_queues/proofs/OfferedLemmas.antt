-- A unit is offered exactly where nothing speaks against it.
use Rattle.std.specs.Prelude.{find, filter, not, ◌&&◌, ◌||◌, IsNone, Contains}
use Rattle.std.specs.List.{list_all}
use Rattle.std.specs.Option.{option_or, option_map, option_map_or, is_none, is_some}
use Rattle.std.specs.Cmp.Lexicographic.{bytes_decides, pointwise}
use Rattle.std.proofs.Common.{◌≡◌, ◌↔◌, nat_eq, eqb, Bool, true, false, Option, Some, None, List, [], ◌∷◌, inl, inr, refl, sym, ap, subst, ◌∙◌}
use Rattle.std.proofs.lemmas.Bool.{cases_Bool, both_ways, false_from_ne_true, and_parts, and_from, eq-eqb, eqb-true, cond-true, cond-false}
use Rattle.ale_base.specs.Tid.{TidOf, is_tid}
use Rattle.ale_base.proofs.OptionLemmas.{none_or_some}
use Rattle.ale_base.proofs.MemberLemmas.{Contains-here, Contains-there, Contains-cons, Contains-nil, Contains-map, list_any-Contains, find-Some}
use Rattle.unit_core.specs.Queues.{is_listed}
use Rattle.unit_core.specs.Once.{NoneTwice}
use Rattle.unit_core.proofs.TidLemmas.{is_tid-true, is_tid-from, is_listed-Contains}
use Rattle.plain_queues.specs.declared.queue_key.QueueKey.{QueueKey}
use Rattle.plain_queues.specs.declared.queued_unit.QueuedUnit.{QueuedUnit}
use Rattle.plain_queues.specs.declared.not_offered.NotOffered.{NotOffered}
use Rattle.plain_queues.specs.declared.not_offered.NotOffered.TheVariants.{Unknown, Running, Failed}
use Rattle.plain_queues.specs.declared.queue_status.QueueStatus.{QueueStatus}
use Rattle.plain_queues.specs.Keys.{is_key, has_key}
use Rattle.plain_queues.specs.Queues.{QueuesOf, tids_of, unit_of, head_of, in_queue, is_stopped}
use Rattle.plain_queues.specs.Offered.{lets_go, is_ready, is_offered, is_free_unit, is_free, heads, has_tid, behind_head, first_behind, first_stopped, why_not, why_not_unit}

-- ---- keys

-- a key is the same as itself
pub is_key-same : (key : QueueKey) → is_key key key ≡ true
is_key-same key = and_from (eqb key.partner key.partner) (pointwise nat_eq key.name key.name)
    (eq-eqb key.partner key.partner refl) ((bytes_decides key.name key.name).1 refl)

-- keys that the test takes for the same are equal
pub is_key-true : (a b : QueueKey) → is_key a b ≡ true → a ≡ b
is_key-true a b same =
    let parts = and_parts (eqb a.partner b.partner) (pointwise nat_eq a.name b.name) same in
    let partners : a.partner ≡ b.partner = eqb-true a.partner b.partner parts.0 in
    let names : a.name ≡ b.name = (bytes_decides a.name b.name).0 parts.1 in
    λ i. record { partner = partners i; name = names i }

-- a key that is in a list is found there
pub has_key-Contains : (key : QueueKey) (keys : List QueueKey) → Contains keys key → has_key key keys ≡ true
has_key-Contains key keys has = list_any-Contains (λ other. is_key other key) keys key has (is_key-same key)

-- ---- what is found

pub find-None : {X : Type 0} (p : X → Bool) (xs : List X) (x : X) → find p xs ≡ None → Contains xs x → p x ≡ false
find-None p [] x none has = absurd (Contains-nil x has)
find-None p (y ∷ ys) x none has =
    elim (cases_Bool (p y)) [
      | inl pass ↦ let found : Some y ≡ None = sym (cond-true (p y) (Some y) (find p ys) pass) ∙ none in absurd (cc)
      | inr miss ↦ elim (Contains-cons y ys x has) [
        | inl same ↦ sym (ap p same) ∙ miss
        | inr behind ↦ find-None p ys x (sym (cond-false (p y) (Some y) (find p ys) miss) ∙ none) behind
      ]
    ]

-- nothing is found exactly where nothing is kept
pub find-filter_none : {X : Type 0} (p : X → Bool) (xs : List X) → (find p xs ≡ None) ↔ (filter p xs ≡ [])
find-filter_none p [] = (λ none. refl, λ none. refl)
find-filter_none {X} p (x ∷ xs) =
    elim (cases_Bool (p x)) [
      | inl pass ↦ rw pass (λ found. absurd (cc), λ kept. absurd (cc))
      | inr miss ↦ rw miss (find-filter_none p xs)
    ]

pub IsNone-none : {X : Type 0} (found : Option X) → IsNone found → found ≡ None
IsNone-none None is = refl
IsNone-none (Some x) is = cc

pub none-IsNone : {X : Type 0} (found : Option X) → found ≡ None → IsNone found
none-IsNone None is = refl
none-IsNone (Some x) is = cc

-- ---- nothing speaks against a unit

-- a queue of a unit has a head
pub head_there : (queues : QueuesOf) (unit : QueuedUnit) (key : QueueKey) → Contains queues.units unit → has_key key unit.keys ≡ true
    → (head : QueuedUnit) × (head_of key queues ≡ Some head)
head_there queues unit key here has =
    elim (none_or_some (head_of key queues)) [
      | inl none ↦ absurd (both_ways (has_key key unit.keys) (find-None (λ (u : QueuedUnit). has_key key u.keys) queues.units unit none here) has)
      | inr some ↦ some
    ]

none_or : {X : Type 0} (a b : Option X) → is_none (option_or a b) ≡ (is_none a && is_none b)
none_or None b = refl
none_or (Some x) b = refl

none_map : {X Y : Type 0} (f : X → Y) (a : Option X) → is_none (option_map f a) ≡ is_none a
none_map f None = refl
none_map f (Some x) = refl

none_stopped : (queues : QueuesOf) (keys : List QueueKey) → is_none (first_stopped queues keys) ≡ list_all (λ key. not (is_stopped key queues)) keys
none_stopped queues [] = refl
none_stopped queues (key ∷ keys) =
    elim (cases_Bool (is_stopped key queues)) [
      | inl stopped ↦ rw stopped refl
      | inr moves ↦ rw moves (none_stopped queues keys)
    ]

none_behind_head : (tid : TidOf) (key : QueueKey) (found : Option QueuedUnit) → (head : QueuedUnit) × (found ≡ Some head) →
    is_none (behind_head tid key found) ≡ has_tid tid found
none_behind_head tid key None there = let no = there.1 in absurd (cc)
none_behind_head tid key (Some head) there =
    elim (cases_Bool (is_tid head.tid tid)) [
      | inl its ↦ rw its refl
      | inr other ↦ rw other refl
    ]

none_behind : (tid : TidOf) (queues : QueuesOf) (keys : List QueueKey) →
    ((key : QueueKey) → Contains keys key → (head : QueuedUnit) × (head_of key queues ≡ Some head))
    → is_none (first_behind tid queues keys) ≡ list_all (heads tid queues) keys
none_behind tid queues [] there = refl
none_behind tid queues (key ∷ keys) there =
    none_or (behind_head tid key (head_of key queues)) (first_behind tid queues keys)
    ∙ ap (λ b. b && is_none (first_behind tid queues keys)) (none_behind_head tid key (head_of key queues) (there key (Contains-here key keys)))
    ∙ ap (λ b. heads tid queues key && b) (none_behind tid queues keys (λ other has. there other (Contains-there key keys other has)))

both_all : {X : Type 0} (p q : X → Bool) (xs : List X) → (list_all q xs && list_all p xs) ≡ list_all (λ x. p x && q x) xs
both_all p q [] = refl
both_all p q (x ∷ xs) = shuffled (q x) (list_all q xs) (p x) (list_all p xs) ∙ ap (λ b. (p x && q x) && b) (both_all p q xs)
  where
    shuffled : (a b c d : Bool) → ((a && b) && (c && d)) ≡ ((c && a) && (b && d))
    shuffled true true true d = refl
    shuffled true true false d = refl
    shuffled true false true d = refl
    shuffled true false false d = refl
    shuffled false b true d = refl
    shuffled false b false d = refl

turned : (a b c : Bool) → (a && (b && c)) ≡ ((a && b) && c)
turned true b c = refl
turned false b c = refl

-- nothing speaks against a unit that is there exactly where it may be claimed
pub why_not-ready : (queues : QueuesOf) (unit : QueuedUnit) → Contains queues.units unit → is_none (why_not_unit queues unit) ≡ is_ready queues unit
why_not-ready queues unit here =
    none_or (option_map Running unit.claim) (option_or (option_map Failed unit.mark)
    (option_or (first_stopped queues unit.keys) (first_behind unit.tid queues unit.keys)))
    ∙ ap (λ b. b && is_none (option_or (option_map Failed unit.mark) (option_or (first_stopped queues unit.keys) (first_behind unit.tid queues unit.keys))))
    (none_map Running unit.claim)
    ∙ ap (λ b. is_none unit.claim && b) (
    none_or (option_map Failed unit.mark) (option_or (first_stopped queues unit.keys) (first_behind unit.tid queues unit.keys))
    ∙ ap (λ b. b && is_none (option_or (first_stopped queues unit.keys) (first_behind unit.tid queues unit.keys))) (none_map Failed unit.mark)
    ∙ ap (λ b. is_none unit.mark && b) (
    none_or (first_stopped queues unit.keys) (first_behind unit.tid queues unit.keys)
    ∙ ap (λ b. b && is_none (first_behind unit.tid queues unit.keys)) (none_stopped queues unit.keys)
    ∙ ap (λ b. list_all (λ key. not (is_stopped key queues)) unit.keys && b)
    (none_behind unit.tid queues unit.keys (λ key has. head_there queues unit key here (has_key-Contains key unit.keys has)))
    ∙ both_all (heads unit.tid queues) (λ key. not (is_stopped key queues)) unit.keys))
    ∙ turned (is_none unit.claim) (is_none unit.mark) (list_all (lets_go unit.tid queues) unit.keys)

by_unit : (tid : TidOf) (queues : QueuesOf) (found : Option QueuedUnit) → unit_of tid queues ≡ found
    → is_none (option_map_or (why_not_unit queues) found (Some Unknown)) ≡ option_map_or (is_ready queues) found false
by_unit tid queues None named = refl
by_unit tid queues (Some unit) named = why_not-ready queues unit (find-Some (λ (u : QueuedUnit). is_tid u.tid tid) queues.units unit named).0

-- nothing speaks against the unit of an id exactly where it is offered
pub why_not-offered : (tid : TidOf) (queues : QueuesOf) → is_none (why_not tid queues) ≡ is_offered tid queues
why_not-offered tid queues = by_unit tid queues (unit_of tid queues) refl

not_some : (b c : Bool) → not b ≡ c → (b ≡ false) ↔ (c ≡ true)
not_some true c is = (λ no. absurd (cc), λ no. absurd (cc))
not_some false c is = (λ no. sym is, λ no. refl)

-- the same of what a call answers
pub IsNone-offered : (tid : TidOf) (queues : QueuesOf) (why : Option NotOffered) → why ≡ why_not tid queues → IsNone why ↔ (is_offered tid queues ≡ true)
IsNone-offered tid queues why is = not_some (is_some why) (is_offered tid queues) (ap is_none is ∙ why_not-offered tid queues)

-- ---- the first unit that may be claimed

-- where no two units have the same id, each is the one that is found by its id
pub found_by_id : (units : List QueuedUnit) (unit : QueuedUnit) → NoneTwice (tids_of units) → Contains units unit
    → find (λ (u : QueuedUnit). is_tid u.tid unit.tid) units ≡ Some unit
found_by_id [] unit apart here = absurd (Contains-nil unit here)
found_by_id (u ∷ us) unit apart here =
    elim (Contains-cons u us unit here) [
      | inl same ↦ cond-true (is_tid u.tid unit.tid) (Some u) (find (λ (v : QueuedUnit). is_tid v.tid unit.tid) us)
          (is_tid-from u.tid unit.tid (ap (λ (v : QueuedUnit). v.tid) same))
          ∙ ap (λ (v : QueuedUnit). Some v) same
      | inr behind ↦ elim (cases_Bool (is_tid u.tid unit.tid)) [
        | inl its ↦ absurd (both_ways (is_listed unit.tid (tids_of us)) (subst (λ t. is_listed t (tids_of us) ≡ false) (is_tid-true u.tid unit.tid its) apart.0)
            (is_listed-Contains unit.tid (tids_of us) (Contains-map (λ (v : QueuedUnit). v.tid) us unit behind)))
        | inr other ↦ cond-false (is_tid u.tid unit.tid) (Some u) (find (λ (v : QueuedUnit). is_tid v.tid unit.tid) us) other
            ∙ found_by_id us unit apart.1 behind
      ]
    ]

-- the first unit that may be claimed is offered
pub ready-offered : (queues : QueuesOf) (unit : QueuedUnit) → NoneTwice (tids_of queues.units) → find (is_ready queues) queues.units ≡ Some unit
    → is_offered unit.tid queues ≡ true
ready-offered queues unit apart first =
    let there = find-Some (is_ready queues) queues.units unit first in
    ap (λ (found : Option QueuedUnit). option_map_or (is_ready queues) found false) (found_by_id queues.units unit apart there.0) ∙ there.1

by_none : (tid : TidOf) (queues : QueuesOf) (found : Option QueuedUnit) → unit_of tid queues ≡ found → find (is_ready queues) queues.units ≡ None
    → option_map_or (is_ready queues) found false ≡ false
by_none tid queues None named none = refl
by_none tid queues (Some unit) named none =
    find-None (is_ready queues) queues.units unit none (find-Some (λ (u : QueuedUnit). is_tid u.tid tid) queues.units unit named).0

-- where no unit may be claimed, none is offered
pub none_ready-offered : (tid : TidOf) (queues : QueuesOf) → find (is_ready queues) queues.units ≡ None → is_offered tid queues ≡ false
none_ready-offered tid queues none = by_none tid queues (unit_of tid queues) refl none

-- ---- a queue has no status exactly where it is empty

pub status-empty : (key : QueueKey) (queues : QueuesOf) → head_of key queues ≡ None → IsNone {T = QueueStatus} None ↔ (in_queue key queues ≡ [])
status-empty key queues none = (λ no. (find-filter_none (λ (u : QueuedUnit). has_key key u.keys) queues.units).0 none, λ empty. refl)

pub status-there : (key : QueueKey) (queues : QueuesOf) (head : QueuedUnit) (status : QueueStatus) → head_of key queues ≡ Some head →
    IsNone (Some status) ↔ (in_queue key queues ≡ [])
status-there key queues head status here = (
  λ no. absurd (cc),
  λ empty. let none = (find-filter_none (λ (u : QueuedUnit). has_key key u.keys) queues.units).1 empty in absurd (cc (none, here)),
)

-- ---- a queue that is started

-- the test does not mind the order of the keys
pub is_key-turned : (a b : QueueKey) → is_key a b ≡ is_key b a
is_key-turned a b =
    elim (cases_Bool (is_key a b)) [
      | inl same ↦ ap (λ (k : QueueKey). is_key k b) (is_key-true a b same) ∙ ap (λ (k : QueueKey). is_key b k) (sym (is_key-true a b same))
      | inr other ↦ other ∙ sym (false_from_ne_true (is_key b a) (λ same. both_ways (is_key a b) other
          (subst (λ (k : QueueKey). is_key k b ≡ true) (is_key-true b a same) (is_key-same b))))
    ]

-- a key that is left out of a list is in it no more, and every other one is as before
pub has_key-without : (key other : QueueKey) (stops : List QueueKey)
    → has_key other (filter (λ (k : QueueKey). not (is_key k key)) stops) ≡ (not (is_key key other) && has_key other stops)
has_key-without key other [] = sym (both_false (is_key key other))
  where
    both_false : (b : Bool) → (not b && false) ≡ false
    both_false true = refl
    both_false false = refl
has_key-without key other (k ∷ ks) =
    elim (cases_Bool (is_key k key)) [
      | inl same ↦ rw same (has_key-without key other ks
          ∙ left_out (is_key key other) (is_key k other) (has_key other ks) (ap (λ (j : QueueKey). is_key j other) (sym (is_key-true k key same))))
      | inr differs ↦ rw differs (ap (λ b. is_key k other || b) (has_key-without key other ks)
          ∙ kept (is_key key other) (is_key k other) (has_key other ks) (λ its. false_from_ne_true (is_key key other) (λ also.
          both_ways (is_key k key) differs (subst (λ (j : QueueKey). is_key k j ≡ true) (sym (is_key-true key other also)) its))))
    ]
  where
    left_out : (b a r : Bool) → b ≡ a → (not b && r) ≡ (not b && (a || r))
    left_out true a r same = refl
    left_out false true r same = cc
    left_out false false r same = refl

    kept : (b a r : Bool) → (a ≡ true → b ≡ false) → (a || (not b && r)) ≡ (not b && (a || r))
    kept b false r apart = refl
    kept true true r apart = apart refl
    kept false true r apart = refl

-- ---- an offered unit is free

-- queues that let a unit go are headed by it
heads-let_go : (tid : TidOf) (queues : QueuesOf) (keys : List QueueKey) → list_all (lets_go tid queues) keys ≡ true → list_all (heads tid queues) keys ≡ true
heads-let_go tid queues [] all = refl
heads-let_go tid queues (key ∷ keys) all =
    let parts = and_parts (lets_go tid queues key) (list_all (lets_go tid queues) keys) all in
    and_from (heads tid queues key) (list_all (heads tid queues) keys)
    (and_parts (heads tid queues key) (not (is_stopped key queues)) parts.0).0 (heads-let_go tid queues keys parts.1)

-- a unit that is offered is free
pub offered-free : (tid : TidOf) (queues : QueuesOf) → is_offered tid queues ≡ true → is_free tid queues ≡ true
offered-free tid queues offered = by (unit_of tid queues) offered
  where
    by : (found : Option QueuedUnit) → option_map_or (is_ready queues) found false ≡ true → option_map_or (is_free_unit queues) found false ≡ true
    by None ready = absurd (cc)
    by (Some unit) ready =
        let parts = and_parts (is_none unit.claim && is_none unit.mark) (list_all (lets_go unit.tid queues) unit.keys) ready in
        and_from (is_none unit.claim && is_none unit.mark) (list_all (heads unit.tid queues) unit.keys) parts.0
        (heads-let_go unit.tid queues unit.keys parts.1)
