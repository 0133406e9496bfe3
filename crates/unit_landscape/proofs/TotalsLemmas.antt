-- The totals of logs that keep the exactly-once law are in order, and they grow with the logs.
use Rattle.std.specs.Prelude.{Contains, All}
use Rattle.std.specs.List.{IsDistinct, AllByRecursion}
use Rattle.std.specs.Cmp.{IsEquivalence}
use Rattle.std.specs.Set.{is_member}
use Rattle.std.proofs.Common.{◌≡◌, inl, inr, ℕ, zero, suc, ◌+◌, ◌*◌, ◌≤◌, true, false, Option, Some, List, [], ◌∷◌, ◌++◌, length, take, refl, sym, ap, subst, ◌∙◌, arith, le_refl}
use Rattle.std.proofs.lemmas.Bool.{or_parts, both_ways, cases_Bool, cases_lt, false_from_ne_true}
use Rattle.std.proofs.lemmas.List.{length-append, length-map, take_all}
use Rattle.std.proofs.lemmas.List.Elements.{All-contains, Contains-append_left, Contains-append_right, Contains-append_cases}
use Rattle.std.proofs.lemmas.Map.Made.{length-le_from_is_member}
use Rattle.ale_base.specs.Tid.{TidOf, is_tid}
use Rattle.ale_base.specs.Prefix.{IsPrefix}
use Rattle.ale_base.proofs.PrefixLemmas.{IsPrefix-filter_map}
use Rattle.ale_base.proofs.MemberLemmas.{Contains-here, Contains-there, Contains-nil, Contains-map, Contains-map_back, list_any-Contains, list_any-found}
use Rattle.unit_core.specs.declared.ale_unit.AleUnit.{AleUnit}
use Rattle.unit_core.specs.declared.records.Record.{Record}
use Rattle.unit_core.specs.Filters.{received, executed, taken_by, executed_by}
use Rattle.unit_core.specs.Queues.{is_listed, tids_of}
use Rattle.unit_core.specs.Once.{NoneTwice, Once}
use Rattle.unit_core.proofs.TidLemmas.{is_tid-same, is_tid-true, is_tid-from, Contains-is_listed, is_listed-append}
use Rattle.unit_landscape.specs.Counted.{sum_to}

-- ---- ids of which none stands twice, all of them in another list, are no more than that has

is_tid-both : (a b : TidOf) → is_tid a b ≡ is_tid b a
is_tid-both a b =
    elim (cases_Bool (is_tid a b)) [
      | inl same ↦ same ∙ sym (is_tid-from b a (sym (is_tid-true a b same)))
      | inr other ↦ other ∙ sym (false_from_ne_true (is_tid b a) (λ (same : is_tid b a ≡ true).
          both_ways (is_tid a b) other (is_tid-from a b (sym (is_tid-true b a same)))))
    ]

tids_are : IsEquivalence is_tid
tids_are = record {
  refl = is_tid-same;
  symm = is_tid-both;
  congr = λ a b c same. ap (λ (t : TidOf). is_tid t c) (is_tid-true a b same);
}

apart_from : (tid : TidOf) (tids : List TidOf) → is_listed tid tids ≡ false → AllByRecursion (λ other. is_tid tid other ≡ false) tids
apart_from tid [] none = tt
apart_from tid (other ∷ tids) none =
    let parts = or_parts (is_tid other tid) (is_listed tid tids) none in (is_tid-both tid other ∙ parts.0, apart_from tid tids parts.1)

distinct : (tids : List TidOf) → NoneTwice tids → IsDistinct is_tid tids
unfolding IsDistinct
distinct [] none = tt
distinct (tid ∷ tids) none = (apart_from tid tids none.0, distinct tids none.1)

no_more : (some all : List TidOf) → NoneTwice some → ((tid : TidOf) → Contains some tid → Contains all tid) → length some ≤ length all
no_more some all none within =
    length-le_from_is_member tids_are some all (distinct some none)
    (λ (tid : TidOf) (member : is_member is_tid some tid ≡ true).
    let found = list_any-found (is_tid tid) some member in
    let there : Contains some tid = subst (Contains some) (sym (is_tid-true tid found.0 found.2)) found.1 in
    list_any-Contains (is_tid tid) all tid (within tid there) (is_tid-same tid))

NoneTwice-append : (front rest : List TidOf) → NoneTwice front → NoneTwice rest → ((tid : TidOf) → Contains front tid → Contains rest tid → ⊥)
    → NoneTwice (front ++ rest)
NoneTwice-append [] rest none none_too apart = none_too
NoneTwice-append (tid ∷ front) rest none none_too apart = (
  is_listed-append tid front rest none.0
      (false_from_ne_true (is_listed tid rest) (λ (listed : is_listed tid rest ≡ true). apart tid (Contains-here tid front) (Contains-is_listed tid rest listed))),
  NoneTwice-append front rest none.1 none_too (λ (other : TidOf) has there. apart other (Contains-there tid front other has) there),
)

-- ---- lists of the first systems

-- a list of each of the first systems, one behind the other
abbrev all_to : {A : Type 0} → (ℕ → List A) → ℕ → List A
all_to of zero = []
all_to of (suc system) = all_to of system ++ of (suc system)

Contains-all_to : {A : Type 0} (of : ℕ → List A) (n system : ℕ) (x : A) → 1 ≤ system → system ≤ n → Contains (of system) x → Contains (all_to of n) x
Contains-all_to of zero system x least most has = absurd (omega arith)
Contains-all_to of (suc n) system x least most has =
    elim (cases_lt n system) [
      | inl above ↦
          let last : system ≡ suc n = omega arith in
          Contains-append_right (all_to of n) (of (suc n)) x (subst (λ s. Contains (of s) x) last has)
      | inr below ↦ Contains-append_left (all_to of n) (of (suc n)) x (Contains-all_to of n system x least below has)
    ]

Contains-all_to_back : {A : Type 0} (of : ℕ → List A) (n : ℕ) (x : A) → Contains (all_to of n) x
    → (system : ℕ) × (1 ≤ system) × (system ≤ n) × Contains (of system) x
Contains-all_to_back of zero x has = absurd (Contains-nil x has)
Contains-all_to_back of (suc n) x has =
    elim (Contains-append_cases (all_to of n) (of (suc n)) x has) [
      | inl front ↦ let found = Contains-all_to_back of n x front in let most = found.2 in (found.0, found.1, omega arith, found.3)
      | inr last ↦ (suc n, omega arith, le_refl (suc n), last)
    ]

length-all_to : {A : Type 0} (of : ℕ → List A) (n : ℕ) → length (all_to of n) ≡ sum_to (λ system. length (of system)) n
length-all_to of zero = refl
length-all_to of (suc n) = length-append (all_to of n) (of (suc n)) ∙ ap (λ m. m + length (of (suc n))) (length-all_to of n)

NoneTwice-all_to : (of : ℕ → List TidOf) (n : ℕ) → ((system : ℕ) → NoneTwice (of system))
    → ((system other : ℕ) (tid : TidOf) → Contains (of system) tid → Contains (of other) tid → system ≡ other) → NoneTwice (all_to of n)
NoneTwice-all_to of zero each apart = tt
NoneTwice-all_to of (suc n) each apart =
    NoneTwice-append (all_to of n) (of (suc n)) (NoneTwice-all_to of n each apart) (each (suc n))
    (λ (tid : TidOf) has there.
    let found = Contains-all_to_back of n tid has in
    let most = found.2 in
    let same : found.0 ≡ suc n = apart found.0 (suc n) tid found.3 there in
    absurd (omega arith))

-- the sum of more systems is no smaller
pub sum_to-within : (many : ℕ → ℕ) (few n : ℕ) → few ≤ n → sum_to many few ≤ sum_to many n
sum_to-within many few zero most = let none : few ≡ 0 = omega (arith, most) in subst (λ k. sum_to many k ≤ 0) (sym none) (le_refl 0)
sum_to-within many few (suc n) most =
    elim (cases_lt n few) [
      | inl above ↦ let last : few ≡ suc n = omega (arith, above, most) in subst (λ k. sum_to many few ≤ sum_to many k) last (le_refl (sum_to many few))
      | inr below ↦ let rest = sum_to-within many few n below in omega (arith, rest)
    ]

-- sums of the same numbers are the same
pub sum_to-same : (one other : ℕ → ℕ) (n : ℕ) → ((system : ℕ) → 1 ≤ system → system ≤ n → one system ≡ other system) → sum_to one n ≡ sum_to other n
sum_to-same one other zero same = refl
sum_to-same one other (suc n) same =
    ap (λ m. m + one (suc n)) (sum_to-same one other n (λ system least most. same system least (omega (arith, most))))
    ∙ ap (λ m. sum_to other n + m) (same (suc n) (omega arith) (le_refl (suc n)))

sum_to-le : (few many : ℕ → ℕ) (n : ℕ) → ((system : ℕ) → few system ≤ many system) → sum_to few n ≤ sum_to many n
sum_to-le few many zero each = le_refl 0
sum_to-le few many (suc n) each = let rest = sum_to-le few many n each in let last = each (suc n) in omega arith

-- ---- the totals are in order

module _ (committed : ℕ → List AleUnit) (logs : ℕ → List Record) (once : Once committed logs) where
  executed_here : (system : ℕ) → length (executed (logs system)) ≤ length (received (logs system))
  executed_here system =
      let log : List Record = logs system in
      let order = once.executed_in_order system in
      let whole : take (length log) log ≡ log = take_all (length log) log (le_refl (length log)) in
      let were : All (λ tid. Contains (tids_of (received log)) tid) (executed log) =
      subst (λ (l : List Record). All (λ tid. Contains (tids_of (received l)) tid) (executed l)) whole (order.was_received (length log)) in
      let few = no_more (executed log) (tids_of (received log)) order.once
      (λ (tid : TidOf) has. All-contains (λ t. Contains (tids_of (received log)) t) (executed log) tid were has) in
      omega (arith, length-map (received log) (λ (unit : AleUnit). unit.tid))

  -- no more units were executed than received
  pub executed_le : (n : ℕ) → sum_to (λ system. length (executed (logs system))) n ≤ sum_to (λ system. length (received (logs system))) n
  executed_le n = sum_to-le (λ system. length (executed (logs system))) (λ system. length (received (logs system))) n executed_here

  -- Ids name units, and no system beyond the last committed any.
  module _ (named : TidOf → Option AleUnit) (is_named : (system : ℕ) (unit : AleUnit) → Contains (received (logs system)) unit → named unit.tid ≡ Some unit)
      (n : ℕ) (within : (system : ℕ) (unit : AleUnit) → Contains (committed system) unit → (1 ≤ system) × (system ≤ n)) where
    abbrev taken : ℕ → List TidOf
    taken system = tids_of (received (logs system))

    abbrev sent : ℕ → List TidOf
    sent system = tids_of (committed system)

    apart : (system other : ℕ) (tid : TidOf) → Contains (taken system) tid → Contains (taken other) tid → system ≡ other
    apart system other tid has there =
        let one = Contains-map_back (λ (unit : AleUnit). unit.tid) (received (logs system)) tid has in
        let two = Contains-map_back (λ (unit : AleUnit). unit.tid) (received (logs other)) tid there in
        let first : named tid ≡ Some one.0 = subst (λ t. named t ≡ Some one.0) one.2 (is_named system one.0 one.1) in
        let second : named tid ≡ Some two.0 = subst (λ t. named t ≡ Some two.0) two.2 (is_named other two.0 two.1) in
        let same : one.0 ≡ two.0 = cc (first, second) in
        let here = All-contains (λ (unit : AleUnit). (unit.receiver ≡ system) × Contains (committed unit.sender) unit) (received (logs system)) one.0
        (once.taken_was_committed system) one.1 in
        let elsewhere = All-contains (λ (unit : AleUnit). (unit.receiver ≡ other) × Contains (committed unit.sender) unit) (received (logs other)) two.0
        (once.taken_was_committed other) two.1 in
        sym here.0 ∙ (ap (λ (unit : AleUnit). unit.receiver) same ∙ elsewhere.0)

    was_sent : (tid : TidOf) → Contains (all_to taken n) tid → Contains (all_to sent n) tid
    was_sent tid has =
        let at = Contains-all_to_back taken n tid has in
        let one = Contains-map_back (λ (unit : AleUnit). unit.tid) (received (logs at.0)) tid at.3 in
        let from = All-contains (λ (unit : AleUnit). (unit.receiver ≡ at.0) × Contains (committed unit.sender) unit) (received (logs at.0)) one.0
        (once.taken_was_committed at.0) one.1 in
        let range = within one.0.sender one.0 from.1 in
        Contains-all_to sent n one.0.sender tid range.0 range.1
        (subst (Contains (sent one.0.sender)) one.2 (Contains-map (λ (unit : AleUnit). unit.tid) (committed one.0.sender) one.0 from.1))

    -- no more units were received than committed
    pub received_le : sum_to (λ system. length (received (logs system))) n ≤ sum_to (λ system. length (committed system)) n
    received_le =
        let few = no_more (all_to taken n) (all_to sent n) (NoneTwice-all_to taken n once.taken_once apart) was_sent in
        let one = sum_to-le (λ system. length (received (logs system))) (λ system. length (taken system)) n
        (λ system. let e = length-map (received (logs system)) (λ (unit : AleUnit). unit.tid) in omega arith) in
        let two = sum_to-le (λ system. length (sent system)) (λ system. length (committed system)) n
        (λ system. let e = length-map (committed system) (λ (unit : AleUnit). unit.tid) in omega arith) in
        omega (arith, length-all_to taken n, length-all_to sent n)

-- ---- the totals grow with the logs

no_longer : {A : Type 0} (front whole : List A) → IsPrefix front whole → length front ≤ length whole
no_longer front whole goes_on = let e = ap length goes_on.1 in omega (arith, length-append front goes_on.0)

pub received_grows : (logs after : ℕ → List Record) (n : ℕ) → ((system : ℕ) → IsPrefix (logs system) (after system))
    → sum_to (λ system. length (received (logs system))) n ≤ sum_to (λ system. length (received (after system))) n
received_grows logs after n grow = sum_to-le (λ system. length (received (logs system))) (λ system. length (received (after system))) n
    (λ system. no_longer (received (logs system)) (received (after system)) (IsPrefix-filter_map taken_by (logs system) (after system) (grow system)))

pub executed_grows : (logs after : ℕ → List Record) (n : ℕ) → ((system : ℕ) → IsPrefix (logs system) (after system))
    → sum_to (λ system. length (executed (logs system))) n ≤ sum_to (λ system. length (executed (after system))) n
executed_grows logs after n grow = sum_to-le (λ system. length (executed (logs system))) (λ system. length (executed (after system))) n
    (λ system. no_longer (executed (logs system)) (executed (after system)) (IsPrefix-filter_map executed_by (logs system) (after system) (grow system)))

pub committed_grows : (committed after : ℕ → List AleUnit) (n : ℕ) → ((system : ℕ) → IsPrefix (committed system) (after system))
    → sum_to (λ system. length (committed system)) n ≤ sum_to (λ system. length (after system)) n
committed_grows committed after n grow = sum_to-le (λ system. length (committed system)) (λ system. length (after system)) n
    (λ system. no_longer (committed system) (after system) (grow system))

-- so many at most of each system are so many times as many at most of all
pub sum_to-most : (many : ℕ → ℕ) (most n : ℕ) → ((system : ℕ) → many system ≤ most) → sum_to many n ≤ n * most
sum_to-most many most zero each = omega arith
sum_to-most many most (suc n) each = let rest = sum_to-most many most n each in let last = each (suc n) in omega (arith, suc_times)
  where
    suc_times : suc n * most ≡ n * most + most
    suc_times = omega arith
