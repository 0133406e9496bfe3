-- What an operator is shown of a system.
use Rattle.std.proofs.lemmas.Bool.{and_from, le-leb, cases_Bool, false_from_ne_true, both_ways}
use Rattle.std.specs.declared.cmp.Ordering.{Ordering}
use Rattle.std.specs.declared.cmp.Ordering.TheVariants.{Less, Equal, Greater}
use Rattle.std.specs.Cmp.{nat_cmp_total}
use Rattle.std.specs.List.{AllByRecursion, IsDistinct}
use Rattle.std.specs.List.Sorted.{IsStrictlySortedBy}
use Rattle.std.specs.Ordering.{nat_cmp, ordering_reverse, ordering_then}
use Rattle.std.proofs.Common.{◌≡◌, ℕ, true, false, ◌&&◌, ◌||◌, inl, inr, Option, Some, None, List, [], ◌∷◌, filter, map, refl, sym, ap, subst, ◌∙◌}
use Rattle.ale_base.specs.Tid.{TidOf, IsTid, has_range, is_tid}
use Rattle.unit_core.specs.Queues.{is_listed}
use Rattle.unit_core.proofs.TidLemmas.{is_tid-true}
use Rattle.system_tables.specs.OfLog.{is_unconfirmed}
use Rattle.system_tables.specs.Tables.{TablesOf}
use Rattle.tid_table.specs.Numbers.{tid_of}
use Rattle.trfc_protocol.specs.declared.world.World.{World}
use Rattle.trfc_protocol.specs.Worlds.{log_of}
use Rattle.unit_landscape.specs.KeptWorlds.{KeptOf}
use Rattle.unit_landscape.specs.Tables.{AreTablesUp}
use Rattle.document_state.specs.declared.document_tables.DocumentTables.{DocumentTables}
use Rattle.document_state.specs.Tables.{AreTablesOf}
use Rattle.document_state.specs.declared.model_rules.ModelRules.{ModelRules}
use Rattle.landscape.specs.Shown.{AreShownBy, AreUnconfirmedAt}
use Rattle.landscape.proofs.BegunLemmas.{meaning}

-- the tables of a system are those by which it is shown
pub shown-by : {V : Type 0} (kept : KeptOf ModelRules DocumentTables V) (system : ℕ) (found : Option (TablesOf DocumentTables))
    → AreTablesUp (λ one log. AreTablesOf log one) (meaning kept.world.rules) kept system found → AreShownBy kept.world system found
shown-by kept system None is = is
shown-by kept system (Some its) is = (is.up, is.agree)

-- ---- ids in their range

range_of : (tid : TidOf) → IsTid tid → has_range tid ≡ true
range_of tid is =
    and_from _ _ (and_from _ _ (le-leb 1 tid.system is.system_least) (le-leb tid.system 16 is.system_most))
    (and_from _ _ (le-leb 1 tid.unit is.unit_least) (le-leb tid.unit 65536 is.unit_most))

other_range : (tid one : TidOf) → IsTid tid → has_range one ≡ false → is_tid one tid ≡ false
other_range tid one is outside =
    false_from_ne_true (is_tid one tid)
    (λ same. both_ways (has_range one) outside (subst (λ t. has_range t ≡ true) (sym (is_tid-true one tid same)) (range_of tid is)))

-- an id that is listed is listed among those that are in the range of ids
pub listed-range : (tid : TidOf) (tids : List TidOf) → IsTid tid → is_listed tid (filter has_range tids) ≡ is_listed tid tids
listed-range tid [] is = refl
listed-range tid (one ∷ rest) is =
    elim (cases_Bool (has_range one)) [
      | inl inside ↦ rw inside (ap (λ found. is_tid one tid || found) (listed-range tid rest is))
      | inr outside ↦ rw outside (listed-range tid rest is ∙ sym (ap (λ b. b || is_listed tid rest) (other_range tid one is outside)))
    ]

-- the ids of those that the tables have are those of the units that are done and not ended
pub unconfirmed-at : (world : World ModelRules) (system : ℕ) (its : TablesOf DocumentTables) (tids : List TidOf) → AreShownBy world system (Some its)
    → tids ≡ filter has_range its.unconfirmed → AreUnconfirmedAt world system tids
unconfirmed-at world system its tids by are = λ tid is.
    ap (is_listed tid) are ∙ listed-range tid its.unconfirmed is ∙ by.1.unconfirmed.each tid
    ∙ ap (λ up. up && is_unconfirmed tid (log_of world system)) (sym by.0)

-- ---- ids that differ

-- numbers of system and unit, compared in this order
abbrev pub by_numbers : ℕ × ℕ → ℕ × ℕ → Ordering
by_numbers x y = ordering_then (nat_cmp x.0 y.0) (nat_cmp x.1 y.1)

-- an order that is its own reverse
alike : (o : Ordering) → o ≡ ordering_reverse o → o ≡ Equal
alike Less same = cc
alike Equal same = refl
alike Greater same = cc

-- numbers that are below others are those of another id
below-other : (x y : ℕ × ℕ) → by_numbers x y ≡ Less → is_tid (tid_of x) (tid_of y) ≡ false
below-other x y below =
    false_from_ne_true (is_tid (tid_of x) (tid_of y)) (λ same.
    let equal = is_tid-true (tid_of x) (tid_of y) same in
    let first : x.0 ≡ y.0 = ap (λ (t : TidOf). t.system) equal in
    let second : x.1 ≡ y.1 = ap (λ (t : TidOf). t.unit) equal in
    let none : by_numbers x x ≡ Less = ap (λ n. ordering_then (nat_cmp x.0 n) (nat_cmp x.1 x.1)) first ∙ ap (λ n. ordering_then (nat_cmp x.0 y.0)
    (nat_cmp x.1 n)) second ∙ below in
    let itself : by_numbers x x ≡ Equal = is_equal x.0 x.1 in
    let wrong = sym none ∙ itself in
    cc)
  where
    same_number : (n : ℕ) → nat_cmp n n ≡ Equal
    same_number n = alike (nat_cmp n n) (nat_cmp_total.antisymm n n)

    is_equal : (n m : ℕ) → ordering_then (nat_cmp n n) (nat_cmp m m) ≡ Equal
    is_equal n m = ap (λ o. ordering_then o (nat_cmp m m)) (same_number n) ∙ same_number m

below-others : (x : ℕ × ℕ) (numbers : List (ℕ × ℕ)) → AllByRecursion (λ y. by_numbers x y ≡ Less) numbers
    → AllByRecursion (λ t. is_tid (tid_of x) t ≡ false) (filter has_range (map tid_of numbers))
below-others x [] below = tt
below-others x (y ∷ rest) below = elim (cases_Bool (has_range (tid_of y))) [
  | inl inside ↦ rw inside (below-other x y below.0, below-others x rest below.1)
  | inr outside ↦ rw outside (below-others x rest below.1)
]

-- ids of numbers in order, each is there once
pub ids-apart : (numbers : List (ℕ × ℕ)) → IsStrictlySortedBy by_numbers numbers → IsDistinct is_tid (filter has_range (map tid_of numbers))
unfolding IsStrictlySortedBy IsDistinct
ids-apart [] sorted = tt
ids-apart (x ∷ rest) sorted = elim (cases_Bool (has_range (tid_of x))) [
  | inl inside ↦ rw inside (below-others x rest sorted.0, ids-apart rest sorted.1)
  | inr outside ↦ rw outside (ids-apart rest sorted.1)
]

-- none are apart
pub none-apart : (tids : List TidOf) → tids ≡ [] → IsDistinct is_tid tids
unfolding IsDistinct
none-apart tids none = subst (IsDistinct is_tid) (sym none) tt
