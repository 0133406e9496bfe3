-- Units by their ids, and one of them changed.
use Rattle.std.specs.Prelude.{filter, find, slice_get, slice_set, position, Contains}
use Rattle.std.specs.List.{list_any, position_or_len}
use Rattle.std.proofs.Common.{◌≡◌, ◌≤◌, ℕ, zero, suc, Bool, true, false, ◌||◌, Some, None, List, [], ◌∷◌, ◌++◌, map, cond, inl, inr, refl, sym, ap, subst, ◌∙◌}
use Rattle.std.proofs.Common.{length, arith, ltb}
use Rattle.std.proofs.lemmas.Bool.{cases_Bool, both_ways, or_parts, or_from, cond-true, cond-false, cases_lt, lt-ltb}
use Rattle.std.proofs.lemmas.List.{map-append}
use Rattle.std.proofs.lemmas.List.Quantifiers.{position-Some}
use Rattle.std.proofs.lemmas.List.Sums.{fails_before_first}
use Rattle.std.proofs.lemmas.List.Folds.{list_any_none}
use Rattle.std.proofs.lemmas.Option.{get_or_from_slice_get}
use Rattle.ale_base.specs.Tid.{TidOf, is_tid}
use Rattle.ale_base.proofs.MemberLemmas.{Contains-here}
use Rattle.unit_core.specs.Queues.{is_listed}
use Rattle.unit_core.specs.Once.{NoneTwice}
use Rattle.unit_core.proofs.TidLemmas.{is_tid-true, is_listed-Contains, NoneTwice-push}
use Rattle.plain_queues.specs.declared.queued_unit.QueuedUnit.{QueuedUnit}
use Rattle.plain_queues.specs.Queues.{tids_of}
use Rattle.plain_queues.specs.Changes.{changed_if}

some_is_not_none : (unit : QueuedUnit) → Some unit ≡ None → ⊥
some_is_not_none unit same = cc

-- an id that no unit is found by is not among those of the units
pub not_found : (tid : TidOf) (units : List QueuedUnit) → find (λ (unit : QueuedUnit). is_tid unit.tid tid) units ≡ None → is_listed tid (tids_of units) ≡ false
not_found tid [] none = refl
not_found tid (u ∷ us) none =
    elim (cases_Bool (is_tid u.tid tid)) [
      | inl its ↦ absurd (some_is_not_none u (sym (cond-true (is_tid u.tid tid) (Some u) (find (λ (unit : QueuedUnit). is_tid unit.tid tid) us) its) ∙ none))
      | inr other ↦ or_from (is_tid u.tid tid) (is_listed tid (tids_of us)) other
          (not_found tid us (sym (cond-false (is_tid u.tid tid) (Some u) (find (λ (unit : QueuedUnit). is_tid unit.tid tid) us) other) ∙ none))
    ]

-- where no unit has the id, none changes
pub changed-none : (change : QueuedUnit → QueuedUnit) (tid : TidOf) (units : List QueuedUnit) → is_listed tid (tids_of units) ≡ false
    → map (changed_if change tid) units ≡ units
changed-none change tid [] none = refl
changed-none change tid (u ∷ us) none =
    let parts = or_parts (is_tid u.tid tid) (is_listed tid (tids_of us)) none in
    ap (λ first. first ∷ map (changed_if change tid) us) (cond-false (is_tid u.tid tid) (change u) u parts.0)
    ∙ ap (λ rest. u ∷ rest) (changed-none change tid us parts.1)

-- the id of a unit at a place is among those of the units
listed_at : (units : List QueuedUnit) (place : ℕ) (unit : QueuedUnit) → slice_get units place ≡ Some unit → is_listed unit.tid (tids_of units) ≡ true
listed_at [] place unit here = cc
listed_at (u ∷ us) zero unit here =
    let same : u ≡ unit = cc in
    is_listed-Contains unit.tid (tids_of (u ∷ us)) (subst (λ (v : QueuedUnit). Contains (tids_of (u ∷ us)) v.tid) same (Contains-here u.tid (tids_of us)))
listed_at (u ∷ us) (suc place) unit here =
    let behind = listed_at us place unit here in
    elim (cases_Bool (is_tid u.tid unit.tid)) [
      | inl its ↦ ap (λ b. b || is_listed unit.tid (tids_of us)) its
      | inr other ↦ ap (λ b. b || is_listed unit.tid (tids_of us)) other ∙ behind
    ]

-- where no two units have the same id, the one at a place is the only one of its id that changes
pub changed-at : (change : QueuedUnit → QueuedUnit) (tid : TidOf) (units : List QueuedUnit) (place : ℕ) (unit : QueuedUnit) → NoneTwice (tids_of units)
    → slice_get units place ≡ Some unit → is_tid unit.tid tid ≡ true → slice_set units place (change unit) ≡ map (changed_if change tid) units
changed-at change tid [] place unit apart here its = cc
changed-at change tid (u ∷ us) zero unit apart here its =
    let same : u ≡ unit = cc in
    let named : is_tid u.tid tid ≡ true = ap (λ (v : QueuedUnit). is_tid v.tid tid) same ∙ its in
    let others : is_listed tid (tids_of us) ≡ false = subst (λ t. is_listed t (tids_of us) ≡ false) (is_tid-true u.tid tid named) apart.0 in
    sym (ap (λ first. first ∷ map (changed_if change tid) us) (cond-true (is_tid u.tid tid) (change u) u named ∙ ap change same)
    ∙ ap (λ rest. change unit ∷ rest) (changed-none change tid us others))
changed-at change tid (u ∷ us) (suc place) unit apart here its =
    let listed : is_listed tid (tids_of us) ≡ true = subst (λ t. is_listed t (tids_of us) ≡ true) (is_tid-true unit.tid tid its)
    (listed_at us place unit here) in
    elim (cases_Bool (is_tid u.tid tid)) [
      | inl same ↦ absurd (both_ways (is_listed tid (tids_of us)) (subst (λ t. is_listed t (tids_of us) ≡ false) (is_tid-true u.tid tid same) apart.0) listed)
      | inr other ↦ ap (λ rest. u ∷ rest) (changed-at change tid us place unit apart.1 here its)
          ∙ sym (ap (λ first. first ∷ map (changed_if change tid) us) (cond-false (is_tid u.tid tid) (change u) u other))
    ]

tid_if : (change : QueuedUnit → QueuedUnit) (unit : QueuedUnit) → (change unit).tid ≡ unit.tid → (b : Bool) → (cond b (change unit) unit).tid ≡ unit.tid
tid_if change unit keeps true = keeps
tid_if change unit keeps false = refl

-- a change keeps the ids, where it keeps that of each unit
pub changed-tids : (change : QueuedUnit → QueuedUnit) (tid : TidOf) (units : List QueuedUnit) → ((unit : QueuedUnit) → (change unit).tid ≡ unit.tid)
    → tids_of (map (changed_if change tid) units) ≡ tids_of units
changed-tids change tid [] keeps = refl
changed-tids change tid (u ∷ us) keeps =
    ap (λ t. t ∷ tids_of (map (changed_if change tid) us)) (tid_if change u (keeps u) (is_tid u.tid tid))
    ∙ ap (λ rest. u.tid ∷ rest) (changed-tids change tid us keeps)

-- an id that is not among those of units is not among those of some of them
is_listed-kept : (test : QueuedUnit → Bool) (tid : TidOf) (units : List QueuedUnit) → is_listed tid (tids_of units) ≡ false →
    is_listed tid (tids_of (filter test units)) ≡ false
is_listed-kept test tid [] none = refl
is_listed-kept test tid (u ∷ us) none =
    let parts = or_parts (is_tid u.tid tid) (is_listed tid (tids_of us)) none in
    elim (cases_Bool (test u)) [
      | inl pass ↦ rw pass (or_from (is_tid u.tid tid) (is_listed tid (tids_of (filter test us))) parts.0 (is_listed-kept test tid us parts.1))
      | inr out ↦ rw out (is_listed-kept test tid us parts.1)
    ]

-- no two of some units have the same id, where no two of all have
pub NoneTwice-kept : (test : QueuedUnit → Bool) (units : List QueuedUnit) → NoneTwice (tids_of units) → NoneTwice (tids_of (filter test units))
NoneTwice-kept test [] apart = tt
NoneTwice-kept test (u ∷ us) apart =
    elim (cases_Bool (test u)) [
      | inl pass ↦ rw pass (is_listed-kept test u.tid us apart.0, NoneTwice-kept test us apart.1)
      | inr out ↦ rw out (NoneTwice-kept test us apart.1)
    ]

-- the unit at the place where one of an id is found has this id
pub position-at : (tid : TidOf) (units : List QueuedUnit) (place : ℕ) (unit : QueuedUnit) → position (λ (u : QueuedUnit). is_tid u.tid tid) units ≡ Some place
    → slice_get units place ≡ Some unit → is_tid unit.tid tid ≡ true
position-at tid units place unit found here =
    let passes = (position-Some (λ (u : QueuedUnit). is_tid u.tid tid) units place unit found).1 in
    sym (ap (λ (u : QueuedUnit). is_tid u.tid tid) (get_or_from_slice_get units place unit unit here)) ∙ passes

-- where no place is found, no unit has the id
pub position-none : (tid : TidOf) (units : List QueuedUnit) → position (λ (u : QueuedUnit). is_tid u.tid tid) units ≡ None →
    is_listed tid (tids_of units) ≡ false
position-none tid units none =
    any_listed tid units ∙ list_any_none (λ (u : QueuedUnit). is_tid u.tid tid) units
    (λ k d within. fails_before_first (λ (u : QueuedUnit). is_tid u.tid tid) units k d
    (omega (arith, within, past (position_or_len (λ (u : QueuedUnit). is_tid u.tid tid) units) (length units) none)))
  where
    any_listed : (tid : TidOf) (units : List QueuedUnit) → is_listed tid (tids_of units) ≡ list_any (λ (u : QueuedUnit). is_tid u.tid tid) units
    any_listed tid [] = refl
    any_listed tid (u ∷ us) = ap (λ b. is_tid u.tid tid || b) (any_listed tid us)

    past : (first count : ℕ) → cond (ltb first count) (Some first) None ≡ None → count ≤ first
    past first count none =
        elim (cases_lt first count) [
          | inl before ↦ let found : Some first ≡ None = sym (cond-true (ltb first count) (Some first) None (lt-ltb first count before)) ∙ none in absurd (cc)
          | inr behind ↦ behind
        ]

-- a unit of a new id behind units of other ids
pub NoneTwice-added : (units : List QueuedUnit) (unit : QueuedUnit) → NoneTwice (tids_of units) → find (λ (u : QueuedUnit). is_tid u.tid unit.tid) units ≡ None
    → NoneTwice (tids_of (units ++ unit ∷ []))
NoneTwice-added units unit apart new =
    subst NoneTwice (sym (map-append (λ (u : QueuedUnit). u.tid) units (unit ∷ [])))
    (NoneTwice-push (tids_of units) unit.tid apart (not_found unit.tid units new))
