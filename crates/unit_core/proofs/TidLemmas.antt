-- Ids in lists, and units by their ids.
use Rattle.std.specs.Prelude.{filter, Contains}
use Rattle.std.proofs.Common.{◌≡◌, ◌≢◌, ◌==◌, Bool, true, false, ◌||◌, Some, List, [], ◌∷◌, ◌++◌, inl, inr, refl, sym, ap, subst, ◌∙◌}
use Rattle.std.proofs.lemmas.Bool.{cases_Bool, and_parts, and_from, or_parts, or_from, both_ways, eqb-true, eq-eqb, false_from_ne_true, cond-true, cond-false}
use Rattle.std.proofs.lemmas.List.Folds.{list_any-append}
use Rattle.ale_base.specs.Tid.{TidOf, is_tid}
use Rattle.unit_core.specs.declared.ale_unit.AleUnit.{AleUnit}
use Rattle.unit_core.specs.Queues.{is_listed, is_among, unit_named, tids_of}
use Rattle.unit_core.specs.Once.{NoneTwice}
use Rattle.ale_base.proofs.MemberLemmas.{Contains-here, Contains-cons, Contains-nil, list_any-Contains, list_any-found, find-Some}

-- an id is the same as itself
pub is_tid-same : (a : TidOf) → is_tid a a ≡ true
is_tid-same a = and_from (a.system == a.system) (a.unit == a.unit) (eq-eqb a.system a.system refl) (eq-eqb a.unit a.unit refl)

-- ids that the test takes for the same are equal
pub is_tid-true : (a b : TidOf) → is_tid a b ≡ true → a ≡ b
is_tid-true a b same =
    let parts = and_parts (a.system == b.system) (a.unit == b.unit) same in
    let systems : a.system ≡ b.system = eqb-true a.system b.system parts.0 in
    let units : a.unit ≡ b.unit = eqb-true a.unit b.unit parts.1 in
    λ i. record { system = systems i; unit = units i }

-- the test takes equal ids for the same
pub is_tid-from : (a b : TidOf) → a ≡ b → is_tid a b ≡ true
is_tid-from a b same = subst (λ t. is_tid a t ≡ true) same (is_tid-same a)

-- the test tells different ids apart
pub is_tid-other : (a b : TidOf) → a ≢ b → is_tid a b ≡ false
is_tid-other a b other = false_from_ne_true (is_tid a b) (λ same. other (is_tid-true a b same))

-- ---- an id in a list

-- the test finds an id that is in a list
pub is_listed-Contains : (tid : TidOf) (tids : List TidOf) → Contains tids tid → is_listed tid tids ≡ true
is_listed-Contains tid tids has = list_any-Contains (λ other. is_tid other tid) tids tid has (is_tid-same tid)

-- an id that the test finds is in the list
pub Contains-is_listed : (tid : TidOf) (tids : List TidOf) → is_listed tid tids ≡ true → Contains tids tid
Contains-is_listed tid tids listed =
    let found = list_any-found (λ other. is_tid other tid) tids listed in
    subst (Contains tids) (is_tid-true found.0 tid found.2) found.1

-- an id is in neither of two lists, so not in both together
pub is_listed-append : (tid : TidOf) (xs ys : List TidOf) → is_listed tid xs ≡ false → is_listed tid ys ≡ false → is_listed tid (xs ++ ys) ≡ false
is_listed-append tid xs ys miss none =
    list_any-append (λ other. is_tid other tid) xs ys ∙ or_from (is_listed tid xs) (is_listed tid ys) miss none

-- an id that is not in a list is not in its front
pub is_listed-front : (tid : TidOf) (xs ys : List TidOf) → is_listed tid (xs ++ ys) ≡ false → is_listed tid xs ≡ false
is_listed-front tid xs ys miss =
    (or_parts (is_listed tid xs) (is_listed tid ys) (sym (list_any-append (λ other. is_tid other tid) xs ys) ∙ miss)).0

-- an id is not in the list of another one
pub is_listed-one : (tid other : TidOf) → other ≢ tid → is_listed tid (other ∷ []) ≡ false
is_listed-one tid other differs = or_from (is_tid other tid) false (is_tid-other other tid differs) refl

-- ---- a unit of an id

-- whether an id is among those of units
pub is_among-listed : (tid : TidOf) (units : List AleUnit) → is_among tid units ≡ is_listed tid (tids_of units)
is_among-listed tid [] = refl
is_among-listed tid (unit ∷ units) = ap (λ b. is_tid unit.tid tid || b) (is_among-listed tid units)

-- the test finds the id of a unit that is in a list
pub is_among-Contains : (unit : AleUnit) (units : List AleUnit) → Contains units unit → is_among unit.tid units ≡ true
is_among-Contains unit units has = list_any-Contains (λ other. is_tid other.tid unit.tid) units unit has (is_tid-same unit.tid)

-- an id that the test finds is that of a unit in the list
pub Contains-is_among : (tid : TidOf) (units : List AleUnit) → is_among tid units ≡ true → (unit : AleUnit) × Contains units unit × (unit.tid ≡ tid)
Contains-is_among tid units among =
    let found = list_any-found (λ unit. is_tid unit.tid tid) units among in
    (found.0, found.1, is_tid-true found.0.tid tid found.2)

-- a unit that is found by an id is in the list and has that id
pub unit_named-Some : (tid : TidOf) (units : List AleUnit) (unit : AleUnit) → unit_named tid units ≡ Some unit → Contains units unit × (unit.tid ≡ tid)
unit_named-Some tid units unit named =
    let found = find-Some (λ u. is_tid u.tid tid) units unit named in
    (found.0, is_tid-true unit.tid tid found.1)

-- ---- no id twice

-- no id is twice in a list with a new one behind it
pub NoneTwice-push : (tids : List TidOf) (tid : TidOf) → NoneTwice tids → is_listed tid tids ≡ false → NoneTwice (tids ++ tid ∷ [])
NoneTwice-push [] tid none new = (refl, tt)
NoneTwice-push (t ∷ ts) tid none new =
    let parts = or_parts (is_tid t tid) (is_listed tid ts) new in (
      is_listed-append t ts (tid ∷ []) none.0 (is_listed-one t tid (λ same. both_ways (is_tid t tid) parts.0 (is_tid-from t tid (sym same)))),
      NoneTwice-push ts tid none.1 parts.1,
    )

-- two units of a list in which no id stands twice are the same where their ids are
pub same_unit : (units : List AleUnit) (a b : AleUnit) → NoneTwice (tids_of units) → Contains units a → Contains units b → a.tid ≡ b.tid → a ≡ b
same_unit [] a b none has_a has_b same = absurd (Contains-nil a has_a)
same_unit (u ∷ us) a b none has_a has_b same =
    elim (Contains-cons u us a has_a) [
      | inl is_a ↦ elim (Contains-cons u us b has_b) [
        | inl is_b ↦ sym is_a ∙ is_b
        | inr behind ↦ absurd (twice u us b none.0 behind (ap (λ v. v.tid) is_a ∙ same))
      ]
      | inr behind_a ↦ elim (Contains-cons u us b has_b) [
        | inl is_b ↦ absurd (twice u us a none.0 behind_a (ap (λ v. v.tid) is_b ∙ sym same))
        | inr behind_b ↦ same_unit us a b none.1 behind_a behind_b same
      ]
    ]
  where
    twice : (u : AleUnit) (us : List AleUnit) (v : AleUnit) → is_listed u.tid (tids_of us) ≡ false → Contains us v → u.tid ≡ v.tid → ⊥
    twice u us v none has same =
        both_ways (is_among u.tid us) (is_among-listed u.tid us ∙ none) (subst (λ t. is_among t us ≡ true) (sym same) (is_among-Contains v us has))

-- the one unit of an id is the one that is found by it
pub unit_named-Contains : (units : List AleUnit) (unit : AleUnit) → NoneTwice (tids_of units) → Contains units unit → unit_named unit.tid units ≡ Some unit
unit_named-Contains [] unit none has = absurd (Contains-nil unit has)
unit_named-Contains (u ∷ us) unit none has =
    elim (cases_Bool (is_tid u.tid unit.tid)) [
      | inl pass ↦ cond-true (is_tid u.tid unit.tid) (Some u) (unit_named unit.tid us) pass
          ∙ ap Some (same_unit (u ∷ us) u unit none (Contains-here u us) has (is_tid-true u.tid unit.tid pass))
      | inr miss ↦ elim (Contains-cons u us unit has) [
        | inl same ↦ absurd (both_ways (is_tid u.tid unit.tid) miss (is_tid-from u.tid unit.tid (ap (λ v. v.tid) same)))
        | inr behind ↦ cond-false (is_tid u.tid unit.tid) (Some u) (unit_named unit.tid us) miss ∙ unit_named-Contains us unit none.1 behind
      ]
    ]

-- what is kept of a list in which no id stands twice
is_listed-filter : (p : AleUnit → Bool) (tid : TidOf) (units : List AleUnit) → is_listed tid (tids_of units) ≡ false
    → is_listed tid (tids_of (filter p units)) ≡ false
is_listed-filter p tid [] miss = refl
is_listed-filter p tid (u ∷ us) miss =
    let parts = or_parts (is_tid u.tid tid) (is_listed tid (tids_of us)) miss in
    elim (cases_Bool (p u)) [
      | inl pass ↦ rw pass (or_from (is_tid u.tid tid) (is_listed tid (tids_of (filter p us))) parts.0 (is_listed-filter p tid us parts.1))
      | inr out ↦ rw out (is_listed-filter p tid us parts.1)
    ]

-- no id is twice among the units that are kept of a list where none is
pub NoneTwice-filter : (p : AleUnit → Bool) (units : List AleUnit) → NoneTwice (tids_of units) → NoneTwice (tids_of (filter p units))
NoneTwice-filter p [] none = tt
NoneTwice-filter p (u ∷ us) none =
    elim (cases_Bool (p u)) [
      | inl pass ↦ rw pass (is_listed-filter p u.tid us none.0, NoneTwice-filter p us none.1)
      | inr out ↦ rw out (NoneTwice-filter p us none.1)
    ]
