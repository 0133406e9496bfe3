-- Claims: their numbers and units differ, where one goes and where one more is made.
use Rattle.std.specs.Prelude.{Contains, All, filter}
use Rattle.std.proofs.Common.{◌≡◌, ◌≢◌, ℕ, ◌<◌, ◌==◌, Bool, true, false, not, cond, ◌&&◌, Some, None, List, [], ◌∷◌, ◌++◌, inl, inr, refl, sym, ap, subst, ◌∙◌}
use Rattle.std.proofs.Common.{arith}
use Rattle.std.proofs.lemmas.Bool.{cases_Bool, cond-true, cond-false, and_parts, and_from, or_parts, both_ways, eqb-true, eq-eqb, ne_eqb, false_from_ne_true}
use Rattle.std.proofs.lemmas.List.Elements.{All-weaker, All-contains_itself, Contains-push_cases}
use Rattle.std.proofs.lemmas.Option.{same_Some, none-some}
use Rattle.ale_base.specs.Tid.{TidOf, is_tid}
use Rattle.ale_base.proofs.MemberLemmas.{Contains-here, Contains-there, Contains-cons, Contains-nil, Contains-filter_back, list_any-Contains, find-Some}
use Rattle.ale_base.proofs.MemberLemmas.{list_any-found}
use Rattle.unit_core.proofs.TidLemmas.{is_tid-from, is_tid-same, is_tid-true}
use Rattle.trfc_protocol.specs.declared.held.Held.{Held}
use Rattle.trfc_protocol.specs.declared.held.HeldKind.{HeldKind}
use Rattle.trfc_protocol.specs.declared.held.HeldKind.TheVariants.{Out, In, Direct}
use Rattle.trfc_protocol.specs.Worlds.{is_kind, is_claimed, is_claimed_at, claim_of}
use Rattle.trfc_protocol.specs.Safe.{AreApart}

-- what holds of each element of a list
pub All-from_Contains : {X : Type 0} (P : X → Type 0) (xs : List X) → ((x : X) → Contains xs x → P x) → All P xs
All-from_Contains P xs each = All-weaker (Contains xs) P each xs (All-contains_itself xs)

-- a kind is the same as itself
pub is_kind-same : (kind : HeldKind) → is_kind kind kind ≡ true
is_kind-same Out = refl
is_kind-same In = refl
is_kind-same Direct = refl

-- kinds that the test takes for the same are equal
pub is_kind-true : (a b : HeldKind) → is_kind a b ≡ true → a ≡ b
is_kind-true Out Out same = refl
is_kind-true In In same = refl
is_kind-true Direct Direct same = refl
is_kind-true Out In same = cc
is_kind-true Out Direct same = cc
is_kind-true In Out same = cc
is_kind-true In Direct same = cc
is_kind-true Direct Out same = cc
is_kind-true Direct In same = cc

-- a claim of this kind and unit is among them
pub is_claimed-Contains : (kind : HeldKind) (tid : TidOf) (claims : List Held) (held : Held) → Contains claims held → held.kind ≡ kind → held.tid ≡ tid
    → is_claimed kind tid claims ≡ true
is_claimed-Contains kind tid claims held has same_kind same_tid =
    list_any-Contains (λ h. is_kind h.kind kind && is_tid h.tid tid) claims held has
    (and_from (is_kind held.kind kind) (is_tid held.tid tid) (subst (λ k. is_kind k kind ≡ true) (sym same_kind) (is_kind-same kind))
    (is_tid-from held.tid tid same_tid))

-- where no claim of a kind holds a unit, each claim of that kind is of another unit
pub not_claimed : (kind : HeldKind) (tid : TidOf) (claims : List Held) → is_claimed kind tid claims ≡ false → (held : Held) → Contains claims held
    → held.kind ≡ kind → held.tid ≢ tid
not_claimed kind tid claims none held has same_kind same_tid =
    both_ways (is_claimed kind tid claims) none (is_claimed-Contains kind tid claims held has same_kind same_tid)

-- a claim that is found by its number is in the list and has that number
pub claim_of-Some : (number : ℕ) (claims : List Held) (held : Held) → claim_of number claims ≡ Some held → Contains claims held × (held.number ≡ number)
claim_of-Some number claims held found =
    let is = find-Some (λ h. h.number == number) claims held found in (is.0, eqb-true held.number number is.1)

-- ---- one claim goes

-- the claims that are left where the one of a number goes
abbrev pub without : ℕ → List Held → List Held
without number claims = filter (λ held. not (held.number == number)) claims

claim_of-without : (number other : ℕ) (claims : List Held) → claim_of other claims ≡ None → claim_of other (without number claims) ≡ None
claim_of-without number other [] none = refl
claim_of-without number other (h ∷ hs) none =
    elim (cases_Bool (h.number == other)) [
      | inl same ↦ absurd (none-some h (sym none ∙ cond-true (h.number == other) (Some h) (claim_of other hs) same))
      | inr differs ↦
          let rest = claim_of-without number other hs (sym (cond-false (h.number == other) (Some h) (claim_of other hs) differs) ∙ none) in
          elim (cases_Bool (not (h.number == number))) [
            | inl kept ↦ rw kept (cond-false (h.number == other) (Some h) (claim_of other (without number hs)) differs ∙ rest)
            | inr gone ↦ rw gone rest
          ]
    ]

is_claimed-without : (number : ℕ) (kind : HeldKind) (tid : TidOf) (claims : List Held) → is_claimed kind tid claims ≡ false
    → is_claimed kind tid (without number claims) ≡ false
is_claimed-without number kind tid claims none =
    false_from_ne_true (is_claimed kind tid (without number claims)) (λ some.
    let found = list_any-found (λ h. is_kind h.kind kind && is_tid h.tid tid) (without number claims) some in
    let back = Contains-filter_back (λ h. not (h.number == number)) claims found.0 found.1 in
    both_ways (is_claimed kind tid claims) none (list_any-Contains (λ h. is_kind h.kind kind && is_tid h.tid tid) claims found.0 back.0 found.2))

-- claims that differ do so where one goes
pub AreApart-without : (number : ℕ) (claims : List Held) → AreApart claims → AreApart (without number claims)
AreApart-without number [] apart = tt
AreApart-without number (h ∷ hs) apart =
    let rest = AreApart-without number hs apart.2 in
    elim (cases_Bool (not (h.number == number))) [
      | inl kept ↦ rw kept (claim_of-without number h.number hs apart.0, is_claimed-without number h.kind h.tid hs apart.1, rest)
      | inr gone ↦ rw gone rest
    ]

-- no other claim of its kind has the unit of the claim that goes
pub alone : (number : ℕ) (claims : List Held) (held other : Held) → AreApart claims → claim_of number claims ≡ Some held
    → Contains (without number claims) other
    → other.kind ≡ held.kind → other.tid ≢ held.tid
alone number [] held other apart found has same_kind same_tid = absurd (Contains-nil other has)
alone number (h ∷ hs) held other apart found has same_kind same_tid =
    elim (cases_Bool (h.number == number)) [
      | inl same ↦
          let is : h ≡ held = same_Some h held (sym (cond-true (h.number == number) (Some h) (claim_of number hs) same) ∙ found) in
          let behind : Contains (without number hs) other = subst (λ b. Contains (cond (not b) (h ∷ without number hs) (without number hs)) other) same has in
          let back = Contains-filter_back (λ g. not (g.number == number)) hs other behind in
          both_ways (is_claimed h.kind h.tid hs) apart.1
          (is_claimed-Contains h.kind h.tid hs other back.0 (same_kind ∙ sym (ap (λ (g : Held). g.kind) is)) (same_tid ∙ sym (ap (λ (g : Held). g.tid) is)))
      | inr differs ↦
          let later : claim_of number hs ≡ Some held = sym (cond-false (h.number == number) (Some h) (claim_of number hs) differs) ∙ found in
          let kept : Contains (h ∷ without number hs) other = subst
          (λ b. Contains (cond (not b) (h ∷ without number hs) (without number hs)) other) differs has in
          elim (Contains-cons h (without number hs) other kept) [
            | inl is ↦ both_ways (is_claimed h.kind h.tid hs) apart.1
                (is_claimed-Contains h.kind h.tid hs held (claim_of-Some number hs held later).0 (sym same_kind ∙ sym (ap (λ (g : Held). g.kind) is))
                (sym same_tid ∙ sym (ap (λ (g : Held). g.tid) is)))
            | inr behind ↦ alone number hs held other apart.2 later behind same_kind same_tid
          ]
    ]

-- ---- one claim more

claim_of-push : (number : ℕ) (claims : List Held) (new : Held) → claim_of number claims ≡ None → new.number ≢ number
    → claim_of number (claims ++ new ∷ []) ≡ None
claim_of-push number [] new none differs = cond-false (new.number == number) (Some new) None (ne_eqb new.number number differs)
claim_of-push number (h ∷ hs) new none differs =
    elim (cases_Bool (h.number == number)) [
      | inl same ↦ absurd (none-some h (sym none ∙ cond-true (h.number == number) (Some h) (claim_of number hs) same))
      | inr other ↦ cond-false (h.number == number) (Some h) (claim_of number (hs ++ new ∷ [])) other
          ∙ claim_of-push number hs new (sym (cond-false (h.number == number) (Some h) (claim_of number hs) other) ∙ none) differs
    ]

is_claimed-push : (kind : HeldKind) (tid : TidOf) (claims : List Held) (new : Held) → is_claimed kind tid claims ≡ false
    → ((new.kind ≡ kind) → (new.tid ≡ tid) → ⊥)
    → is_claimed kind tid (claims ++ new ∷ []) ≡ false
is_claimed-push kind tid claims new none differs =
    false_from_ne_true (is_claimed kind tid (claims ++ new ∷ [])) (λ some.
    let test : Held → Bool = λ h. is_kind h.kind kind && is_tid h.tid tid in
    let found = list_any-found test (claims ++ new ∷ []) some in
    let parts = and_parts (is_kind found.0.kind kind) (is_tid found.0.tid tid) found.2 in
    elim (Contains-push_cases claims new found.0 found.1) [
      | inl before ↦ both_ways (is_claimed kind tid claims) none (list_any-Contains test claims found.0 before found.2)
      | inr is ↦ differs (ap (λ (h : Held). h.kind) is ∙ is_kind-true found.0.kind kind parts.0)
          (ap (λ (h : Held). h.tid) is ∙ is_tid-true found.0.tid tid parts.1)
    ])

-- claims that differ do so where one more is made, under a greater number, of a unit that no claim of its kind holds
pub AreApart-push : (claims : List Held) (new : Held) → AreApart claims → ((held : Held) → Contains claims held → held.number < new.number)
    → is_claimed new.kind new.tid claims ≡ false → AreApart (claims ++ new ∷ [])
AreApart-push [] new apart below none = (refl, refl, tt)
AreApart-push (h ∷ hs) new apart below none =
    let parts = or_parts (is_kind h.kind new.kind && is_tid h.tid new.tid) (is_claimed new.kind new.tid hs) none in
    let first : h.number < new.number = below h (Contains-here h hs) in (
      claim_of-push h.number hs new apart.0 (λ same. omega arith),
      is_claimed-push h.kind h.tid hs new apart.1
          (λ same_kind same_tid. not_claimed new.kind new.tid (h ∷ hs) none h (Contains-here h hs) (sym same_kind) (sym same_tid)),
      AreApart-push hs new apart.2 (λ held has. below held (Contains-there h hs held has)) parts.1,
    )

-- ---- a claim by its number, and by its kind, system and unit

-- a claim is found by its number
pub claim_of-Contains : (claims : List Held) (held : Held) → AreApart claims → Contains claims held → claim_of held.number claims ≡ Some held
claim_of-Contains [] held apart has = absurd (Contains-nil held has)
claim_of-Contains (h ∷ hs) held apart has =
    elim (Contains-cons h hs held has) [
      | inl is ↦ cond-true (h.number == held.number) (Some h) (claim_of held.number hs) (eq-eqb h.number held.number (ap (λ (g : Held). g.number) is))
          ∙ ap Some is
      | inr behind ↦
          let later = claim_of-Contains hs held apart.2 behind in
          elim (cases_Bool (h.number == held.number)) [
            | inl same ↦ absurd (none-some held (sym (subst (λ n. claim_of n hs ≡ None) (eqb-true h.number held.number same) apart.0) ∙ later))
            | inr differs ↦ cond-false (h.number == held.number) (Some h) (claim_of held.number hs) differs ∙ later
          ]
    ]

-- a claim of this kind, at this system and of this unit is among them
pub is_claimed_at-Contains : (claims : List Held) (held : Held) (kind : HeldKind) → Contains claims held → held.kind ≡ kind
    → is_claimed_at kind held.system held.tid claims ≡ true
is_claimed_at-Contains claims held kind has same =
    list_any-Contains (λ h. is_kind h.kind kind && (h.system == held.system) && is_tid h.tid held.tid) claims held has
    (and_from (is_kind held.kind kind && (held.system == held.system)) (is_tid held.tid held.tid)
    (and_from (is_kind held.kind kind) (held.system == held.system) (subst (λ k. is_kind held.kind k ≡ true) same (is_kind-same held.kind))
    (eq-eqb held.system held.system refl))
    (is_tid-same held.tid))

-- such a claim, where there is one
pub record ClaimAt (kind : HeldKind) (system : ℕ) (tid : TidOf) (claims : List Held) : Type 0 where
  pub held : Held
  pub has : Contains claims held
  pub its_kind : held.kind ≡ kind
  pub its_system : held.system ≡ system
  pub its_tid : held.tid ≡ tid

pub claim_at : (kind : HeldKind) (system : ℕ) (tid : TidOf) (claims : List Held) → is_claimed_at kind system tid claims ≡ true → ClaimAt kind system tid claims
claim_at kind system tid claims is =
    let found = list_any-found (λ h. is_kind h.kind kind && (h.system == system) && is_tid h.tid tid) claims is in
    let a = and_parts (is_kind found.0.kind kind && (found.0.system == system)) (is_tid found.0.tid tid) found.2 in
    let b = and_parts (is_kind found.0.kind kind) (found.0.system == system) a.0 in
    record {
      held = found.0;
      has = found.1;
      its_kind = is_kind-true found.0.kind kind b.0;
      its_system = eqb-true found.0.system system b.1;
      its_tid = is_tid-true found.0.tid tid a.1;
    }
