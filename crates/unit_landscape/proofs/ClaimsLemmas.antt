-- Claims as the tables know them, where one is made or given up.
use Rattle.std.specs.Prelude.{Contains, find, filter}
use Rattle.std.specs.Option.{option_map}
use Rattle.std.proofs.Common.{◌≡◌, ℕ, ◌+◌, ◌-◌, Bool, true, false, not, cond, ◌==◌, ◌&&◌, Some, None, List, [], ◌∷◌, ◌++◌, length, take, inl, inr, refl, sym, ap, subst}
use Rattle.std.proofs.Common.{◌∙◌, arith}
use Rattle.std.proofs.lemmas.Bool.{cases_Bool, and_from, and_parts, false_from_ne_true, eq-eqb, eqb-true}
use Rattle.std.proofs.lemmas.List.{length-append}
use Rattle.std.proofs.lemmas.Option.{same_Some, none-some}
use Rattle.std.proofs.Math.Seq.{take-append_seam}
use Rattle.ale_base.specs.Tid.{TidOf, is_tid}
use Rattle.ale_base.proofs.OptionLemmas.{none_or_some}
use Rattle.ale_base.proofs.MemberLemmas.{find-Some, find-filter, Contains-nil, Contains-cons}
use Rattle.unit_core.proofs.TidLemmas.{is_tid-true, is_tid-same}
use Rattle.plain_queues.proofs.GoesLemmas.{find-same}
use Rattle.trfc_protocol.specs.declared.world.World.{World}
use Rattle.trfc_protocol.specs.declared.held.Held.{Held}
use Rattle.trfc_protocol.specs.declared.held.HeldKind.{HeldKind}
use Rattle.trfc_protocol.specs.Worlds.{is_kind, is_claimed, claim_of, with_claim}
use Rattle.trfc_protocol.specs.Safe.{AreApart}
use Rattle.trfc_protocol.proofs.ClaimLemmas.{is_kind-same, is_kind-true, not_claimed, claim_of-Some, claim_of-Contains, alone}
use Rattle.unit_landscape.specs.Claims.{is_at, claim_at, IsClaimed, without_last_claim}

-- what a claim is known by
at-parts : (kind : HeldKind) (system : ℕ) (tid : TidOf) (held : Held) → is_at kind system tid held ≡ true
    → (held.kind ≡ kind) × (held.system ≡ system) × (held.tid ≡ tid)
at-parts kind system tid held is =
    let parts = and_parts (is_kind held.kind kind && (held.system == system)) (is_tid held.tid tid) is in
    let front = and_parts (is_kind held.kind kind) (held.system == system) parts.0 in
    (is_kind-true held.kind kind front.0, eqb-true held.system system front.1, is_tid-true held.tid tid parts.1)

at-from : (held : Held) (tid : TidOf) → is_tid held.tid tid ≡ true → is_at held.kind held.system tid held ≡ true
at-from held tid same =
    and_from (is_kind held.kind held.kind && (held.system == held.system)) (is_tid held.tid tid)
    (and_from (is_kind held.kind held.kind) (held.system == held.system) (is_kind-same held.kind) (eq-eqb held.system held.system refl)) same

-- no claim is found where none of its kind holds the unit
pub claim_at-none : (kind : HeldKind) (system : ℕ) (tid : TidOf) (claims : List Held) → is_claimed kind tid claims ≡ false
    → claim_at kind system claims tid ≡ None
claim_at-none kind system tid claims none =
    elim (none_or_some (find (is_at kind system tid) claims)) [
      | inl nothing ↦ ap (option_map (λ (held : Held). held.number)) nothing
      | inr got ↦
          let found = find-Some (is_at kind system tid) claims got.0 got.1 in
          let parts = at-parts kind system tid got.0 found.1 in
          absurd (not_claimed kind tid claims none got.0 found.0 parts.0 parts.2)
    ]

-- the first claim is found
pub claim_at-first : (held : Held) (claims : List Held) → claim_at held.kind held.system (held ∷ claims) held.tid ≡ Some held.number
claim_at-first held claims =
    ap (λ b. option_map (λ (h : Held). h.number) (cond b (Some held) (find (is_at held.kind held.system held.tid) claims)))
    (at-from held held.tid (is_tid-same held.tid))

-- so is each claim, where claims differ
pub claim_at-Contains : (claims : List Held) (held : Held) → AreApart claims → Contains claims held
    → claim_at held.kind held.system claims held.tid ≡ Some held.number
claim_at-Contains [] held apart has = absurd (Contains-nil held has)
claim_at-Contains (h ∷ hs) held apart has =
    elim (Contains-cons h hs held has) [
      | inl is ↦ subst (λ (g : Held). claim_at held.kind held.system (g ∷ hs) held.tid ≡ Some held.number) (sym is) (claim_at-first held hs)
      | inr behind ↦
          let test = is_at held.kind held.system held.tid in
          let other : test h ≡ false = false_from_ne_true (test h) (λ same.
          let parts = at-parts held.kind held.system held.tid h same in
          not_claimed h.kind h.tid hs apart.1 held behind (sym parts.0) (sym parts.2)) in
          ap (λ b. option_map (λ (g : Held). g.number) (cond b (Some h) (find test hs))) other ∙ claim_at-Contains hs held apart.2 behind
    ]

-- the first claim is given up
pub first-gone : (held : Held) (claims : List Held) → AreApart (held ∷ claims) → IsClaimed held None (held ∷ claims) claims
first-gone held claims apart = record {
  its = λ tid same.
      claim_at-none held.kind held.system tid claims
      (ap (λ t. is_claimed held.kind t claims) (is_tid-true tid held.tid same) ∙ apart.1);
  others = λ kind system tid other.
      sym (ap (λ b. option_map (λ (h : Held). h.number) (cond b (Some held) (find (is_at kind system tid) claims))) other);
}

find-push : {A : Type 0} (p : A → Bool) (xs : List A) (x : A) → find p xs ≡ None → find p (xs ++ x ∷ []) ≡ cond (p x) (Some x) None
find-push p [] x none = refl
find-push p (y ∷ ys) x none =
    elim (cases_Bool (p y)) [
      | inl here ↦ absurd (none-some y (sym none ∙ ap (λ b. cond b (Some y) (find p ys)) here))
      | inr other ↦ ap (λ b. cond b (Some y) (find p (ys ++ x ∷ []))) other
          ∙ find-push p ys x (sym (ap (λ b. cond b (Some y) (find p ys)) other) ∙ none)
    ]

find-push_other : {A : Type 0} (p : A → Bool) (xs : List A) (x : A) → p x ≡ false → find p (xs ++ x ∷ []) ≡ find p xs
find-push_other p [] x other = ap (λ b. cond b (Some x) None) other
find-push_other p (y ∷ ys) x other = ap (cond (p y) (Some y)) (find-push_other p ys x other)

-- a claim behind others leaves all that it is not known by
pub push-other : (claims : List Held) (held : Held) (kind : HeldKind) (system : ℕ) (tid : TidOf) → is_at kind system tid held ≡ false
    → claim_at kind system (claims ++ held ∷ []) tid ≡ claim_at kind system claims tid
push-other claims held kind system tid other = ap (option_map (λ (h : Held). h.number)) (find-push_other (is_at kind system tid) claims held other)

unfound : (kind : HeldKind) (system : ℕ) (tid : TidOf) (claims : List Held) → claim_at kind system claims tid ≡ None
    → find (is_at kind system tid) claims ≡ None
unfound kind system tid claims none =
    elim (none_or_some (find (is_at kind system tid) claims)) [
      | inl nothing ↦ nothing
      | inr got ↦ absurd (none-some (got.0).number (sym none ∙ ap (option_map (λ (h : Held). h.number)) got.1))
    ]

-- one claim more is made, where none of its kind holds its unit at its system
pub last-made : (held : Held) (claims : List Held) → claim_at held.kind held.system claims held.tid ≡ None
    → IsClaimed held (Some held.number) claims (claims ++ held ∷ [])
last-made held claims none = record {
  its = λ tid same.
      let is : tid ≡ held.tid = is_tid-true tid held.tid same in
      ap (λ t. claim_at held.kind held.system (claims ++ held ∷ []) t) is
      ∙ ap (option_map (λ (h : Held). h.number))
      (find-push (is_at held.kind held.system held.tid) claims held (unfound held.kind held.system held.tid claims none)
      ∙ ap (λ b. cond b (Some held) None) (at-from held held.tid (is_tid-same held.tid)));
  others = λ kind system tid other. push-other claims held kind system tid other;
}

-- the claims without the one of a number
abbrev without : ℕ → List Held → List Held
without number claims = filter (λ held. not (held.number == number)) claims

-- the claim of a number is given up
pub numbered-gone : (number : ℕ) (held : Held) (claims : List Held) → AreApart claims → claim_of number claims ≡ Some held
    → IsClaimed held None claims (without number claims)
numbered-gone number held claims apart found =
    let its_number = (claim_of-Some number claims held found).1 in
    record {
      its = λ tid same.
          let is : tid ≡ held.tid = is_tid-true tid held.tid same in
          ap (λ t. claim_at held.kind held.system (without number claims) t) is
          ∙ elim (none_or_some (find (is_at held.kind held.system held.tid) (without number claims))) [
            | inl nothing ↦ ap (option_map (λ (h : Held). h.number)) nothing
            | inr got ↦
                let there = find-Some (is_at held.kind held.system held.tid) (without number claims) got.0 got.1 in
                let parts = at-parts held.kind held.system held.tid got.0 there.1 in
                absurd (alone number claims held got.0 apart found there.0 parts.0 parts.2)
          ];
      others = λ kind system tid other.
          ap (option_map (λ (h : Held). h.number))
          (find-filter (λ (h : Held). not (h.number == number)) (is_at kind system tid) claims
          ∙ find-same (λ (h : Held). not (h.number == number) && is_at kind system tid h) (is_at kind system tid) claims
          (λ h has. elim (cases_Bool (h.number == number)) [
            | inl same ↦
                let got : claim_of number claims ≡ Some h =
                subst (λ n. claim_of n claims ≡ Some h) (eqb-true h.number number same) (claim_of-Contains claims h apart has) in
                let equal : h ≡ held = same_Some h held (sym got ∙ found) in
                ap (λ b. not b && is_at kind system tid h) same ∙ sym (ap (is_at kind system tid) equal ∙ other)
            | inr differs ↦ ap (λ b. not b && is_at kind system tid h) differs
          ]));
    }

-- where no claim has a number, all stay
pub none-gone : (number : ℕ) (claims : List Held) → claim_of number claims ≡ None → without number claims ≡ claims
none-gone number [] none = refl
none-gone number (h ∷ hs) none =
    elim (cases_Bool (h.number == number)) [
      | inl same ↦ absurd (none-some h (sym none ∙ ap (λ b. cond b (Some h) (claim_of number hs)) same))
      | inr differs ↦ ap (λ b. cond (not b) (h ∷ without number hs) (without number hs)) differs
          ∙ ap (λ r. h ∷ r) (none-gone number hs (sym (ap (λ b. cond b (Some h) (claim_of number hs)) differs) ∙ none))
    ]

-- a claim that is made and taken back leaves the world as it was
pub claim-undone : {R : Type 0} (world : World R) (tid : TidOf) (system : ℕ) (kind : HeldKind) → without_last_claim (with_claim world tid system kind) ≡ world
claim-undone world tid system kind = λ i. record world { claims = claims i; next_number = number i }
  where
    new : Held
    new = record { number = world.next_number; tid = tid; system = system; kind = kind }

    count : length (world.claims ++ new ∷ []) - 1 ≡ length world.claims
    count = omega (arith, length-append world.claims (new ∷ []))

    claims : take (length (world.claims ++ new ∷ []) - 1) (world.claims ++ new ∷ []) ≡ world.claims
    claims = ap (λ n. take n (world.claims ++ new ∷ [])) count ∙ take-append_seam world.claims (new ∷ [])

    number : world.next_number + 1 - 1 ≡ world.next_number
    number = omega arith
