-- Rules of a list that a loop decides, one element after another.
use Rattle.std.specs.Prelude.{AllPairs}
use Rattle.std.proofs.Common.{◌≡◌, ◌↔◌, inl, inr, ℕ, suc, ◌+◌, ◌-◌, ◌<◌, ◌≤◌, Bool, true, false, List, [], ◌∷◌, ◌++◌, length, get_or, take, drop, map, refl}
use Rattle.std.proofs.Common.{sym, ◌∙◌, ap, subst, append_assoc, add-one, drop-cons, arith}
use Rattle.std.specs.List.{AllByRecursion, IsDistinct, flat_map}
use Rattle.std.proofs.Math.Nat.{eq-or-lt_of_le}
use Rattle.std.proofs.Math.ListN.{drop_of_length-le}
use Rattle.std.proofs.lemmas.Bool.{false≢true}
use Rattle.std.proofs.lemmas.List.{take_rest, take_more, get_or-take, get_or_default, length-take-le}
use Rattle.std.proofs.lemmas.List.Concat.{flat_map-cons}
use Rattle.std.proofs.lemmas.List.Quantifiers.{all_pairs_push}
use Rattle.segment_defs.specs.declared.version.Version.{Version}
use Rattle.segment_defs.specs.SegmentType.{Continues}
use Rattle.ale_base.proofs.ListLemmas.{IsDistinct-append, IsDistinct-parts}

-- a rule of a list that holds where it holds of the first element before the others, and of the others
pub record IsByRecursion {X : Type 0} (P : X → List X → Type 0) (Whole : List X → Type 0) : Type 0 where
  pub none : Whole []
  pub more : (x : X) (xs : List X) → P x xs → Whole xs → Whole (x ∷ xs)
  pub first : (x : X) (xs : List X) → Whole (x ∷ xs) → P x xs
  pub rest : (x : X) (xs : List X) → Whole (x ∷ xs) → Whole xs

cut_at : {X : Type 0} (xs : List X) (i : ℕ) (x : X) → i < length xs → x ≡ get_or xs i x → drop i xs ≡ x ∷ take (length xs - (i + 1)) (drop (i + 1) xs)
cut_at xs i x within here =
    rw (take_rest, add-one) (subst (λ y. drop i xs ≡ y ∷ drop (suc i) xs) (sym here) (drop-cons xs i x within))

-- an element for which the rule holds leaves it to those behind
pub rule-passes : {X : Type 0} {P : X → List X → Type 0} {Whole : List X → Type 0} → IsByRecursion P Whole → (xs : List X) (i : ℕ) (x : X) (r : Bool) →
    i < length xs → x ≡ get_or xs i x → r ≡ true → (r ≡ true) ↔ P x (take (length xs - (i + 1)) (drop (i + 1) xs)) → Whole (drop i xs) ↔ Whole xs →
    Whole (drop (i + 1) xs) ↔ Whole xs
rule-passes {Whole} by xs i x r within here is decided before = let cut = cut_at xs i x within here in let rest = take_rest xs (i + 1) in (
  λ behind. before.0 (subst Whole (sym cut) (by.more _ _ (decided.0 is) (subst Whole (sym rest) behind))),
  λ whole. subst Whole rest (by.rest _ _ (subst Whole cut (before.1 whole))),
)

-- an element for which it does not hold breaks the rule
pub rule-fails : {X : Type 0} {P : X → List X → Type 0} {Whole : List X → Type 0} → IsByRecursion P Whole → (xs : List X) (i : ℕ) (x : X) (r : Bool) →
    i < length xs → x ≡ get_or xs i x → r ≡ false → (r ≡ true) ↔ P x (take (length xs - (i + 1)) (drop (i + 1) xs)) → Whole (drop i xs) ↔ Whole xs →
    (false ≡ true) ↔ Whole xs
rule-fails {Whole} by xs i x r within here is decided before = (
  λ never. absurd (false≢true never),
  λ whole. sym is ∙ decided.1 (by.first _ _ (subst Whole (cut_at xs i x within here) (before.1 whole))),
)

-- behind the last element nothing is left to show
pub rule-holds : {X : Type 0} {P : X → List X → Type 0} {Whole : List X → Type 0} → IsByRecursion P Whole → (xs : List X) (i : ℕ) → length xs ≤ i →
    Whole (drop i xs) ↔ Whole xs → (true ≡ true) ↔ Whole xs
rule-holds {Whole} by xs i past before =
    (λ always. before.0 (subst Whole (sym (drop_of_length-le xs past)) by.none), λ whole. refl)

-- keys are distinct where each differs from those behind it
pub IsDistinct-by_recursion : {X Y : Type 0} (eq : Y → Y → Bool) (key : X → Y) →
    IsByRecursion (λ x xs. AllByRecursion (λ other. eq (key x) other ≡ false) (map key xs)) (λ xs. IsDistinct eq (map key xs))
unfolding IsDistinct
IsDistinct-by_recursion eq key = record {
  none = tt;
  more = λ x xs here behind. (here, behind);
  first = λ x xs whole. whole.0;
  rest = λ x xs whole. whole.1;
}

-- lists of keys are distinct together where each is, and its keys differ from those behind
pub IsDistinct-by_lists : {X Y : Type 0} (eq : Y → Y → Bool) (keys : X → List Y) →
    IsByRecursion (λ x xs. IsDistinct eq (keys x) × AllByRecursion (λ y. AllByRecursion (λ other. eq y other ≡ false) (flat_map keys xs)) (keys x))
    (λ xs. IsDistinct eq (flat_map keys xs))
unfolding IsDistinct
IsDistinct-by_lists eq keys = record {
  none = tt;
  more = λ x xs here behind. rw flat_map-cons (IsDistinct-append eq (keys x) (flat_map keys xs) here.0 here.1 behind);
  first = λ x xs whole. let parts = IsDistinct-parts eq (keys x) (flat_map keys xs) (rw flat_map-cons at whole) in (parts.0, parts.1);
  rest = λ x xs whole. (IsDistinct-parts eq (keys x) (flat_map keys xs) (rw flat_map-cons at whole)).2;
}

-- what continues a continuation continues its beginning
pub Continues-trans : (a b c : Version) → Continues a b → Continues b c → Continues a c
Continues-trans a b c first next = record {
  later = omega (arith, first.later, next.later);
  added = first.added ++ next.added;
  fields = let grouped : b.fields ++ next.added ≡ a.fields ++ (first.added ++ next.added) = rw (first.fields, append_assoc) in next.fields ∙ grouped;
}

-- a definition that continues the one before it continues them all
pub continued_more : (versions : List Version) (n : ℕ) (earlier newer : Version) → 1 ≤ n → n < length versions → earlier ≡ get_or versions (n - 1) earlier →
    newer ≡ get_or versions n newer → Continues earlier newer → AllPairs Continues (take n versions) → AllPairs Continues (take (n + 1) versions)
continued_more versions n earlier newer some within before here continues all =
    let front = take n versions in
    let long : length front ≡ n = length-take-le n versions (omega arith) in
    let last : (d : Version) → get_or front (n - 1) d ≡ earlier = λ d. get_or-take n versions (n - 1) d (omega arith)
    ∙ get_or_default versions (n - 1) d earlier (omega arith) ∙ sym before in
    let each : (k : ℕ) (d : Version) → k < length front → Continues (get_or front k d) newer = λ k d small.
    let near : k ≤ n - 1 = omega arith in elim (eq-or-lt_of_le near) [
      | inr less ↦ Continues-trans (get_or front k d) earlier newer (subst (λ v. Continues (get_or front k d) v) (last d) (all k (n - 1) d less (omega arith)))
          continues
      | inl same ↦ subst (λ v. Continues v newer) (sym (ap (λ i. get_or front i d) same ∙ last d)) continues
    ] in
    let cut : take (n + 1) versions ≡ front ++ newer ∷ [] = take_more versions n newer within ∙ ap (λ v. front ++ v ∷ []) (sym here) in
    subst (AllPairs Continues) (sym cut) (all_pairs_push Continues front newer all each)

-- where each continues those before it, it continues the one before it
pub continued_fails : (versions : List Version) (n : ℕ) (earlier newer : Version) → 1 ≤ n → n < length versions → earlier ≡ get_or versions (n - 1) earlier →
    newer ≡ get_or versions n newer → AllPairs Continues versions → Continues earlier newer
continued_fails versions n earlier newer some within before here all =
    let pair = all (n - 1) n earlier (omega arith) within in
    subst (Continues earlier) (get_or_default versions n earlier newer within ∙ sym here)
    (subst (λ v. Continues v (get_or versions n earlier)) (sym before) pair)
