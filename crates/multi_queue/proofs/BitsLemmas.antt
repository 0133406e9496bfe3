use Rattle.std.proofs.Common.{◌≡◌, ◌<◌, ◌≤◌, ◌+◌, ◌-◌, ◌*◌, ◌/◌, ◌^◌, ℕ, zero, suc, Bool, true, false, ◌||◌, List, length, refl, sym, ap, ◌∙◌, arith, inl, inr}
use Rattle.std.proofs.Common.{◌⊎◌, add-one}
use Rattle.std.proofs.lemmas.Bool.Decides.{eqb_tells}
use Rattle.std.proofs.lemmas.Option.{slice_get_past}
use Rattle.std.proofs.Math.Nat.{pow-suc, div-div-eq-div-mul}
use Rattle.std.proofs.lemmas.Grind.{common_steps}
use Rattle.multi_queue.specs.Bits.{bit_of, bit, IsTreeBut, IsOnWay}

-- a true node is below true ones
pub up : (height : ℕ) (nodes : List Bool) (i : ℕ) → IsTreeBut 0 height nodes → 2 ≤ i → i < 2 * 2 ^ height → bit nodes i ≡ true → bit nodes (i / 2) ≡ true
up height nodes i tree least most h =
    let join : bit nodes (i / 2) ≡ (bit nodes (2 * (i / 2)) || bit nodes (2 * (i / 2) + 1)) = tree.joins (i / 2) (omega arith) (omega arith) (omega arith) in
    elim (eqb_tells i (2 * (i / 2))) [
      | inl e ↦ let t : bit nodes (2 * (i / 2)) ≡ true = ap (λ j. bit nodes j) (sym e.1) ∙ h in join ∙ rw t refl
      | inr e ↦ let odd : i ≡ 2 * (i / 2) + 1 = omega (arith, e.1) in let t : bit nodes (2 * (i / 2) + 1) ≡ true = ap (λ j. bit nodes j) (sym odd) ∙ h in join
          ∙ rw t (grind (arith, common_steps))
    ]

pub le_or_more : (a b : ℕ) → (a ≤ b) ⊎ (b < a)
le_or_more zero b = inl (omega arith)
le_or_more (suc a) zero = inr (omega arith)
le_or_more (suc a) (suc b) = elim (le_or_more a b) [ inl h ↦ inl (omega arith) | inr h ↦ inr (omega arith) ]

pub within : (height : ℕ) (nodes : List Bool) (i : ℕ) → IsTreeBut 0 height nodes → bit nodes i ≡ true → i < 2 * 2 ^ height
within height nodes i tree h = elim (le_or_more (length nodes) i) [
  | inl l ↦ absurd (let no : bit nodes i ≡ false = ap (λ o. bit_of o) (slice_get_past nodes i l) in cc)
  | inr l ↦ omega (arith, l, tree.size)
]

pub half-again : (i k : ℕ) → i / 2 ^ suc k ≡ i / 2 ^ k / 2
half-again i k = ap (λ d. i / d) (pow-suc 2 k) ∙ sym (div-div-eq-div-mul i (2 ^ k) 2)

pub ups : (height : ℕ) (nodes : List Bool) (i k : ℕ) → IsTreeBut 0 height nodes → bit nodes i ≡ true → 1 ≤ i / 2 ^ k → bit nodes (i / 2 ^ k) ≡ true
ups height nodes i zero tree h one = let e : i / 2 ^ 0 ≡ i = omega arith in rw e h
ups height nodes i (suc k) tree h one =
    let e = half-again i k in
    let two : 2 ≤ i / 2 ^ k = omega (arith, e) in
    let below = ups height nodes i k tree h (omega arith) in
    rw e (up height nodes (i / 2 ^ k) tree two (within height nodes (i / 2 ^ k) tree below) below)

pub half-below : (i height n at : ℕ) → n < height → at ≤ i / 2 ^ (height - n) → 2 * at ≤ i / 2 ^ (height - (n + 1))
half-below i height n at more le =
    let k = height - (n + 1) in
    let e : height - n ≡ suc (height - (n + 1)) = omega arith in
    let f = ap (λ d. i / 2 ^ d) e ∙ half-again i (height - (n + 1)) in
    omega (arith, f, le)

pub pow-pos : (n : ℕ) → 1 ≤ 2 ^ n
pow-pos zero = omega arith
pow-pos (suc n) = omega (arith, pow-suc 2 n, pow-pos n)

pub go-down : (height n at : ℕ) (nodes : List Bool) → IsTreeBut 0 height nodes → n < height → IsOnWay height n at nodes → bit nodes (2 * at) ≡ true →
    IsOnWay height (n + 1) (2 * at) nodes
go-down height n at nodes tree more lane h =
    let p : 2 ^ (n + 1) ≡ 2 ^ n * 2 = ap (λ k. 2 ^ k) (add-one n) ∙ pow-suc 2 n in
    record {
      low = omega (arith, p, lane.low);
      high = omega (arith, p, lane.high);
      is_true = h;
      below = λ i leaf t. half-below i height n at more (lane.below i leaf t);
    }

pub go-right : (height n at : ℕ) (nodes : List Bool) → IsTreeBut 0 height nodes → n < height → 2 ^ (n + 1) ≤ 2 ^ height → IsOnWay height n at nodes →
    bit nodes (2 * at) ≡ false → IsOnWay height (n + 1) (2 * at + 1) nodes
go-right height n at nodes tree more small lane h =
    let p : 2 ^ (n + 1) ≡ 2 ^ n * 2 = ap (λ k. 2 ^ k) (add-one n) ∙ pow-suc 2 n in
    record {
      low = omega (arith, p, lane.low);
      high = omega (arith, p, lane.high);
      is_true = let join = tree.joins at (omega (arith, lane.low, pow-pos n)) (omega (arith, lane.high, p)) (omega (arith, lane.low, pow-pos n)) in
          sym (ap (λ b. b || bit nodes (2 * at + 1)) h) ∙ sym join ∙ lane.is_true;
      below = λ i leaf t.
          let le = half-below i height n at more (lane.below i leaf t) in
          let one : 1 ≤ i / 2 ^ (height - (n + 1)) = omega (arith, le, lane.low, pow-pos n) in
          let there = ups height nodes i (height - (n + 1)) tree t one in
          elim (eqb_tells (2 * at) (i / 2 ^ (height - (n + 1)))) [
            | inl e ↦ absurd (let no = ap (λ j. bit nodes j) e.1 in cc (no, there, h))
            | inr e ↦ omega (arith, le, e.1)
          ];
    }

pub bool_false : (b : Bool) → (b ≡ true → ⊥) → b ≡ false
bool_false true h = absurd (h refl)
bool_false false h = refl

pub div-one : (i d : ℕ) → 1 ≤ d → d ≤ i → i < 2 * d → i / d ≡ 1
div-one i d p a b = grind (arith, common_steps)

pub none-true : (height : ℕ) (nodes : List Bool) → IsTreeBut 0 height nodes → bit nodes 1 ≡ false → (i : ℕ) → 2 ^ height ≤ i → bit nodes i ≡ false
none-true height nodes tree root i leaf = bool_false (bit nodes i) (λ t.
    let most = within height nodes i tree t in
    let one : i / 2 ^ height ≡ 1 = div-one i (2 ^ height) (pow-pos height) leaf most in
    let there = ups height nodes i height tree t (omega (arith, one)) in
    let no = ap (λ j. bit nodes j) one in cc (no, there, root))
