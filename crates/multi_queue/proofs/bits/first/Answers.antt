use Rattle.std.proofs.Common.{◌≡◌, ◌<◌, ◌+◌, ◌≤◌, ◌*◌, ◌^◌, arith, ap, ◌∙◌, sym, subst, ℕ, add-one}
use Rattle.std.proofs.Math.Nat.{pow-suc, mul_comm}
use Rattle.multi_queue.specs.Bits.{IsOnWay, bit, bit_of}
use Rattle.std.proofs.Math.Pow.{pow_mono}
use Rattle.multi_queue.proofs.BitsLemmas.{none-true, go-down, go-right}
use Rattle.multi_queue.proofs.bits.first.Goals as goal
use Rattle.multi_queue.proofs.bits.first.Goals.{then-not-index-2, else-not-index-2}

pub returns-then-not-index : goal.returns-then-not-index
returns-then-not-index c = none-true c.args.height c.args.nodes.now c.requires.tree (ap (λ o. bit_of o) c.index.ensures ∙ c.if-not-index.true)

more-below : (n h : ℕ) → n < h → 2 * 2 ^ n ≤ 2 ^ h
more-below n h l = let p = pow_mono {i = n + 1} {j = h} (omega arith) in let q : 2 ^ (n + 1) ≡ 2 ^ n * 2 = ap (λ k. 2 ^ k) (add-one n)
    ∙ pow-suc 2 n in omega (arith, p, q)

pub index-requires-in-loop-level : goal.index-requires-in-loop-level
index-requires-in-loop-level c = omega (
  arith,
  c.requires.tree.size,
  c.loop-level.invariant.high,
  more-below c.loop-level.level c.args.height
      c.loop-level-test.true,
)

pub overflow_mul-at : goal.overflow_mul-at
overflow_mul-at c = let m = more-below c.loop-level.level c.args.height c.loop-level-test.true in let h = c.loop-level.invariant.high in omega
    (arith, m, h, c.requires.fits)

pub overflow_add-at : goal.overflow_add-at
overflow_add-at c = let m = more-below c.loop-level.level c.args.height c.loop-level-test.true in let h = c.loop-level.invariant.high in omega
    (arith, m, h, c.requires.fits)

pub loop-level-preserved : goal.loop-level-preserved
loop-level-preserved c = elim c.if-not-index-2.branch [
  | then-not-index-2 w ↦ let no = ap (λ o. bit_of o) c.index-in-loop-level.ensures ∙ w.if-not-index-2.true in
      subst (λ a. IsOnWay c.args.height (c.loop-level.level + 1) a c.args.nodes.now) (ap (λ a. a + 1) (mul_comm 2 c.loop-level.at) ∙ sym w.at-is)
      (go-right c.args.height c.loop-level.level c.loop-level.at c.args.nodes.now c.requires.tree c.loop-level-test.true
      (pow_mono (omega arith)) c.loop-level.invariant (ap (λ i. bit c.args.nodes.now i) (mul_comm 2 c.loop-level.at) ∙ no))
  | else-not-index-2 w ↦ let yes = ap (λ o. bit_of o) c.index-in-loop-level.ensures ∙ w.if-not-index-2.false in
      subst (λ a. IsOnWay c.args.height (c.loop-level.level + 1) a c.args.nodes.now) (mul_comm 2 c.loop-level.at ∙ sym w.at-is)
      (go-down c.args.height c.loop-level.level c.loop-level.at c.args.nodes.now c.requires.tree c.loop-level-test.true c.loop-level.invariant
      (ap (λ i. bit c.args.nodes.now i) (mul_comm 2 c.loop-level.at) ∙ yes))
]
