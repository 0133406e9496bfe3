use Rattle.std.proofs.Common.{◌≡◌, ◌+◌, ◌/◌, ◌^◌, arith, ap, ◌∙◌, not, slice_get, slice_set, inl, inr}
use Rattle.std.proofs.lemmas.Bool.Decides.{eqb_tells}
use Rattle.multi_queue.specs.Bits.{bit, bit_of}
use Rattle.multi_queue.specs.Counted.{is_ready}
use Rattle.multi_queue.proofs.CountedLemmas.{set-here, set-there}
use Rattle.multi_queue.proofs.board.Board.refresh.Goals as goal

pub returns-clause-board : goal.returns-clause-board
returns-clause-board c =
    let b = c.requires.board in
    let height = c.args.self.now.height in
    let nodes = c.args.self.now.nodes in
    let half : c.len.result / 2 ≡ 2 ^ height = omega (arith, c.len.ensures, b.tree.size) in
    let leaf_at = c.len.result / 2 + c.args.place in
    record {
      tree = c.settle.ensures.tree;
      fits = b.fits;
      room = b.room;
      all = b.all;
      ready = λ p _ small.
          let kept = c.settle.ensures.leaves (2 ^ height + p) (omega arith) in
          elim (eqb_tells c.args.place p) [
            | inl same ↦
                let leaf : 2 ^ height + p ≡ leaf_at = omega (arith, half, same.1) in
                kept ∙ ap (λ i. bit (slice_set nodes leaf_at c.ready_at-ready.result) i) leaf
                ∙ ap (λ o. bit_of o) (set-here nodes leaf_at c.at_mut.result.now c.ready_at-ready.result c.at_mut.ensures.value)
                ∙ c.ready_at-ready.ensures ∙ ap (λ i. is_ready (slice_get c.args.units.now i) (slice_get c.args.self.now.heads i)) same.1
            | inr other ↦ kept ∙ ap (λ o. bit_of o) (set-there nodes leaf_at (2 ^ height + p) c.ready_at-ready.result (λ i. other.1 (omega (arith, i, half))))
                ∙ b.ready p (ap (λ t. not t) other.0) small
          ];
    }
