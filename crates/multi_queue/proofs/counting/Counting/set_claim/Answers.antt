use Rattle.std.proofs.Common.{None, ℕ, List, arith, refl, sym, subst, slice_set}
use Rattle.multi_queue.specs.declared.entry.Entry.{Entry}
use Rattle.multi_queue.specs.Counted.{IsCounted}
use Rattle.multi_queue.proofs.CountedLemmas.{board-units}
use Rattle.multi_queue.proofs.FlagLemmas.{same-counted}
use Rattle.multi_queue.proofs.counting.Counting.set_claim.Goals as goal

pub refresh-requires-clause-board : goal.refresh-requires-clause-board
refresh-requires-clause-board c = board-units c.args.place _ c.args.self.now.units c.args.self.now.board
    (c.requires.kept.leaves (omega (arith, c.requires.within)))

pub returns-clause-kept : goal.returns-clause-kept
returns-clause-kept c =
    let u : Entry = c.at_mut.result.now in
    let v : Entry = record u { claim = c.args.claim } in
    record {
      counted = subst (λ (l : List ℕ). IsCounted None (slice_set c.args.self.now.units c.args.place v) c.args.self.now.lanes l) (sym c.refresh.ensures.heads)
          (same-counted c.args.self.now.units c.args.self.now.lanes c.args.self.now.board.heads c.args.place u v c.at_mut.ensures.value refl
          c.requires.kept.counted);
      leaves = λ _. c.refresh.ensures.board;
    }
