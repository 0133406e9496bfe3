use Rattle.std.specs.Prelude.{slice_index_or}
use Rattle.std.proofs.Common.{◌≡◌, ◌-◌, suc, ap, arith}
use Rattle.unit_landscape.proofs.TotalsLemmas.{sum_to-within}
use Rattle.unit_landscape.proofs.counted.sum.Goals as goal

pub overflow_add-all : goal.overflow_add-all
overflow_add-all c =
    let place = c.loop-place.place in
    let more = sum_to-within (λ system. slice_index_or c.args.numbers.now (system - 1) 0) (suc place) c.args.count (omega arith) in
    let back : suc place - 1 ≡ place = omega arith in
    let same = ap (λ k. slice_index_or c.args.numbers.now k 0) back in
    let so_far = c.loop-place.invariant in
    let few = c.requires.few in
    omega (arith, more, same, so_far, few)
