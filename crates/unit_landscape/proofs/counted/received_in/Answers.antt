use Rattle.std.specs.Prelude.{slice_get}
use Rattle.std.proofs.Common.{◌≡◌, suc, ◌+◌, ◌≤◌, [], ◌∷◌, ◌++◌, length, take, sym, ap, ◌∙◌, arith}
use Rattle.std.proofs.lemmas.List.{length-take-le}
use Rattle.std.proofs.Math.Seq.{take-suc}
use Rattle.unit_core.specs.Filters.{received, taken_by}
use Rattle.unit_landscape.specs.declared.counted.Adds.{Adds}
use Rattle.unit_landscape.specs.Counted.{one_if}
use Rattle.unit_landscape.proofs.CountedLemmas.{count-most, count-push, one_if-most}
use Rattle.unit_landscape.proofs.counted.received_in.Goals as goal

pub overflow_add-many : goal.overflow_add-many
overflow_add-many c =
    let so_far = c.loop-next.invariant in
    let few = count-most taken_by (take c.loop-next.next-index c.args.log.now) in
    let front = length-take-le c.loop-next.next-index c.args.log.now c.loop-next.auto.next-index-end in
    let adds = ap (λ (a : Adds). a.received) c.of-many.ensures in
    let one = one_if-most (taken_by c.next-item.result) in
    omega (arith, so_far, few, front, adds, one)

pub loop-next-preserved : goal.loop-next-preserved
loop-next-preserved c =
    let so_far = c.loop-next.invariant in
    let log = c.args.log.now in
    let place = c.loop-next.next-index in
    let next = take-suc log place c.next-item.result c.loop-next-test.true in
    let step : suc place ≡ place + 1 = omega arith in
    let more = ap (λ k. length (received (take k log))) (sym step) ∙ ap (λ l. length (received l)) (next ∙ ap (λ x. take place log ++ x ∷ []) (sym c.next-item.is))
    ∙ count-push taken_by (take place log) c.next-item.result in
    let adds = ap (λ (a : Adds). a.received) c.of-many.ensures in
    omega (arith, so_far, more, adds)
