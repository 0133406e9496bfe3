use Rattle.std.proofs.Common.{◌≡◌, ◌≤◌, List, length, ap, sym, ◌∙◌, arith, subst, take, ◌+◌}
use Rattle.std.proofs.lemmas.List.{length-set}
use Rattle.outbound_build.specs.declared.added.Waiting.{Waiting}
use Rattle.outbound_build.specs.steps.Packets.{AreWaitingFor}
use Rattle.outbound_build.proofs.PacketLemmas.{waits_past, waits_put}
use Rattle.outbound_build.proofs.packets.waiting_by_row.Goals as goal
use Rattle.outbound_build.proofs.packets.waiting_by_row.Goals.{then-place-len+in_ok-clone+in_ok-push, else-place-len}

pub loop-one-preserved : goal.loop-one-preserved
loop-one-preserved c =
    let waiting = c.args.waiting.now in
    let lists = c.loop-one.lists in
    let i = c.loop-one.one-index in
    let one = c.one-item.result in
    let place = c.from-place.result in
    let at : place ≡ one.row = c.from-place.ensures ∙ ap (λ (w : Waiting). w.row) c.one.view_is in
    elim c.if-place-len.branch [
      | then-place-len+in_ok-clone+in_ok-push w ↦
          let new = w.push.new.self in
          record {
            all = ap (λ (all : List (List Waiting)). length all) w.lists-is ∙ length-set lists place new ∙ c.loop-one.invariant.all;
            each = waits_put waiting lists c.if-place-len.lists i place one w.in_ok-clone.field-0 w.at_mut.result.now new at c.one-item.is c.loop-one-test.true
                c.loop-one.invariant.each w.at_mut.ensures.value w.in_ok-clone.ensures.cases w.in_ok-push.ensures.ok w.lists-is;
          }
      | else-place-len w ↦
          let past : length lists ≤ one.row = omega (arith, at, c.len.ensures, w.if-place-len.false) in
          let each = waits_past waiting lists i one c.one-item.is c.loop-one-test.true c.loop-one.invariant.each past in
          record {
            all = ap (λ (all : List (List Waiting)). length all) w.lists-is ∙ c.loop-one.invariant.all;
            each = subst (AreWaitingFor (take (i + 1) waiting)) (sym w.lists-is) each;
          }
    ]
