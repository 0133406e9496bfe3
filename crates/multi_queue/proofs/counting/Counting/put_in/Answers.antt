use Rattle.std.proofs.Common.{◌≡◌, ◌<◌, arith, ◌-◌, Some, length, take, slice_get, slice_set, sym, ap, ◌∙◌, subst, List, ℕ, false}
use Rattle.multi_queue.specs.declared.entry.Entry.{Entry}
use Rattle.multi_queue.specs.declared.entry.Lane.{Lane}
use Rattle.multi_queue.specs.Counted.{IsCounted, AreKept, has, Leaves}
use Rattle.multi_queue.proofs.CountedLemmas.{set-here, set-twice, set-get_lane, set-get, changed, joining, take-snoc, lanes-line, lanes-same, leaves-none}
use Rattle.multi_queue.proofs.CountedLemmas.{board-idle, dead-idle}
use Rattle.multi_queue.proofs.counting.Counting.put_in.Goals as goal

pub returns-in-Ok-clause-kept : goal.returns-in-Ok-clause-kept
returns-in-Ok-clause-kept c =
    let it = c.requires.joining in
    let same : it.unit ≡ c.at_mut.result.now = cc (it.stands, c.at_mut.ensures.value) in
    let apart = subst (λ (v : Entry). has c.args.queue v.queues ≡ false) same it.apart in
    let few = subst (λ (v : Entry). length v.queues < 8) same it.few in
    let dead : c.at_mut.result.now.live ≡ false = subst (λ (v : Entry). v.live ≡ false) same it.dead in
    record {
      counted =
          subst (λ (l : List ℕ). IsCounted (Some c.args.queue) (slice_set c.args.self.now.units c.args.place (record c.at_mut.result.now { queues = l }))
          (slice_set c.args.self.now.lanes c.args.queue (record c.at_mut-2.result.now { line = c.push-2.new.self })) c.args.self.now.board.heads)
          (sym c.in_default.ensures.ok)
          (changed c.args.queue c.args.place c.args.self.now.units c.args.self.now.lanes c.args.self.now.board.heads c.at_mut.result.now _ c.at_mut-2.result.now
          _ c.at_mut-2.ensures.value
          (joining c.args.queue c.args.place c.args.self.now.units c.args.self.now.lanes c.args.self.now.board.heads c.at_mut.result.now c.at_mut-2.result.now _
          c.at_mut-2.ensures.value
          c.requires.known c.at_mut.ensures.value it.last apart few c.in-Ok.ensures.ok c.requires.kept.counted)
          c.requires.kept.counted);
      leaves = λ some. board-idle c.args.place c.at_mut.result.now (record c.at_mut.result.now { queues = c.push.new.self }) c.args.self.now.units
          c.args.self.now.board c.at_mut.ensures.value (λ o. dead-idle c.at_mut.result.now o dead)
          (λ o. dead-idle (record c.at_mut.result.now { queues = c.push.new.self }) o dead)
          (c.requires.kept.leaves (omega (arith, it.last)));
    }

pub returns-in-Err-clause-err : goal.returns-in-Err-clause-err
returns-in-Err-clause-err c = subst (λ (l : List ℕ). slice_set c.args.self.now.units c.args.place (record c.at_mut.result.now { queues = l })
    ≡ c.args.self.now.units)
    (sym c.in-Err.ensures.err)
    (set-get c.args.self.now.units c.args.place c.at_mut.result.now c.at_mut.ensures.value)

pub returns-in-Err-clause-kept : goal.returns-in-Err-clause-kept
returns-in-Err-clause-kept c = subst (λ (l : List Entry). AreKept (Some c.args.queue) l c.args.self.now.lanes c.args.self.now.board)
    (sym (returns-in-Err-clause-err c)) c.requires.kept

pub returns-in-Err-clause-others : goal.returns-in-Err-clause-others
returns-in-Err-clause-others c = subst (λ (l : List Entry). Leaves c.args.place c.args.self.now.units l) (sym (returns-in-Err-clause-err c))
    (leaves-none c.args.place c.args.self.now.units)

pub returns-in-Err-clause-lanes : goal.returns-in-Err-clause-lanes
returns-in-Err-clause-lanes c = lanes-same c.args.self.now.lanes

pub returns-in-Err-push-clause-err : goal.returns-in-Err-push-clause-err
returns-in-Err-push-clause-err c =
    let u = c.at_mut.result.now in
    let mid : slice_get (slice_set c.args.self.now.units c.args.place (record u { queues = c.push.new.self })) c.args.place
    ≡ Some (record u { queues = c.push.new.self }) =
    set-here c.args.self.now.units c.args.place u (record u { queues = c.push.new.self }) c.at_mut.ensures.value in
    let same : record u { queues = c.push.new.self } ≡ c.at_mut-in-Err-push.result.now = cc (mid, c.at_mut-in-Err-push.ensures.value) in
    let row : c.cut.new.self ≡ u.queues = c.cut.ensures ∙ ap (λ (v : Entry). take (length v.queues - 1) v.queues) (sym same)
    ∙ ap (λ (l : List ℕ). take (length l - 1) l) c.in_default.ensures.ok ∙ take-snoc u.queues c.args.queue in
    let back : record c.at_mut-in-Err-push.result.now { queues = c.cut.new.self } ≡ u = ap (λ (v : Entry). record v { queues = c.cut.new.self }) (sym same)
    ∙ ap (λ (l : List ℕ). record u { queues = l }) row in
    ap (λ (v : Entry). slice_set (slice_set c.args.self.now.units c.args.place (record u { queues = c.push.new.self })) c.args.place v) back
    ∙ set-twice c.args.self.now.units c.args.place (record u { queues = c.push.new.self }) u
    ∙ set-get c.args.self.now.units c.args.place u c.at_mut.ensures.value

pub returns-in-Err-push-clause-kept : goal.returns-in-Err-push-clause-kept
returns-in-Err-push-clause-kept c =
    subst (λ (l : List Entry). AreKept (Some c.args.queue) l
    (slice_set c.args.self.now.lanes c.args.queue (record c.at_mut-2.result.now { line = c.push-2.new.self })) c.args.self.now.board)
    (sym (returns-in-Err-push-clause-err c))
    (subst (λ (l : List Lane). AreKept (Some c.args.queue) c.args.self.now.units l c.args.self.now.board)
    (sym (ap (λ (l : List ℕ). slice_set c.args.self.now.lanes c.args.queue (record c.at_mut-2.result.now { line = l })) c.in-Err-push.ensures.err
    ∙ set-get_lane c.args.self.now.lanes c.args.queue c.at_mut-2.result.now c.at_mut-2.ensures.value)) c.requires.kept)

pub returns-in-Err-push-clause-others : goal.returns-in-Err-push-clause-others
returns-in-Err-push-clause-others c = subst (λ (l : List Entry). Leaves c.args.place c.args.self.now.units l) (sym (returns-in-Err-push-clause-err c))
    (leaves-none c.args.place c.args.self.now.units)

pub returns-in-Err-push-clause-lanes : goal.returns-in-Err-push-clause-lanes
returns-in-Err-push-clause-lanes c = lanes-line c.args.queue c.args.self.now.lanes c.at_mut-2.result.now c.push-2.new.self c.at_mut-2.ensures.value

pub returns-in-Ok-clause-others : goal.returns-in-Ok-clause-others
returns-in-Ok-clause-others c = record {
  leaves = λ u got.
      let same : c.at_mut.result.now ≡ u = cc (got, c.at_mut.ensures.value) in
      (c.push.new.self, ap (λ (v : Entry). slice_set c.args.self.now.units c.args.place (record v { queues = c.push.new.self })) same);
}

pub returns-in-Ok-clause-lanes : goal.returns-in-Ok-clause-lanes
returns-in-Ok-clause-lanes c = lanes-line c.args.queue c.args.self.now.lanes c.at_mut-2.result.now c.push-2.new.self c.at_mut-2.ensures.value
