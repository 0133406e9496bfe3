use Rattle.std.proofs.Common.{◌≡◌, true, sym, ap, ◌∙◌, List}
use Rattle.unit_codec.proofs.ListLemmas.{listed_at-more}
use Rattle.unit_codec.proofs.lists.take_listed.Goals as goal

pub loop-preserved : goal.loop-preserved
loop-preserved g c =
    let kind = g.T.Listed.kind in
    let rule = g.T.Listed.follows in
    let next = c.in_ok-next.next in
    let follows : rule c.loop.taken next ≡ true = ap (λ (front : List _). rule front next) (sym c.as_slice.ensures) ∙ sym c.follows.ensures
    ∙ c.if-not-follows.false in
    rw c.in_ok-push.ensures.ok
    (listed_at-more kind rule c.loop.taken next c.args.count c.loop.counter c.loop.from c.take.new.from _ c.loop-test.true c.in_ok-next.ensures follows
    c.loop.invariant)
