use Rattle.std.proofs.Common.{arith}
use Rattle.std.proofs.lemmas.List.Elements.{All-drop}
use Rattle.dialog_pool.proofs.locked.Locked.act_all.Goals as goal

pub loop-one-preserved : goal.loop-one-preserved
loop-one-preserved g c =
    let at = c.loop-one in
    record {
      ready = rw c.in-Some.ensures.rest (All-drop (λ one. g.D.Desk.is_of one.ready one.work) 1 at.batch.items at.invariant.ready);
      amount = omega arith;
      fits = c.act-by_it.ensures.fits;
      parts = cc;
    }
