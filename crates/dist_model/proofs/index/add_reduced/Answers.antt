use Rattle.ale_base.specs.Text.{is_text}
use Rattle.dist_model.specs.declared.message.Reduced.{Reduced}
use Rattle.dist_model.proofs.DistinctLemmas.{added_next, is_text-symmetric}
use Rattle.dist_model.proofs.index.add_reduced.Goals as goal

pub loop-one-preserved : goal.loop-one-preserved
loop-one-preserved c =
    let x = c.one-item.result in
    added_next is_text is_text-symmetric (λ (r : Reduced). r.name) c.args.reduced.now c.loop-one.one-index x c.as_slice.result.now c.args.names.now
    c.loop-one.names c.add.new.self c.in_ok-add.field-0
    c.requires c.one-item.is c.as_slice.ensures c.loop-one-test.true c.loop-one.invariant c.in_ok-add.ensures.new c.in_ok-add.ensures.added
