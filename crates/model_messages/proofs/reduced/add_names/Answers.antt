use Rattle.std.proofs.Common.{[]}
use Rattle.ale_base.specs.Text.{is_text}
use Rattle.dist_model.specs.declared.message.Message.{Message}
use Rattle.dist_model.proofs.DistinctLemmas.{added_next, is_text-symmetric}
use Rattle.model_messages.proofs.reduced.add_names.Goals as goal

pub loop-message-preserved : goal.loop-message-preserved
loop-message-preserved c =
    let x = c.message-item.result in
    added_next is_text is_text-symmetric (λ (m : Message). m.name) c.args.messages.now c.loop-message.message-index x c.as_slice.result.now []
    c.loop-message.names c.add.new.self c.in_ok-add.field-0
    c.requires.apart c.message-item.is c.as_slice.ensures c.loop-message-test.true c.loop-message.invariant c.in_ok-add.ensures.new c.in_ok-add.ensures.added
