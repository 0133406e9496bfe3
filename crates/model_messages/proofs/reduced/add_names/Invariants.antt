use Rattle.std.proofs.Common.{◌≡◌, take}
use Rattle.dist_model.specs.Message.{message_names}
use Rattle.model_messages.proofs.reduced.add_names.Given as goal

abbrev pub invariant-loop-message : goal.invariant-loop-message
invariant-loop-message l = l.names ≡ message_names (take l.message-index l.messages)
