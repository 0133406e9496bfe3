use Rattle.model_messages.specs.Messages.{message_named, message_of}
use Rattle.model_messages.proofs.messages.message_of.Goals as goal

pub returns-in-Err-clause-given : goal.returns-in-Err-clause-given
unfolding message_of message_named
returns-in-Err-clause-given c = rw (c.in_ok-table.ensures, c.in_ok-name.ensures.given) (c.in-Err.ensures c.in_ok-name.name)

pub returns-in-Ok-clause-given : goal.returns-in-Ok-clause-given
unfolding message_of message_named
returns-in-Ok-clause-given c =
    rw (c.in_ok-table.ensures, c.in_ok-name.ensures.given, c.named.ensures) (c.in-Ok.ensures c.in_ok-name.name)
