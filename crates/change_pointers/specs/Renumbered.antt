-- Pointers when another model comes into force. The numbers of message types are those of one model alone, so a pointer goes by the
-- name. This project's own.
use Rattle.std.specs.Prelude.{ℕ, Option, position}
use Rattle.std.specs.Option.{option_map}
use Rattle.ale_base.specs.Text.{is_text}
use Rattle.dist_model.specs.declared.lists.Lists.{Lists}
use Rattle.dist_model.specs.Message.{message_names}
use Rattle.change_pointers.specs.declared.pointer.Pointer.{Pointer}
use Rattle.dist_model.specs.Named.{message_name}

-- the number that a message type of one model has in another, if it is there
abbrev pub number_in : Lists → Lists → ℕ → Option ℕ
number_in before after message = position (is_text (message_name before message)) (message_names after.messages)

-- a pointer of one model with the number that its message type has in another, if it is there
abbrev pub renumbered : Lists → Lists → Pointer → Option Pointer
renumbered before after pointer = option_map (λ message. record pointer { message = message }) (number_in before after pointer.message)
