use Rattle.std.specs.Prelude.{position}
use Rattle.std.specs.Option.{option_map}
use Rattle.std.proofs.Common.{◌≡◌, ◌+◌, drop}
use Rattle.ale_base.specs.Text.{is_text}
use Rattle.dist_model.specs.Message.{message_names}
use Rattle.change_pointers.proofs.renumbering.number_in.Given as goal

-- what is found among the message types left, that much further, is what is found among all
abbrev pub invariant-loop-place : goal.invariant-loop-place
invariant-loop-place l =
    option_map (λ k. l.place + k) (position (is_text l.name) (message_names (drop l.place l.messages))) ≡ position (is_text l.name) (message_names l.messages)
