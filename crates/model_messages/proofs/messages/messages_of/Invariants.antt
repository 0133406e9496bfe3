use Rattle.std.proofs.Common.{◌≡◌, List, [], drop}
use Rattle.toml.specs.Data.{Data}
use Rattle.toml.specs.View.{items_view}
use Rattle.dist_model.specs.declared.message.Message.{Message}
use Rattle.dist_model.specs.Message.{message_names}
use Rattle.model_keys.specs.Each.{each}
use Rattle.model_messages.specs.Messages.{message_of}
use Rattle.model_messages.specs.declared.keys.TheConstants.{MESSAGE}
use Rattle.model_messages.proofs.messages.messages_of.Given as goal

abbrev pub invariant-loop-place : goal.invariant-loop-place
invariant-loop-place l =
    let read = λ (done : List Message) (d : Data). message_of l.definitions l.types.things.now l.kinds.things.now (message_names done) d in
    (l.names ≡ message_names l.messages) × (each MESSAGE.now read l.place l.messages (items_view (drop l.place l.values))
    ≡ each MESSAGE.now read 0 [] (items_view l.values))
