use Rattle.std.proofs.Common.{◌≡◌, List, [], drop}
use Rattle.toml.specs.Data.{Data}
use Rattle.toml.specs.View.{items_view}
use Rattle.dist_model.specs.declared.message.Reduced.{Reduced}
use Rattle.model_keys.specs.Each.{each}
use Rattle.model_messages.specs.Reduced.{names_with, reduced_of}
use Rattle.model_messages.specs.declared.keys.TheConstants.{REDUCED}
use Rattle.model_messages.proofs.reduced.all_reduced_of.Given as goal

abbrev pub invariant-loop-place : goal.invariant-loop-place
invariant-loop-place l =
    let messages = l.messages.things.now in
    let read = λ (done : List Reduced) (d : Data). reduced_of l.definitions l.types messages (names_with messages done) d in
    (l.names ≡ names_with messages l.reduced) × (each REDUCED.now read l.place l.reduced (items_view (drop l.place l.values))
    ≡ each REDUCED.now read 0 [] (items_view l.values))
