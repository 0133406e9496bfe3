use Rattle.std.proofs.Common.{◌≡◌, ℕ, List, [], drop}
use Rattle.toml.specs.Data.{Data}
use Rattle.toml.specs.View.{items_view}
use Rattle.model_keys.specs.Each.{each}
use Rattle.model_messages.specs.Messages.{own_field_of}
use Rattle.model_messages.proofs.own_fields.own_fields_of.Given as goal

abbrev pub invariant-loop-place : goal.invariant-loop-place
invariant-loop-place l =
    let read = λ (done : List ℕ) (d : Data). own_field_of l.definitions l.kind d in
    each l.key read l.place l.fields (items_view (drop l.place l.values)) ≡ each l.key read 0 [] (items_view l.values)
