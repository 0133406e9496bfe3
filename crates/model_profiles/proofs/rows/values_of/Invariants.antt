use Rattle.std.proofs.Common.{◌≡◌, ℕ, List, [], drop}
use Rattle.toml.specs.Data.{Data}
use Rattle.toml.specs.View.{items_view}
use Rattle.model_keys.specs.Each.{each}
use Rattle.model_profiles.specs.Values.{filter_value_of}
use Rattle.model_profiles.proofs.rows.values_of.Given as goal

abbrev pub invariant-loop-place : goal.invariant-loop-place
invariant-loop-place l =
    let read = λ (done : List (List ℕ)) (d : Data). filter_value_of l.width d in
    each l.key read l.place l.texts (items_view (drop l.place l.values)) ≡ each l.key read 0 [] (items_view l.values)
