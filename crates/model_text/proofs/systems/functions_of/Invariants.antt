use Rattle.std.proofs.Common.{◌≡◌, ℕ, List, [], drop}
use Rattle.toml.specs.Data.{Data}
use Rattle.toml.specs.View.{items_view}
use Rattle.model_keys.specs.Each.{each}
use Rattle.model_text.specs.Systems.{function_of}
use Rattle.model_text.specs.declared.keys.TheConstants.{FUNCTIONS}
use Rattle.model_text.proofs.systems.functions_of.Given as goal

abbrev pub invariant-loop-place : goal.invariant-loop-place
invariant-loop-place l =
    let read = λ (done : List (List ℕ)) (d : Data). function_of d in
    each FUNCTIONS.now read l.place l.functions (items_view (drop l.place l.values)) ≡ each FUNCTIONS.now read 0 [] (items_view l.values)
