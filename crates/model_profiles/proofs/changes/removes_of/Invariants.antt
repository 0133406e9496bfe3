use Rattle.std.proofs.Common.{◌≡◌, ℕ, List, [], drop}
use Rattle.toml.specs.Data.{Data}
use Rattle.toml.specs.View.{items_view}
use Rattle.model_keys.specs.Each.{each}
use Rattle.model_profiles.specs.Changes.{removed_of}
use Rattle.model_profiles.specs.declared.keys.TheConstants.{REMOVE}
use Rattle.model_profiles.proofs.changes.removes_of.Given as goal

abbrev pub invariant-loop-place : goal.invariant-loop-place
invariant-loop-place l =
    let read = λ (done : List ℕ) (d : Data). removed_of l.on.types d in
    each REMOVE.now read l.place l.segments (items_view (drop l.place l.values)) ≡ each REMOVE.now read 0 [] (items_view l.values)
