use Rattle.std.proofs.Common.{◌≡◌, List, [], drop}
use Rattle.toml.specs.Data.{Data}
use Rattle.toml.specs.View.{items_view}
use Rattle.model_keys.specs.Each.{each}
use Rattle.model_profiles.specs.Changes.{convert_of}
use Rattle.model_profiles.specs.declared.keys.TheConstants.{CONVERT}
use Rattle.dist_model.specs.declared.outbound.Convert.{Convert}
use Rattle.model_profiles.proofs.changes.converts_of.Given as goal

abbrev pub invariant-loop-place : goal.invariant-loop-place
invariant-loop-place l =
    let read = λ (done : List Convert) (d : Data). convert_of l.on.types l.on.definitions d in
    each CONVERT.now read l.place l.converts (items_view (drop l.place l.values)) ≡ each CONVERT.now read 0 [] (items_view l.values)
