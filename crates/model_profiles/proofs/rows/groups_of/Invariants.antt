use Rattle.std.proofs.Common.{◌≡◌, List, [], drop}
use Rattle.toml.specs.Data.{Data}
use Rattle.toml.specs.View.{items_view}
use Rattle.model_keys.specs.Each.{each}
use Rattle.model_profiles.specs.Rows.{group_of}
use Rattle.model_profiles.specs.declared.keys.TheConstants.{GROUP}
use Rattle.dist_model.specs.declared.row.Group.{Group}
use Rattle.model_profiles.proofs.rows.groups_of.Given as goal

abbrev pub invariant-loop-place : goal.invariant-loop-place
invariant-loop-place l =
    let read = λ (done : List Group) (d : Data). group_of l.on.definitions l.on.filters l.message d in
    each GROUP.now read l.place l.groups (items_view (drop l.place l.values)) ≡ each GROUP.now read 0 [] (items_view l.values)
