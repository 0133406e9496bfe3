use Rattle.std.proofs.Common.{◌≡◌, List, [], drop}
use Rattle.toml.specs.Data.{Data}
use Rattle.toml.specs.View.{items_view}
use Rattle.dist_model.specs.declared.filter.FieldPlace.{FieldPlace}
use Rattle.model_keys.specs.Each.{each}
use Rattle.model_messages.specs.Reduced.{kept_of}
use Rattle.model_messages.specs.declared.keys.TheConstants.{KEEP}
use Rattle.model_messages.proofs.keep.keep_of.Given as goal

abbrev pub invariant-loop-place : goal.invariant-loop-place
invariant-loop-place l =
    let read = λ (done : List FieldPlace) (d : Data). kept_of l.definitions l.types d in
    each KEEP.now read l.place l.keep (items_view (drop l.place l.values)) ≡ each KEEP.now read 0 [] (items_view l.values)
