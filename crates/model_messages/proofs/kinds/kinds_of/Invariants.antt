use Rattle.std.proofs.Common.{◌≡◌, List, [], drop}
use Rattle.toml.specs.Data.{Data}
use Rattle.toml.specs.View.{items_view}
use Rattle.dist_model.specs.declared.kind.Kind.{Kind}
use Rattle.dist_model.specs.Kind.{kind_names}
use Rattle.model_keys.specs.Each.{each}
use Rattle.model_messages.specs.Kinds.{kind_of}
use Rattle.model_messages.specs.declared.keys.TheConstants.{KIND}
use Rattle.model_messages.proofs.kinds.kinds_of.Given as goal

abbrev pub invariant-loop-place : goal.invariant-loop-place
invariant-loop-place l =
    let read = λ (done : List Kind) (d : Data). kind_of l.definitions (kind_names done) d in
    (l.names ≡ kind_names l.kinds) × (each KIND.now read l.place l.kinds (items_view (drop l.place l.values)) ≡ each KIND.now read 0 [] (items_view l.values))
