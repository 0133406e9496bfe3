use Rattle.std.proofs.Common.{◌≡◌, List, [], drop}
use Rattle.toml.specs.Data.{Data}
use Rattle.toml.specs.View.{items_view}
use Rattle.model_keys.specs.Each.{each}
use Rattle.dist_model.specs.declared.system.System.{System}
use Rattle.dist_model.specs.Model.{system_names}
use Rattle.model_text.specs.Systems.{system_of}
use Rattle.model_text.specs.declared.keys.TheConstants.{SYSTEM}
use Rattle.model_text.proofs.systems.systems_of.Given as goal

abbrev pub invariant-loop-place : goal.invariant-loop-place
invariant-loop-place l =
    let read = λ (done : List (System)) (d : Data). system_of (system_names done) d in
    (l.names ≡ system_names l.systems) × (each SYSTEM.now read l.place l.systems (items_view (drop l.place l.values))
    ≡ each SYSTEM.now read 0 [] (items_view l.values))
