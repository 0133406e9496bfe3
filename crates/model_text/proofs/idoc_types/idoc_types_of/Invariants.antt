use Rattle.std.proofs.Common.{◌≡◌, List, [], drop}
use Rattle.toml.specs.Data.{Data}
use Rattle.toml.specs.View.{items_view}
use Rattle.model_keys.specs.Each.{each}
use Rattle.segment_defs.specs.declared.idoc_type.IdocType.{IdocType}
use Rattle.dist_model.specs.Model.{idoc_type_names}
use Rattle.model_text.specs.IdocTypes.{idoc_type_of}
use Rattle.model_text.specs.declared.keys.TheConstants.{IDOCTYPE}
use Rattle.model_text.proofs.idoc_types.idoc_types_of.Given as goal

abbrev pub invariant-loop-place : goal.invariant-loop-place
invariant-loop-place l =
    let read = λ (done : List (IdocType)) (d : Data). idoc_type_of l.types (idoc_type_names done) d in
    (l.names ≡ idoc_type_names l.idoc_types) × (each IDOCTYPE.now read l.place l.idoc_types (items_view (drop l.place l.values))
    ≡ each IDOCTYPE.now read 0 [] (items_view l.values))
