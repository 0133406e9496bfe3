use Rattle.std.proofs.Common.{◌≡◌, List, [], drop}
use Rattle.std.specs.List.{flat_map}
use Rattle.toml.specs.Data.{Data}
use Rattle.toml.specs.View.{items_view}
use Rattle.segment_defs.specs.declared.segment_type.SegmentType.{SegmentType}
use Rattle.segment_defs.specs.Definitions.{names_of}
use Rattle.model_keys.specs.Each.{each}
use Rattle.model_text.specs.declared.keys.TheConstants.{SEGMENT}
use Rattle.dist_model.specs.Model.{type_names}
use Rattle.model_text.specs.Segments.{segment_of}
use Rattle.model_text.proofs.segments.segments_of.Given as goal

abbrev pub invariant-loop-place : goal.invariant-loop-place
invariant-loop-place l =
    let read = λ (done : List SegmentType) (d : Data). segment_of l.releases (flat_map names_of done) d in
    (l.names ≡ flat_map names_of l.segments) × (l.types ≡ type_names l.segments)
    × (each SEGMENT.now read l.place l.segments (items_view (drop l.place l.values)) ≡ each SEGMENT.now read 0 [] (items_view l.values))
