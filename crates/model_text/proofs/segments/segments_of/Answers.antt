use Rattle.std.proofs.Common.{◌≡◌, ◌++◌, ◌∷◌, [], List, ◌∙◌}
use Rattle.std.specs.List.{flat_map}
use Rattle.toml.specs.Data.{Data}
use Rattle.toml.specs.View.{view}
use Rattle.segment_defs.specs.declared.segment_type.SegmentType.{SegmentType}
use Rattle.segment_defs.specs.Definitions.{names_of}
use Rattle.model_keys.proofs.EachLemmas.{loop-goes, loop-fails, loop-ends}
use Rattle.model_text.specs.declared.keys.TheConstants.{SEGMENT}
use Rattle.model_text.specs.Segments.{segment_of}
use Rattle.model_text.proofs.SegmentLemmas.{all_names-push, types-added}
use Rattle.model_text.proofs.segments.segments_of.Goals as goal

pub returns-in-Err-clause-given : goal.returns-in-Err-clause-given
returns-in-Err-clause-given c =
    loop-fails SEGMENT.now (λ (done : List SegmentType) (d : Data). segment_of c.args.releases.now (flat_map names_of done) d) c.args.values.now
    c.loop-place.place _ c.in-Err.error c.within.result
    c.loop-place.segments c.index-values-place.result c.index-values-place.is c.loop-place-test.true (rw (← c.loop-place.invariant.0) c.in-Err.ensures.given)
    c.within.ensures c.loop-place.invariant.2

pub loop-place-preserved : goal.loop-place-preserved
loop-place-preserved c =
    let segment = c.in-Ok.segment in
    let pushed : c.push.new.self ≡ c.loop-place.segments ++ segment ∷ [] = c.in_ok-push-in-Ok.ensures.ok in
    let so_far = c.loop-place.invariant in
    rw pushed (
      c.in-Ok.ensures.named ∙ all_names-push c.loop-place.names c.loop-place.segments segment so_far.0,
      types-added c.args.releases.now c.loop-place.names c.loop-place.types c.add.new.self c.loop-place.segments
          (view c.index-values-place.result) segment c.in_ok-add-in-Ok.field-0
          so_far.0 so_far.1 c.in-Ok.ensures.given (rw c.as_slice.ensures at c.in_ok-add-in-Ok.ensures.new)
          (rw c.as_slice.ensures at c.in_ok-add-in-Ok.ensures.added),
      loop-goes SEGMENT.now (λ (done : List SegmentType) (d : Data). segment_of c.args.releases.now (flat_map names_of done) d) c.args.values.now
          c.loop-place.place _ c.loop-place.segments
          c.index-values-place.result segment c.index-values-place.is c.loop-place-test.true (rw (← so_far.0) c.in-Ok.ensures.given) so_far.2,
    )

pub returns-clause-given : goal.returns-clause-given
returns-clause-given c =
    loop-ends SEGMENT.now (λ (done : List SegmentType) (d : Data). segment_of c.args.releases.now (flat_map names_of done) d) c.args.values.now
    c.loop-place.place _ c.loop-place.segments c.loop-place-test.false c.loop-place.invariant.2
