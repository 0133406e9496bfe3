use Rattle.std.proofs.Common.{◌≡◌, ◌++◌, ◌∷◌, [], List, ap, ◌∙◌, sym}
use Rattle.toml.specs.Data.{Data}
use Rattle.segment_defs.specs.declared.version.Version.{Version}
use Rattle.model_keys.proofs.EachLemmas.{loop-goes, loop-fails, loop-ends}
use Rattle.model_text.specs.declared.keys.TheConstants.{VERSION}
use Rattle.model_text.specs.Fields.{field_names}
use Rattle.model_text.specs.Segments.{version_names, version_of}
use Rattle.model_text.proofs.SegmentLemmas.{last_fields-push, version_names-push}
use Rattle.model_text.proofs.segments.versions_of.Goals as goal

pub returns-in-Err-clause-given : goal.returns-in-Err-clause-given
returns-in-Err-clause-given c =
    loop-fails VERSION.now (λ (done : List Version) (d : Data). version_of c.args.releases.now (c.args.names.now ++ version_names done) done d)
    c.args.values.now c.loop-place.place _ c.in-Err.error c.within.result
    c.loop-place.versions c.index-values-place.result c.index-values-place.is c.loop-place-test.true
    (rw (← c.loop-place.invariant.0.named, ← c.as_slice.ensures) c.in-Err.ensures.given) c.within.ensures c.loop-place.invariant.1

pub loop-place-preserved : goal.loop-place-preserved
loop-place-preserved c =
    let version = c.in-Ok.version in
    let pushed : c.push.new.self ≡ c.loop-place.versions ++ version ∷ [] = c.in_ok-push-in-Ok.ensures.ok in
    let so_far = c.loop-place.invariant.0 in
    let last = last_fields-push c.loop-place.versions version in
    rw pushed (
      record {
        named = c.in-Ok.ensures.named ∙ version_names-push c.args.names.now c.loop-place.names c.loop-place.versions version so_far.named;
        fields_named = c.in-Ok.ensures.fields ∙ ap field_names (sym last);
        narrow = rw last c.in-Ok.ensures.narrow;
      },
      loop-goes VERSION.now (λ (done : List Version) (d : Data). version_of c.args.releases.now (c.args.names.now ++ version_names done) done d)
          c.args.values.now c.loop-place.place _ c.loop-place.versions
          c.index-values-place.result version c.index-values-place.is c.loop-place-test.true (rw (← so_far.named, ← c.as_slice.ensures) c.in-Ok.ensures.given)
          c.loop-place.invariant.1,
    )

pub returns-clause-given : goal.returns-clause-given
returns-clause-given c =
    loop-ends VERSION.now (λ (done : List Version) (d : Data). version_of c.args.releases.now (c.args.names.now ++ version_names done) done d) c.args.values.now
    c.loop-place.place _ c.loop-place.versions c.loop-place-test.false c.loop-place.invariant.1
