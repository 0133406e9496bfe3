use Rattle.std.proofs.Common.{◌≡◌, ◌++◌, ◌∷◌, [], List, ◌∙◌, arith}
use Rattle.std.proofs.lemmas.List.{length-append}
use Rattle.toml.specs.Data.{Data}
use Rattle.toml.specs.View.{view}
use Rattle.segment_defs.specs.declared.idoc_type.TypePlace.{TypePlace}
use Rattle.model_keys.proofs.EachLemmas.{loop-goes, loop-fails, loop-ends}
use Rattle.model_text.specs.declared.keys.TheConstants.{SEGMENT}
use Rattle.model_text.specs.Entries.{type_place_of}
use Rattle.model_text.proofs.EntryLemmas.{entry_types-push, type_place_of-preorder}
use Rattle.model_text.proofs.entries.entries_of.Goals as goal

pub type_place_of-requires-clause-few : goal.type_place_of-requires-clause-few
type_place_of-requires-clause-few c = rw c.as_slice.ensures (omega (arith, c.loop-place.invariant.0.counted, c.requires.few))

pub type_place_of-requires-clause-preorder : goal.type_place_of-requires-clause-preorder
type_place_of-requires-clause-preorder c = rw c.as_slice.ensures c.loop-place.invariant.0.preorder

pub type_place_of-requires-clause-segments : goal.type_place_of-requires-clause-segments
type_place_of-requires-clause-segments c = rw c.as_slice.ensures c.loop-place.invariant.0.listed

pub returns-in-Err : goal.returns-in-Err
returns-in-Err c =
    loop-fails SEGMENT.now (λ (done : List TypePlace) (d : Data). type_place_of c.args.types.now done d) c.args.values.now c.loop-place.place _ c.in-Err.error
    c.within.result
    c.loop-place.entries c.index-values-place.result c.index-values-place.is c.loop-place-test.true (rw c.as_slice.ensures at c.in-Err.ensures.given)
    c.within.ensures c.loop-place.invariant.1

pub loop-place-preserved : goal.loop-place-preserved
loop-place-preserved c =
    let entry = c.in-Ok.entry in
    let pushed : c.push.new.self ≡ c.loop-place.entries ++ entry ∷ [] = c.in_ok-push-in-Ok.ensures.ok in
    let so_far = c.loop-place.invariant.0 in
    let is = rw c.as_slice.ensures at c.in-Ok.ensures.given in
    rw pushed (
      record {
        listed = c.in-Ok.ensures.listed ∙ entry_types-push c.loop-place.segments c.loop-place.entries entry so_far.listed;
        counted = omega (arith, length-append c.loop-place.entries (entry ∷ []), so_far.counted);
        preorder = type_place_of-preorder c.args.types.now c.loop-place.entries (view c.index-values-place.result) entry so_far.preorder is;
      },
      loop-goes SEGMENT.now (λ (done : List TypePlace) (d : Data). type_place_of c.args.types.now done d) c.args.values.now c.loop-place.place _
          c.loop-place.entries
          c.index-values-place.result entry c.index-values-place.is c.loop-place-test.true is c.loop-place.invariant.1,
    )

pub returns : goal.returns
returns c =
    loop-ends SEGMENT.now (λ (done : List TypePlace) (d : Data). type_place_of c.args.types.now done d) c.args.values.now c.loop-place.place _
    c.loop-place.entries c.loop-place-test.false c.loop-place.invariant.1
