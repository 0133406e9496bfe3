use Rattle.dist_model.specs.declared.outbound.Outbound.{Outbound}
use Rattle.dist_model.specs.Message.{message_entries}
use Rattle.model_text.specs.Whole.{whole}
use Rattle.model_text.specs.declared.keys.TheConstants.{OUTBOUND}
use Rattle.model_text.proofs.CheckedLemmas.{loop-ends, loop-fails, loop-goes}
use Rattle.model_text.proofs.whole.all_whole.Goals as goal

pub returns-in-Err : goal.returns-in-Err
returns-in-Err c =
    let test = λ (profile : Outbound). whole c.args.definitions.now (message_entries c.args.types.now c.args.messages.now profile.message) profile in
    loop-fails OUTBOUND.now test c.args.profiles.now c.loop-place.place _ c.in-Err.error c.within.result c.index-profiles-place.result c.index-profiles-place.is
    c.loop-place-test.true
    (rw c.message_entries-entries.ensures at c.in-Err.ensures) c.within.ensures c.loop-place.invariant

pub loop-place-preserved : goal.loop-place-preserved
loop-place-preserved c =
    let test = λ (profile : Outbound). whole c.args.definitions.now (message_entries c.args.types.now c.args.messages.now profile.message) profile in
    loop-goes OUTBOUND.now test c.args.profiles.now c.loop-place.place _ c.index-profiles-place.result c.index-profiles-place.is c.loop-place-test.true
    (rw c.message_entries-entries.ensures at c.in-Ok.ensures) c.loop-place.invariant

pub returns : goal.returns
returns c =
    let test = λ (profile : Outbound). whole c.args.definitions.now (message_entries c.args.types.now c.args.messages.now profile.message) profile in
    loop-ends OUTBOUND.now test c.args.profiles.now c.loop-place.place _ c.loop-place-test.false c.loop-place.invariant
