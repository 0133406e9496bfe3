use Rattle.std.proofs.Common.{sym, ◌∙◌, subst}
use Rattle.dist_model.specs.Way.{outbound_ways}
use Rattle.model_keys.specs.Finding.{Fails}
use Rattle.model_text.specs.Profiled.{profiled}
use Rattle.model_text.specs.declared.keys.TheConstants.{ROW}
use Rattle.model_text.proofs.CheckedLemmas.{loop-ends, loop-fails, loop-goes}
use Rattle.model_text.proofs.ProfiledLemmas.{profiled-same}
use Rattle.model_text.proofs.profiled.all_profiled.Goals as goal

pub returns-in-Err : goal.returns-in-Err
returns-in-Err c =
    let ways = outbound_ways c.args.profiles.now in
    let row = c.index-rows-place.result in
    loop-fails ROW.now (profiled ways) c.args.rows.now c.loop-place.place _ c.in-Err.error c.within.result row c.index-rows-place.is c.loop-place-test.true
    (subst (Fails c.in-Err.error) (profiled-same c.in_ok-ways.ways ways c.in_ok-ways.ensures row) c.in-Err.ensures) c.within.ensures c.loop-place.invariant

pub loop-place-preserved : goal.loop-place-preserved
loop-place-preserved c =
    let ways = outbound_ways c.args.profiles.now in
    let row = c.index-rows-place.result in
    loop-goes ROW.now (profiled ways) c.args.rows.now c.loop-place.place _ row c.index-rows-place.is c.loop-place-test.true
    (sym (profiled-same c.in_ok-ways.ways ways c.in_ok-ways.ensures row) ∙ c.in-Ok.ensures) c.loop-place.invariant

pub returns : goal.returns
returns c = loop-ends ROW.now (profiled (outbound_ways c.args.profiles.now)) c.args.rows.now c.loop-place.place _ c.loop-place-test.false c.loop-place.invariant
