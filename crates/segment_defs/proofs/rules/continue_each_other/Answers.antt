use Rattle.std.proofs.Common.{AllPairs, sym, ◌∙◌, ◌≡◌, take, refl, subst}
use Rattle.std.proofs.lemmas.List.{take_all}
use Rattle.std.proofs.lemmas.Bool.{false≢true}
use Rattle.segment_defs.specs.SegmentType.{Continues}
use Rattle.segment_defs.proofs.RuleLemmas.{continued_more, continued_fails}
use Rattle.segment_defs.proofs.rules.continue_each_other.Goals as goal

pub returns-then-not-continues : goal.returns-then-not-continues
returns-then-not-continues c = (
  λ never. absurd (false≢true never),
  λ all. sym c.if-not-continues.true ∙ c.continues.ensures.1
      (continued_fails c.args.versions.now c.loop-place.place c.index-versions-place.result c.index-versions-place-in-loop-place.result c.loop-place.auto.place
      c.loop-place-test.true c.index-versions-place.is c.index-versions-place-in-loop-place.is all),
)

pub loop-place-preserved : goal.loop-place-preserved
loop-place-preserved c =
    continued_more c.args.versions.now c.loop-place.place c.index-versions-place.result c.index-versions-place-in-loop-place.result c.loop-place.auto.place
    c.loop-place-test.true c.index-versions-place.is c.index-versions-place-in-loop-place.is (c.continues.ensures.0 c.if-not-continues.false)
    c.loop-place.invariant

pub returns : goal.returns
returns c =
    let versions = c.args.versions.now in
    let whole : take c.loop-place.place versions ≡ versions = take_all _ versions c.loop-place-test.false in
    (λ always. subst (AllPairs Continues) whole c.loop-place.invariant, λ all. refl)
