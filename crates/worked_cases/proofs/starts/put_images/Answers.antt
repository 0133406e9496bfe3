use Rattle.std.proofs.Common.{◌≡◌, ap, ◌∙◌, ◌++◌, length, subst, arith}
use Rattle.std.specs.List.{flat_map, range_with_len}
use Rattle.worked_cases.specs.Starts.{images_at}
use Rattle.worked_cases.proofs.HeldLemmas.{OnOk-map, flat_map-range_more}
use Rattle.worked_cases.proofs.starts.put_images.Goals as goal

pub loop-moment-preserved : goal.loop-moment-preserved
loop-moment-preserved c =
    let now = c.loop-moment in
    c.in_ok-put_choices.ensures ∙ ap (λ all. all ++ images_at c.args.vols.now now.moment) now.invariant
    ∙ flat_map-range_more (images_at c.args.vols.now) c.args.all.now.items now.moment

pub returns : goal.returns
returns c =
    let now = c.loop-moment in
    let vols = c.args.vols.now in
    let before = c.args.all.now.items in
    let end : now.moment ≡ length vols.steps = omega (arith, now.auto.moment-end, c.loop-moment-test.false, c.clock-last.ensures) in
    let all : now.all.items ≡ before ++ flat_map (images_at vols) (range_with_len 0 (length vols.steps)) =
    subst (λ n. now.all.items ≡ before ++ flat_map (images_at vols) (range_with_len 0 n)) end now.invariant in
    OnOk-map c.put_choices-2.result
    (λ added. added ∙ ap (λ moment. now.all.items ++ images_at vols moment) c.clock-last.ensures
    ∙ ap (λ all. all ++ images_at vols (length vols.steps)) all ∙ flat_map-range_more (images_at vols) before (length vols.steps))
    c.put_choices-2.ensures
