use Rattle.std.proofs.Common.{◌++◌, sym, ap, ◌∙◌, append_assoc}
use Rattle.std.specs.List.{repeat}
use Rattle.case_form.proofs.TextLemmas.{repeat_more}
use Rattle.case_form.proofs.text.put_times.Goals as goal

pub loop-time-preserved : goal.loop-time-preserved
loop-time-preserved c =
    let old = c.args.bytes.now.items in
    let part = c.args.part.now in
    let time = c.loop-time._time in
    c.in_ok-extend_from_slice.ensures.items ∙ ap (λ bytes. bytes ++ part) c.loop-time.invariant ∙ append_assoc old (repeat time part) part
    ∙ ap (λ more. old ++ more) (sym (repeat_more time part))
