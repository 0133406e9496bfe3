use Rattle.std.proofs.Common.{Ok, ap, ◌∙◌}
use Rattle.case_form.specs.Text.{both, part_read, parts_read, parts_left}
use Rattle.case_form.proofs.TextLemmas.{both_more, left_fewer}
use Rattle.case_form.proofs.text.put_text.Goals as goal

pub loop-left-preserved : goal.loop-left-preserved
loop-left-preserved c =
    let front = c.loop-left.bytes.items in
    let next = c.first_part-in-Some.result in
    c.loop-left.invariant ∙ ap (λ left. both (Ok front) (parts_read (parts_left 123 left))) c.in-Some.is
    ∙ ap (λ parts. both (Ok front) (parts_read parts)) c.first_part-in-Some.ensures.parts
    ∙ both_more front c.put_part.new.bytes.items (part_read next.0.now) (parts_read (parts_left 123 next.1)) c.in_ok-put_part.ensures.read

pub loop-left-smaller : goal.loop-left-smaller
loop-left-smaller c = rw c.in-Some.is (left_fewer c.first_part-in-Some.result.1 _ c.first_part-in-Some.ensures.fewer)
