use Rattle.std.proofs.Common.{◌≡◌, Ok, suc, length}
use Rattle.std.specs.Option.{option_map_or}
use Rattle.case_form.specs.Text.{both, text_read, parts_read, parts_left}
use Rattle.case_form.proofs.text.put_text.Given as goal

abbrev pub invariant-loop-left : goal.invariant-loop-left
invariant-loop-left l = both (Ok l.fn.bytes.items) (text_read l.text) ≡ both (Ok l.bytes.items) (parts_read (parts_left 123 l.left))

abbrev pub decreases-loop-left : goal.decreases-loop-left
decreases-loop-left l = option_map_or (λ left. suc (length left.now)) l.left 0
