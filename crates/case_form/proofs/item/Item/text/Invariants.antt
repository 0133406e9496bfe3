use Rattle.std.proofs.Common.{◌≡◌, Ok, drop}
use Rattle.case_form.specs.Text.{both}
use Rattle.case_form.specs.Items.{block_read}
use Rattle.case_form.proofs.item.Item.text.Given as goal

abbrev pub invariant-loop-line : goal.invariant-loop-line
invariant-loop-line l = both (Ok l.text.items) (block_read (drop l.line-index l.self.block.items)) ≡ block_read l.self.block.items
