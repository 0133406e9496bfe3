use Rattle.std.proofs.Common.{◌≡◌, false, suc, map, length}
use Rattle.std.specs.Option.{option_map_or}
use Rattle.case_form.specs.declared.line.Place.TheVariants.{Start}
use Rattle.case_form.specs.Text.{parts, parts_left}
use Rattle.case_form.specs.Items.{places_read, items_in, joined, seen}
use Rattle.case_form.proofs.item.read_lines.Given as goal

abbrev pub invariant-loop-left : goal.invariant-loop-left
invariant-loop-left l = record {
  places : places_read Start 0 (parts 10 l.text) ≡ places_read l.place l.number (parts_left 10 l.left);
  items : items_in false 0 (parts 10 l.text) ≡ joined l.place (map seen l.items.items) l.number (parts_left 10 l.left);
}

abbrev pub decreases-loop-left : goal.decreases-loop-left
decreases-loop-left l = option_map_or (λ left. suc (length left.now)) l.left 0
