use Rattle.std.proofs.Common.{◌≡◌, ◌∷◌, [], map, sym, ap, ◌∙◌}
use Rattle.case_form.specs.Text.{parts, parts_left}
use Rattle.case_form.specs.Items.{next, places_read, joined, seen}
use Rattle.case_form.proofs.ItemLemmas.{places-step, items-step, end-items}
use Rattle.case_form.proofs.item.read_lines.Goals as goal

pub loop-left-preserved : goal.loop-left-preserved
loop-left-preserved c =
    let place = c.loop-left.place in
    let after = c.in_ok-place.place in
    let items = map seen c.loop-left.items.items in
    let n = c.loop-left.number in
    let number = c.saturating_add-number.result in
    let line = c.first_part.result.0.now in
    let lines = parts_left 10 c.first_part.result.1 in
    let one_more : parts_left 10 c.loop-left.left ≡ line ∷ lines = ap (parts_left 10) c.in-Some.is ∙ c.first_part.ensures.parts in
    let is : number ≡ next n = c.saturating_add-number.ensures in
    record {
      places = c.loop-left.invariant.places ∙ ap (places_read place n) one_more
          ∙ places-step place after n number line lines is c.in_ok-place.ensures.place;
      items = c.loop-left.invariant.items ∙ ap (joined place items n) one_more
          ∙ items-step place after items n number line lines is c.in_ok-place.ensures.place
          ∙ ap (λ grown. joined after grown number lines) (sym c.in_ok-place.ensures.items);
    }

pub returns-in-Ok-clause-items : goal.returns-in-Ok-clause-items
returns-in-Ok-clause-items c =
    let place = c.loop-left.place in
    let items = map seen c.loop-left.items.items in
    let n = c.loop-left.number in
    let none : parts_left 10 c.loop-left.left ≡ [] = ap (parts_left 10) c.in_default.is in
    end-items place n (parts 10 c.args.text.now) items (c.loop-left.invariant.places ∙ ap (places_read place n) none)
    (c.loop-left.invariant.items ∙ ap (joined place items n) none) c.in-Ok.ensures.place
