use Rattle.std.proofs.Common.{refl, ◌∙◌}
use Rattle.case_form.proofs.ItemLemmas.{last-grown}
use Rattle.case_form.proofs.item.add_block_line.Goals as goal

pub returns-in_ok-push-2 : goal.returns-in_ok-push-2
returns-in_ok-push-2 c =
    last-grown c.args.items.now.items c.pop.new.self.items c.push-in-Some.new.self.items c.in-Some.item _ _ _ c.in-Some.ensures.items
    c.in_ok-push-2.ensures.items refl refl refl refl c.in_ok-push.ensures.items (c.in_ok-text.ensures.items ∙ c.indented.ensures)
