use Rattle.std.specs.Arc.{arc_value}
use Rattle.std.specs.BTreeMap.{insert_entry}
use Rattle.std.specs.Cmp.Lexicographic.{slice_cmp}
use Rattle.std.specs.Ordering.{nat_cmp}
use Rattle.std.proofs.Common.{◌≡◌, sym, subst, ap, ◌∙◌}
use Rattle.said_models.specs.Said.{said}
use Rattle.said_models.specs.Readings.{AreReadings, IsAmong, Stay}
use Rattle.said_models.proofs.ReadingsLemmas.{by_text, entered-said, entered-among, entered-stay}
use Rattle.said_models.proofs.readings.Readings.enter.Goals as goal

pub invariant_of-self-2 : goal.invariant_of-self-2
invariant_of-self-2 c =
    subst (λ entries. AreReadings (by_text (λ key. key.items) arc_value entries)) (sym c.in_ok-insert.ensures.entries)
    (entered-said (λ key. key.items) arc_value c.in_ok-text.text c.args.model c.self.inside.models.entries
    (ap said c.in_ok-text.ensures.items ∙ c.requires) c.self.invariant)

pub returns-clause-entered : goal.returns-clause-entered
returns-clause-entered c =
    subst (λ entries. IsAmong (by_text (λ key. key.items) arc_value entries) c.args.text.now (arc_value c.args.model)) (sym c.in_ok-insert.ensures.entries)
    (subst (λ text. IsAmong (by_text (λ key. key.items) arc_value
    (insert_entry (λ a b. slice_cmp nat_cmp a.items b.items) c.self.inside.models.entries c.in_ok-text.text c.args.model)) text (arc_value c.args.model))
    c.in_ok-text.ensures.items
    (entered-among (λ key. key.items) arc_value c.in_ok-text.text c.args.model c.self.inside.models.entries))

pub returns-clause-stay : goal.returns-clause-stay
returns-clause-stay c =
    subst (λ before. Stay before (by_text (λ key. key.items) arc_value c.insert.new.self.entries)) c.self.view_is
    (subst (λ entries. Stay (by_text (λ key. key.items) arc_value c.self.inside.models.entries) (by_text (λ key. key.items) arc_value entries))
    (sym c.in_ok-insert.ensures.entries)
    (entered-stay (λ key. key.items) arc_value c.in_ok-text.text c.args.model c.self.inside.models.entries
    (ap said c.in_ok-text.ensures.items ∙ c.requires) c.self.invariant))
