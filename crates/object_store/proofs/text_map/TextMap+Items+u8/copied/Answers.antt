use Rattle.std.proofs.Common.{◌∙◌}
use Rattle.std.proofs.lemmas.List.Elements.{same_from_all_zip}
use Rattle.object_store.proofs.EntryLemmas.{copied-by_text}
use Rattle.object_store.proofs.text_map.TextMap+Items+u8.copied.Goals as goal

pub returns : goal.returns
returns c =
    copied-by_text (λ key. key.items) _ _
    (λ a b is. same_from_all_zip _ a.items b.items is.0 (λ x y same. same))
    (λ a b is. same_from_all_zip _ a b is (λ x y same. same))
    c.self.inside.tree.entries c.in_ok-clone.field-0.entries c.in_ok-clone.ensures.cases
    ∙ c.self.view_is
