use Rattle.std.proofs.Common.{ap, ◌∙◌}
use Rattle.object_store.specs.Texts.{with_entry}
use Rattle.object_store.proofs.EntryLemmas.{by_text, insert-by_text}
use Rattle.object_store.proofs.text_map.TextMap.insert.Goals as goal

pub returns-clause-ok : goal.returns-clause-ok
returns-clause-ok g c =
    ap (by_text (λ key. key.items)) c.in_ok-insert.ensures.entries
    ∙ insert-by_text (λ key. key.items) c.in_ok-text.text c.args.value c.self.inside.tree.entries
    ∙ ap (λ text. with_entry text c.args.value (by_text (λ key. key.items) c.self.inside.tree.entries)) c.in_ok-text.ensures.items
    ∙ ap (with_entry c.args.text.now c.args.value) c.self.view_is
