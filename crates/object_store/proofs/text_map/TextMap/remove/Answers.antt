use Rattle.std.proofs.Common.{ap, ◌∙◌}
use Rattle.object_store.specs.Texts.{without_entry}
use Rattle.object_store.proofs.EntryLemmas.{by_text, remove-by_text}
use Rattle.object_store.proofs.text_map.TextMap.remove.Goals as goal

pub returns : goal.returns
returns g c =
    ap (by_text (λ key. key.items)) c.remove-removed.ensures.entries
    ∙ remove-by_text (λ key. key.items) c.args.text.now c.self.inside.tree.entries
    ∙ ap (without_entry c.args.text.now) c.self.view_is
