use Rattle.std.proofs.Common.{ap, ◌∙◌}
use Rattle.object_store.specs.Texts.{entry_at}
use Rattle.object_store.proofs.EntryLemmas.{lookup-by_text}
use Rattle.object_store.proofs.text_map.TextMap.get.Goals as goal

pub returns : goal.returns
returns g c =
    c.get.ensures.value
    ∙ lookup-by_text (λ key. key.items) c.args.text.now c.self.inside.tree.entries
    ∙ ap (entry_at c.args.text.now) c.self.view_is
