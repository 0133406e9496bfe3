use Rattle.std.proofs.Common.{subst}
use Rattle.object_store.specs.Texts.{IsAscending}
use Rattle.object_store.proofs.OrderLemmas.{by_text-ascending}
use Rattle.object_store.proofs.text_map.TextMap.iter.Goals as goal

pub returns-clause-ascending : goal.returns-clause-ascending
returns-clause-ascending g c =
    subst IsAscending c.self.view_is (by_text-ascending (λ key. key.items) c.self.inside.tree.entries c.iter.ensures.ordered)
