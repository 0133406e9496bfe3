use Rattle.std.proofs.Common.{false, None, refl}
use Rattle.document_state.proofs.NotedLemmas.{tables-nothing}
use Rattle.document_state.proofs.document_tables.DocumentTables.new.Goals as goal

pub returns : goal.returns
returns c =
    tables-nothing (record { has_begun = false; model = None; outbound = c.new.result; inbound = c.new-2.result }) refl refl
    c.new.ensures c.new-2.ensures
