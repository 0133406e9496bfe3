use Rattle.std.proofs.Common.{true, refl}
use Rattle.document_state.proofs.NotedLemmas.{brought-text, tables-brought}
use Rattle.document_state.proofs.document_tables.DocumentTables.bring.Goals as goal

pub returns : goal.returns
returns c log goes between =
    let text = (brought-text log c.args.next.now c.args.model goes).1 in
    tables-brought log c.args.next.now text.0 c.args.self.now
    (record {
      has_begun = true;
      model = c.behind-model.result;
      outbound = c.args.self.now.outbound;
      inbound = c.renumber.new.inbound;
    })
    text.1 between refl refl (c.behind-model.ensures text.0 text.2) c.in_ok-renumber.ensures
