use Rattle.std.proofs.Common.{refl}
use Rattle.ale_base.proofs.OnOkLemmas.{on_ok}
use Rattle.document_state.specs.OfLog.{sent_by}
use Rattle.document_state.proofs.NotedLemmas.{between-noted}
use Rattle.document_state.proofs.document_tables.DocumentTables.note_under.Goals as goal

pub returns : goal.returns
returns c log are goes =
    on_ok c.take.result (c.take.ensures (sent_by log) are.sent)
    (between-noted log c.args.next.now c.args.made c.args.self.now
    (record {
      has_begun = c.args.self.now.has_begun;
      model = c.args.self.now.model;
      outbound = c.take.new.self;
      inbound = c.apply.new.inbound;
    })
    c.count_record.new.self c.in_ok-added.added are goes refl refl c.in_ok-added.ensures.added c.in_ok-count_record.ensures
    c.in_ok-added.ensures.applied)
