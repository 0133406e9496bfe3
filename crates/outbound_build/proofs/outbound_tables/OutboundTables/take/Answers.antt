use Rattle.std.proofs.Common.{List, sym, subst, ◌∙◌}
use Rattle.ale_base.proofs.OnOkLemmas.{on_ok}
use Rattle.ale_base.specs.declared.doc_num.DocNum.{DocNum}
use Rattle.outbound_build.specs.declared.added.OutDocument.{OutDocument}
use Rattle.outbound_build.specs.declared.outbound_tables.OutboundTables.{OutboundTables}
use Rattle.outbound_build.specs.Statuses.{made_for, passed_in, tracked_with}
use Rattle.outbound_build.specs.Tables.{AreTablesOf}
use Rattle.outbound_build.specs.steps.Adding.{Gets}
use Rattle.outbound_build.proofs.TablesLemmas.{taken-tables}
use Rattle.outbound_build.proofs.outbound_tables.OutboundTables.take.Goals as goal

pub returns : goal.returns
returns c tracked are =
    let tables = c.args.self.now in
    let added = c.args.added in
    let next = c.args.next.now in
    let records = c.in_ok-number.number in
    let between = c.add_made.new.statuses in
    let later = c.pass.new.statuses in
    let made = subst (λ (ds : List OutDocument). Gets records (made_for ds) tables.statuses between) c.as_slice.ensures c.in_ok-add_made.ensures in
    let passed = subst (λ (cs : List (List DocNum)). Gets records (passed_in cs added next) between later) c.as_slice-2.ensures
    (c.in_ok-pass.ensures added (sym c.as_slice-3.ensures)) in
    let is = taken-tables tracked tables next added records c.take.new.self between later are c.in_ok-number.ensures.ok c.in_ok-take.ensures.taken
    made passed in
    on_ok c.append.result c.append.ensures.ok (λ appended.
    let after : OutboundTables = record {
      outbox = c.take.new.self;
      documents = c.append.new.self;
      carried = c.push_carried.new.carried;
      records = records;
      statuses = later;
    } in
    let told : AreTablesOf (tracked_with tracked next added) after = record {
      outbox = is.outbox;
      documents = appended ∙ is.documents;
      carried = c.in_ok-push_carried.ensures ∙ is.carried;
      records = is.records;
      statuses = is.statuses;
    } in
    told)
