use Rattle.std.proofs.Common.{◌≡◌, ◌++◌, ◌∷◌, [], suc, ap, ◌∙◌}
use Rattle.ale_base.proofs.OnOkLemmas.{on_ok}
use Rattle.unit_core.specs.declared.raw_unit_doc.RawUnitDoc.{RawUnitDoc}
use Rattle.inbound_post.specs.declared.application_tables.ApplicationTables.{ApplicationTables}
use Rattle.inbound_post.specs.Application.{arrived}
use Rattle.inbound_post.specs.Tables.{AreTablesOf}
use Rattle.inbound_post.proofs.TablesLemmas.{arrived-tables}
use Rattle.inbound_post.proofs.application_tables.ApplicationTables.arrive.Goals as goal

pub returns : goal.returns
returns c application are =
    let tables = c.args.self.now in
    let sender = c.args.sender in
    let doc = c.args.doc.now in
    let number = c.in_ok-number.number.0 in
    let next = c.in_ok-number.ensures ∙ ap suc c.len.ensures in
    let is = arrived-tables sender doc c.args.becomes.now application tables number c.receive.new.statuses c.receive.new.objects are next
    c.in_ok-receive.ensures.statuses c.in_ok-receive.ensures.objects in
    on_ok c.push.result c.push.ensures.ok (λ pushed.
    let with : c.push.new.self ≡ tables.documents ++ record { sender = sender; document = doc } ∷ [] =
    pushed ∙ ap (λ (d : RawUnitDoc). tables.documents ++ record { sender = sender; document = d } ∷ []) c.in_ok-clone.ensures.cases in
    let after : ApplicationTables = record {
      documents = c.push.new.self;
      statuses = c.receive.new.statuses;
      objects = c.receive.new.objects;
      pointers = tables.pointers;
      records = tables.records;
    } in
    let made : AreTablesOf (arrived sender doc c.args.becomes.now application) after = record
    { documents = with ∙ is.documents; statuses = is.statuses; objects = is.objects; pointers = is.pointers; records = is.records } in
    made)
