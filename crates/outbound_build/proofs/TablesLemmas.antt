-- The tables behind one more record.
use Rattle.std.proofs.Common.{◌≡◌, ℕ, suc, List, ◌++◌, ap, sym, ◌∙◌}
use Rattle.std.proofs.lemmas.List.{map-append}
use Rattle.ale_base.specs.declared.doc_num.DocNum.{DocNum}
use Rattle.unit_core.specs.declared.records.Record.{Record}
use Rattle.outbound_build.specs.declared.added.Added.{Added}
use Rattle.outbound_build.specs.declared.added.OutDocument.{OutDocument}
use Rattle.outbound_build.specs.declared.added.OutUnit.{OutUnit}
use Rattle.outbound_build.specs.declared.outbox.Outbox.{Outbox}
use Rattle.outbound_build.specs.Added.{after}
use Rattle.status_log.specs.declared.status_at.StatusAt.{StatusAt}
use Rattle.status_log.specs.Statuses.{given_by}
use Rattle.outbound_build.specs.declared.outbound_tables.OutboundTables.{OutboundTables}
use Rattle.outbound_build.specs.Statuses.{Tracked, carried_in, gets, made_for, passed_in, tracked_with}
use Rattle.outbound_build.specs.Tables.{AreTablesOf}
use Rattle.outbound_build.specs.steps.Adding.{Gets}
use Rattle.outbound_build.proofs.GetsLemmas.{Gets-both}

-- a record was taken in: it is counted, the outbox and the documents are those after it, the units carry what they carry, and documents
-- got what they get by its number
pub taken-tables : (tracked : Tracked) (tables : OutboundTables) (next : Record) (added : Added) (records : ℕ) (outbox : Outbox)
    (between later : List (List StatusAt)) → AreTablesOf tracked tables → records ≡ suc tables.records → outbox ≡ after next added tables.outbox
    → Gets records (made_for added.documents) tables.statuses between → Gets records (passed_in tables.carried added next) between later
    → AreTablesOf (tracked_with tracked next added)
    (record {
      outbox = outbox;
      documents = tables.documents ++ added.documents;
      carried = tables.carried ++ carried_in added.units;
      records = records;
      statuses = later;
    })
taken-tables tracked tables next added records outbox between later are counted grown made passed =
    let both = Gets-both records (made_for added.documents) (passed_in tables.carried added next) tables.statuses between later made passed in
    let count : records ≡ suc tracked.records = counted ∙ ap suc are.records in
    record {
      outbox = grown ∙ ap (after next added) are.outbox;
      documents = ap (λ (ds : List OutDocument). ds ++ added.documents) are.documents;
      carried = ap (λ (cs : List (List DocNum)). cs ++ carried_in added.units) are.carried
          ∙ sym (map-append (λ (one : OutUnit). one.documents) tracked.past.units added.units);
      records = count;
      statuses = λ doc. both.got doc ∙ ap (λ (had : List StatusAt). had ++ given_by records (gets tables.carried added next doc)) (are.statuses doc)
          ∙ ap (λ (cs : List (List DocNum)). tracked.statuses doc ++ given_by records (gets cs added next doc)) are.carried
          ∙ ap (λ (n : ℕ). tracked.statuses doc ++ given_by n (gets (carried_in tracked.past.units) added next doc)) count;
    }
