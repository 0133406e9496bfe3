use Rattle.std.proofs.Common.{◌∙◌, Some, sym, ap}
use Rattle.toml.specs.View.{table_view}
use Rattle.toml.specs.Parse.{parse_document}
use Rattle.dist_model.specs.Model.{IsModel}
use Rattle.model_text.specs.Says.{SaysText}
use Rattle.model_text.specs.Text.{answer}
use Rattle.model_text.proofs.ModelRules.{model_of-keeps}
use Rattle.model_text.proofs.ReadingLemmas.{answer_to-no_text, answer_to-text, IfOk-indexed, Reads-fails, Reads-indexed}
use Rattle.model_text.proofs.SaysLemmas.{model_of-says}
use Rattle.model_text.proofs.reading.read.Goals as goal

pub returns-in_default-clause-said : goal.returns-in_default-clause-said
returns-in_default-clause-said c = answer_to-no_text c.args.bytes.now c.in_default.ensures.cases.0

pub indexed-requires : goal.indexed-requires
indexed-requires c = model_of-keeps (table_view c.in-Ok-table_from_str.table) c.in-Ok-model_of.lists c.in-Ok-model_of.ensures

pub returns-in-Ok-model_of-clause-said : goal.returns-in-Ok-model_of-clause-said
returns-in-Ok-model_of-clause-said c =
    let text = c.in-Ok.ensures.cases in
    Reads-indexed c.args.bytes.now c.in-Ok-model_of.lists c.indexed.result c.indexed.ensures (
    answer_to-text c.args.bytes.now (Some (table_view c.in-Ok-table_from_str.table)) text.1 (ap parse_document (sym text.0) ∙ c.in-Ok-table_from_str.ensures.ok)
    ∙ ap answer c.in-Ok-model_of.ensures
    )

pub returns-clause-said : goal.returns-clause-said
returns-clause-said c =
    let text = c.in-Ok.ensures.cases in
    rw c.fault_of.ensures (Reads-fails c.args.bytes.now (table_view c.in-Ok-table_from_str.table) c.in-Err-model_of.error
    (answer_to-text c.args.bytes.now (Some (table_view c.in-Ok-table_from_str.table)) text.1
    (ap parse_document (sym text.0) ∙ c.in-Ok-table_from_str.ensures.ok))
    c.in-Err-model_of.ensures)

pub returns-in-Ok-model_of-clause-kept : goal.returns-in-Ok-model_of-clause-kept
returns-in-Ok-model_of-clause-kept c =
    IfOk-indexed IsModel c.in-Ok-model_of.lists c.indexed.result c.indexed.ensures
    (model_of-keeps (table_view c.in-Ok-table_from_str.table) c.in-Ok-model_of.lists c.in-Ok-model_of.ensures)

pub returns-in-Ok-model_of-clause-entries : goal.returns-in-Ok-model_of-clause-entries
returns-in-Ok-model_of-clause-entries c =
    let text = c.in-Ok.ensures.cases in
    let table = table_view c.in-Ok-table_from_str.table in
    IfOk-indexed (SaysText c.args.bytes.now) c.in-Ok-model_of.lists c.indexed.result c.indexed.ensures
    (table, ap parse_document (sym text.0) ∙ c.in-Ok-table_from_str.ensures.ok, model_of-says table c.in-Ok-model_of.lists c.in-Ok-model_of.ensures)
