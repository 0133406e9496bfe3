use Rattle.std.proofs.Common.{◌≡◌, ◌≤◌, ◌∙◌, length, sym, ap, subst}
use Rattle.ale_base.specs.Blanks.{trimmed, padded}
use Rattle.idoc_record.specs.Parts.{text_at}
use Rattle.idoc_record.specs.Data.{IsDataLine, segnam, sdata, is_no_segment}
use Rattle.idoc_record.proofs.DataLemmas.{IsDataLine-read, Ok-injective}
use Rattle.idoc_record.proofs.data.read_data.Goals as goal
use Rattle.idoc_record.proofs.data.read_data.Goals.{In_ok-sdata}

read : (c : In_ok-sdata) → IsDataLine c.args.bytes.now (record { segnam = c.segnam_of-segnam.result; sdata = c.in_ok-sdata.sdata })
read c =
    let text = c.trimmed-text.result.now in
    let is_text : text ≡ trimmed c.args.bytes.now = c.trimmed-text.ensures in
    IsDataLine-read c.args.bytes.now (record { segnam = c.segnam_of-segnam.result; sdata = c.in_ok-sdata.sdata })
    (subst (λ (t : _). length t ≤ 1063) is_text c.if-text-gt-LEN.false)
    (sym (ap is_no_segment c.trimmed.ensures.text) ∙ sym c.is_no_segment.ensures ∙ c.if-is_no_segment.false)
    (c.segnam_of-segnam.ensures ∙ ap (λ t. text_at segnam (padded 1063 t)) is_text)
    (c.in_ok-sdata.ensures ∙ c.sdata_of.ensures ∙ ap (λ t. text_at sdata (padded 1063 t)) is_text)

pub invariant_of-result : goal.invariant_of-result
invariant_of-result c = (read (goal.at.invariant_of-result c).In_ok-sdata).kept

pub returns-clause-found : goal.returns-clause-found
returns-clause-found c = λ data_record same.
    subst (IsDataLine c.args.bytes.now) (Ok-injective _ data_record same) (read (goal.at.returns-clause-found c).In_ok-sdata)
