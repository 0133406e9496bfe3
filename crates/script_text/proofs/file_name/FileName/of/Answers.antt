use Rattle.std.proofs.Common.{◌∙◌, Some, ap, sym}
use Rattle.script_text.proofs.Utf8Lemmas.{file_name-none, file_name-some}
use Rattle.script_text.proofs.file_name.FileName.of.Goals as goal

pub returns-in_ok-from_str-in-Ok : goal.returns-in_ok-from_str-in-Ok
returns-in_ok-from_str-in-Ok c =
    let is = c.in-Ok.ensures.cases in
    ap Some (c.in_ok-from_str-in-Ok.ensures.ok ∙ is.0) ∙ sym (file_name-some c.args.bytes.now is.1)

pub returns-in-Err : goal.returns-in-Err
returns-in-Err c = sym (file_name-none c.args.bytes.now c.in-Err.ensures.cases.0)
