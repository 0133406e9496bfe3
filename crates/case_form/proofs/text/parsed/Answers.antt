use Rattle.std.proofs.Common.{◌<◌, ◌^◌, Ok, Err, length, refl, sym, ap, ◌∙◌}
use Rattle.std.proofs.lemmas.Result.{OkIff-at_ok}
use Rattle.std.proofs.lemmas.Str.Parse.{parse_digits}
use Rattle.ale_base.specs.Decimal.{decimal_value}
use Rattle.case_form.proofs.TextLemmas.{digits_own, number_read-fits, number_read-wide}
use Rattle.case_form.proofs.text.parsed.Goals as goal

pub returns-in-Ok-clause-number : goal.returns-in-Ok-clause-number
returns-in-Ok-clause-number c =
    let digits = c.args.digits.now in
    let parses = parse_digits digits_own 32 digits c.parse.result c.parse.ensures.value.0 c.requires in
    let read = OkIff-at_ok c.parse.result ((0 < length digits) × (decimal_value digits < 2 ^ 32)) (decimal_value digits) c.in-Ok.number parses c.in-Ok.is in
    number_read-fits digits c.requires read.0.0 read.0.1 ∙ ap Ok (sym read.1)

pub returns-in-Err-clause-fault : goal.returns-in-Err-clause-fault
returns-in-Err-clause-fault c =
    let digits = c.args.digits.now in
    let wide = number_read-wide digits (parse_digits digits_own 32 digits (Err c.in-Err.field-0) c.in-Err.ensures.value.0 c.requires) in
    rw (wide, c.bad_number.ensures) refl
