use Rattle.std.proofs.Common.{sym}
use Rattle.case_form.proofs.TextLemmas.{digits-IsUtf8}
use Rattle.case_form.proofs.text.number_of.Goals as goal

pub returns-in-Err-clause-fault : goal.returns-in-Err-clause-fault
returns-in-Err-clause-fault c = absurd (c.in-Err.ensures.cases.0 (digits-IsUtf8 c.args.digits.now (sym c.if-not-are_digits.ensures)))
