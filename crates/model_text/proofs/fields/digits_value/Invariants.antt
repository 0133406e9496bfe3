use Rattle.std.proofs.Common.{◌≡◌, drop}
use Rattle.model_text.specs.Fields.{digits_on}
use Rattle.model_text.proofs.fields.digits_value.Given as goal

abbrev pub invariant-loop-digit : goal.invariant-loop-digit
invariant-loop-digit l = digits_on l.number (drop l.digit-index l.digits) ≡ digits_on 0 l.digits
