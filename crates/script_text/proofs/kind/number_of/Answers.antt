use Rattle.std.proofs.Common.{arith}
use Rattle.script_text.proofs.NumberLemmas.{one_digit_more}
use Rattle.script_text.proofs.kind.number_of.Goals as goal

pub overflow_mul-number : goal.overflow_mul-number
overflow_mul-number c =
    omega (arith, one_digit_more c.loop-digit.digit-index c.loop-digit.number (omega arith) c.loop-digit.invariant.0)

pub overflow_add-number : goal.overflow_add-number
overflow_add-number c =
    let room = one_digit_more c.loop-digit.digit-index c.loop-digit.number (omega arith) c.loop-digit.invariant.0 in
    omega (arith, room, c.from.ensures, c.type_inv.word c.loop-digit.digit-index)
