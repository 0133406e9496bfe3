use Rattle.std.proofs.Common.{◌≡◌, Some, length, ap, sym, ◌∙◌, arith}
use Rattle.std.specs.Prelude.{not, true}
use Rattle.std.proofs.lemmas.Bool.{false≢true}
use Rattle.std.specs.Cmp.Lexicographic.{bytes_decides}
use Rattle.ale_base.specs.Tid.{spelling}
use Rattle.ale_base.proofs.TidLemmas.{number_of-system, number_of-unit, length-spelling, Some-injective}
use Rattle.ale_base.proofs.tid.Tid.spelled_by.Goals as goal

pub returns-then-bytes-ne-LEN-clause-spelled : goal.returns-then-bytes-ne-LEN-clause-spelled
returns-then-bytes-ne-LEN-clause-spelled c = λ tid is same.
    let long : length c.args.bytes.now ≡ 24 = ap length same ∙ length-spelling tid in absurd (omega arith)

pub returns-in_err-tid-clause-spelled : goal.returns-in_err-tid-clause-spelled
returns-in_err-tid-clause-spelled c = λ tid is same.
    let system = number_of-system c.args.bytes.now tid is same in
    let unit = number_of-unit c.args.bytes.now tid is same in
    let found : c.with_numbers.result ≡ Some tid = c.with_numbers.ensures.exact tid is (cc) (cc) in
    cc

pub returns-then-ne-clause-spelled : goal.returns-then-ne-clause-spelled
returns-then-ne-clause-spelled c = λ tid is same.
    let system = number_of-system c.args.bytes.now tid is same in
    let unit = number_of-unit c.args.bytes.now tid is same in
    let found : c.with_numbers.result ≡ Some tid = c.with_numbers.ensures.exact tid is (cc) (cc) in
    let its_own : c.in_ok-tid.tid ≡ tid = Some-injective c.in_ok-tid.tid tid (sym c.in_ok-tid.was ∙ found) in
    let respelled : spelling c.in_ok-tid.tid ≡ c.args.bytes.now = ap spelling its_own ∙ sym same in
    let alike : c.as_slice.result.now ≡ c.args.bytes.now = c.as_slice.ensures ∙ c.bytes.ensures ∙ respelled in
    let equal = (bytes_decides c.as_slice.result.now c.args.bytes.now).1 alike in
    let differ : not true ≡ true = rw equal at (sym c.ne.ensures ∙ c.if-ne.true) in
    absurd (false≢true differ)

pub returns-clause-spelled : goal.returns-clause-spelled
returns-clause-spelled c = λ tid is same.
    let system = number_of-system c.args.bytes.now tid is same in
    let unit = number_of-unit c.args.bytes.now tid is same in
    let found : c.with_numbers.result ≡ Some tid = c.with_numbers.ensures.exact tid is (cc) (cc) in
    cc
