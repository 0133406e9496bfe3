use Rattle.std.proofs.lemmas.Result.{err_from_is_err_and}
use Rattle.case_form.proofs.TextLemmas.{part-end, part-read}
use Rattle.case_form.proofs.text.put_part.Goals as goal

pub returns-in_err-put_braced-in-Some-clause-fault : goal.returns-in_err-put_braced-in-Some-clause-fault
returns-in_err-put_braced-in-Some-clause-fault c =
    let given = err_from_is_err_and c.from_residual.result c.from_residual.ensures.1 in
    rw (given.1, given.2)
    (part-end c.args.part.now c.in-Some.inner.now _ c.in-Some.ensures.0 c.in-Some.ensures.1 c.in_err-put_braced-in-Some.ensures.fault)

pub returns-in_ok-extend_from_slice-in-Some-clause-read : goal.returns-in_ok-extend_from_slice-in-Some-clause-read
returns-in_ok-extend_from_slice-in-Some-clause-read c =
    rw c.in_ok-extend_from_slice-in-Some.ensures.items
    (part-read c.args.bytes.now.items c.put_braced.new.bytes.items c.args.part.now c.in-Some.inner.now c.in-Some.plain.now c.in-Some.ensures.0
    c.in-Some.ensures.1 c.in-Some.ensures.2 c.in_ok-put_braced-in-Some.ensures.read)
