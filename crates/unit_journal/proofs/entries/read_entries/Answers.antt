use Rattle.std.proofs.Common.{sym, ◌∙◌}
use Rattle.unit_journal.proofs.ReadLemmas.{read-more, read-unread}
use Rattle.unit_journal.proofs.entries.read_entries.Goals as goal

pub loop-body-preserved : goal.loop-body-preserved
loop-body-preserved c =
    let found = c.in-Ok.ensures.found in
    rw c.in_ok-push-in-Ok.ensures.ok
    (read-more c.args.bodies.now c.loop-body.body-index c.loop-body.entries c.body-item.result c.in-Ok.entry c.loop-body-test.true c.body-item.is
    c.loop-body.invariant found.0 (sym c.as_slice.ensures ∙ found.1))

pub returns-in-Err-Bad : goal.returns-in-Err-Bad
returns-in-Err-Bad c =
    rw c.len.ensures
    (read-unread c.args.bodies.now c.loop-body.body-index c.loop-body.entries c.body-item.result c.loop-body-test.true c.body-item.is c.loop-body.invariant
    (λ entry is same.
    let bad = c.in-Err-Bad.field-0-is in
    let read = c.in-Err-Bad.ensures.only entry is (c.as_slice.ensures ∙ same) (λ memory. cc) in
    absurd cc))
