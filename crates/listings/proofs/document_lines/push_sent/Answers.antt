use Rattle.std.proofs.Common.{◌+◌, ◌++◌, arith}
use Rattle.listings.specs.DocumentLines.{numbered, sent_line}
use Rattle.listings.proofs.LineLemmas.{numbered-step}
use Rattle.listings.proofs.document_lines.push_sent.Goals as goal

pub loop-place-preserved : goal.loop-place-preserved
loop-place-preserved c tracked are =
    let place = c.loop-place.place in
    numbered-step (sent_line tracked.statuses) place (place + 1) tracked.past.documents c.loop-place.lines c.push_sent_at.new.lines
    (c.args.lines.now ++ numbered (sent_line tracked.statuses) 1 tracked.past.documents) (omega arith)
    (c.loop-place.invariant tracked are) (c.in_ok-push_sent_at.ensures tracked are)
