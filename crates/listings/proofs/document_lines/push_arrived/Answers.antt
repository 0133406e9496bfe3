use Rattle.std.proofs.Common.{◌+◌, ◌++◌, arith}
use Rattle.listings.specs.DocumentLines.{arrived_line, numbered}
use Rattle.listings.proofs.LineLemmas.{numbered-step}
use Rattle.listings.proofs.document_lines.push_arrived.Goals as goal

pub loop-place-preserved : goal.loop-place-preserved
loop-place-preserved c application are =
    let place = c.loop-place.place in
    numbered-step arrived_line place (place + 1) application.documents c.loop-place.lines c.push_arrived_at.new.lines
    (c.args.lines.now ++ numbered arrived_line 1 application.documents) (omega arith)
    (c.loop-place.invariant application are) (c.in_ok-push_arrived_at.ensures application are)
