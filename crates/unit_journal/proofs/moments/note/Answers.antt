use Rattle.std.proofs.lemmas.Result.{on_err_weaker}
use Rattle.unit_journal.proofs.PlaceLemmas.{set-got}
use Rattle.unit_journal.proofs.moments.note.Goals as goal

pub returns-clause-err : goal.returns-clause-err
returns-clause-err c = on_err_weaker c.push.result (set-got c.args.moments.now c.args.place c.at_mut.result.now c.push.new.self c.at_mut.ensures.value)
    c.push.ensures.err
