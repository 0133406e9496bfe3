use Rattle.ale_base.proofs.OnOkLemmas.{on_ok}
use Rattle.document_state.proofs.ReplayLemmas.{replayed-next}
use Rattle.document_state.proofs.replay.take_up.Goals as goal

pub returns : goal.returns
returns c =
    on_ok c.note.result (c.note.ensures.noted c.args.log.now c.requires.replayed.tables c.in_ok-made.ensures)
    (replayed-next c.args.log.now c.args.next.now c.in_ok-made.made c.args.replay.now (record { tables = c.note.new.self; units = c.push_made.new.units })
    c.requires.replayed c.in_ok-made.ensures c.in_ok-push_made.ensures)
