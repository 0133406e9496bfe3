use Rattle.std.proofs.Common.{subst}
use Rattle.ale_base.proofs.OnOkLemmas.{on_ok}
use Rattle.document_state.specs.Made.{GoesWith}
use Rattle.document_state.proofs.NotedLemmas.{brought-text, goes-silent, tables-silent}
use Rattle.document_state.proofs.noting.DocumentTablesApplication.note.Goals as goal

pub returns-in_ok-note_under-in-Brought : goal.returns-in_ok-note_under-in-Brought
returns-in_ok-note_under-in-Brought c = record {
  noted = λ log are goes.
      let brings = subst (GoesWith log c.args.next.now) c.in-Brought.is goes in
      c.bring.ensures log brings (c.in_ok-note_under-in-Brought.ensures log are (brought-text log c.args.next.now c.in-Brought.model brings).0);
}

pub returns-in_default : goal.returns-in_default
returns-in_default c = record {
  noted = λ log are goes.
      let silent = goes-silent log c.args.next.now c.args.made c.in_default.not-Brought goes in
      on_ok c.note_under-in_default.result (c.note_under-in_default.ensures log are silent.0)
      (tables-silent log c.args.next.now c.note_under-in_default.new.self silent.1);
}
