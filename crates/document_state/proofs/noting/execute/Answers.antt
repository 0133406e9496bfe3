use Rattle.std.specs.Arc.{arc_value}
use Rattle.std.specs.Option.{option_map}
use Rattle.std.proofs.Common.{ap}
use Rattle.ale_base.proofs.OnOkLemmas.{on_ok}
use Rattle.document_state.proofs.NotedLemmas.{execute-applied}
use Rattle.document_state.proofs.noting.execute.Goals as goal

pub returns-in-Some : goal.returns-in-Some
returns-in-Some c application system tid are named made =
    on_ok c.execute.result (c.execute.ensures application are)
    (execute-applied (option_map arc_value c.args.model.now) (arc_value c.in-Some.field-0) system tid c.args.unit.now c.as_slice.result.now c.args.postings.now
    application c.execute.new.self (ap (option_map arc_value) c.in-Some.is) named c.as_slice.ensures made)
