use Rattle.std.specs.Arc.{arc_value}
use Rattle.std.specs.Option.{option_map}
use Rattle.std.proofs.Common.{ap}
use Rattle.ale_base.proofs.OnOkLemmas.{on_ok}
use Rattle.inbound_post.specs.Application.{with_unit}
use Rattle.inbound_post.proofs.RecordLemmas.{AreTablesOf-Accept}
use Rattle.document_state.proofs.NotedLemmas.{direct-applied}
use Rattle.document_state.proofs.noting.execute_direct.Goals as goal

pub returns-in-Some-Direct : goal.returns-in-Some-Direct
returns-in-Some-Direct c application system unit are is made =
    on_ok c.execute.result (c.execute.ensures (with_unit unit application) (AreTablesOf-Accept unit application c.args.inbound.now are))
    (direct-applied (option_map arc_value c.args.model.now) (arc_value c.in-Some-Direct.field-0-0) system c.args.next.now unit c.in-Some-Direct.unit
    c.as_slice.result.now c.args.postings.now application c.execute.new.self (ap (option_map arc_value) c.in-Some-Direct.is-0) c.in-Some-Direct.is-1 is
    c.as_slice.ensures made)
