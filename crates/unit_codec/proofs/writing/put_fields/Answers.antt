use Rattle.std.proofs.Common.{sym, append-nil}
use Rattle.unit_codec.specs.Records.{nothing}
use Rattle.unit_codec.proofs.writing.put_fields.Goals as goal

pub returns-in-Dispatch : goal.returns-in-Dispatch
unfolding nothing
returns-in-Dispatch c = rw c.in-Dispatch.is (record { fits = tt; spelled = sym (append-nil c.args.into.now.items) })
