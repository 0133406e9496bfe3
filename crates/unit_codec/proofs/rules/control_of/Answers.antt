use Rattle.unit_codec.proofs.RuleLemmas.{control_found}
use Rattle.unit_codec.proofs.rules.control_of.Goals as goal

pub returns : goal.returns
returns c = rw c.ok.ensures.value (control_found c.args.bytes.now c.read_control.result c.requires c.read_control.ensures.record)
