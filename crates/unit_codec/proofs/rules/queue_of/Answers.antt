use Rattle.unit_codec.proofs.RuleLemmas.{queue_found}
use Rattle.unit_codec.proofs.rules.queue_of.Goals as goal

pub returns : goal.returns
returns c = rw c.ok.ensures.value (queue_found c.args.text.now c.of.result c.of.ensures.name c.of.ensures.complete)
