use Rattle.trfc_protocol.proofs.EventLemmas.{Safe-step}
use Rattle.trfc_protocol.proofs.steps.step.Goals as goal

pub returns-clause-rules : goal.returns-clause-rules
returns-clause-rules g c =
    (Safe-step g.R.Rules.meaning g.met.R.Rules.lawful c.args.world c.happen.new.self c.args.event.now c.requires c.in_ok-happen.ensures.ok).0

pub returns-clause-safe : goal.returns-clause-safe
returns-clause-safe g c =
    (Safe-step g.R.Rules.meaning g.met.R.Rules.lawful c.args.world c.happen.new.self c.args.event.now c.requires c.in_ok-happen.ensures.ok).1
