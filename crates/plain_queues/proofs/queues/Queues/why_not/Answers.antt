use Rattle.std.proofs.Common.{ap, ◌∙◌, Option, Some}
use Rattle.std.specs.Option.{option_map_or}
use Rattle.plain_queues.specs.declared.queued_unit.QueuedUnit.{QueuedUnit}
use Rattle.plain_queues.specs.declared.not_offered.NotOffered.TheVariants.{Unknown}
use Rattle.plain_queues.specs.Offered.{why_not_unit}
use Rattle.plain_queues.proofs.OfferedLemmas.{IsNone-offered}
use Rattle.plain_queues.proofs.queues.Queues.why_not.Goals as goal

pub returns-in-Some-clause-none : goal.returns-in-Some-clause-none
returns-in-Some-clause-none c =
    IsNone-offered c.args.tid c.args.self.now c.why_not_unit.result
    (c.why_not_unit.ensures ∙ ap (λ (found : Option QueuedUnit). option_map_or (why_not_unit c.args.self.now) found (Some Unknown)) c.in-Some.ensures)

pub returns-in-None-clause-none : goal.returns-in-None-clause-none
returns-in-None-clause-none c =
    IsNone-offered c.args.tid c.args.self.now (Some Unknown)
    (ap (λ (found : Option QueuedUnit). option_map_or (why_not_unit c.args.self.now) found (Some Unknown)) c.in-None.ensures)
