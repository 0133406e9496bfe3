use Rattle.std.proofs.Common.{List, filter, ap, ◌∙◌}
use Rattle.ale_base.specs.Tid.{TidOf, has_range}
use Rattle.landscape.proofs.ShownLemmas.{none-apart, unconfirmed-at}
use Rattle.landscape.proofs.landscape.Landscape.unconfirmed.Goals as goal

pub returns-clause-unconfirmed : goal.returns-clause-unconfirmed
returns-clause-unconfirmed g c =
    unconfirmed-at c.args.self.now.world c.args.system c.in-Some.tables.now c.in_ok-tids.tids c.in-Some.ensures
    (c.in_ok-tids.ensures.are ∙ ap (λ (ids : List TidOf). filter has_range ids) (c.numbers-numbers.ensures ∙ c.unconfirmed.ensures))

pub returns-in_default-clause-apart : goal.returns-in_default-clause-apart
returns-in_default-clause-apart g c = none-apart c.new.result c.new.ensures
