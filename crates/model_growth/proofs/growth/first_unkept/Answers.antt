use Rattle.std.proofs.Common.{rules}
use Rattle.model_growth.proofs.GrowthLemmas.{grown_by_first}
use Rattle.model_growth.proofs.growth.first_unkept.Goals as goal

pub returns-then-not-begins_with-clause-none : goal.returns-then-not-begins_with-clause-none
returns-then-not-begins_with-clause-none c = grown_by_first c.args.old.now c.args.new.now _ (search rules)

pub returns-then-not-keep_all-clause-none : goal.returns-then-not-keep_all-clause-none
returns-then-not-keep_all-clause-none c = grown_by_first c.args.old.now c.args.new.now _ (search rules)

pub returns-clause-none : goal.returns-clause-none
returns-clause-none c = grown_by_first c.args.old.now c.args.new.now _ (search rules)
