use Rattle.std.specs.List.{IsDistinct}
use Rattle.std.proofs.Common.{List, sym, subst, rules}
use Rattle.ale_base.specs.Tid.{TidOf, is_tid}
use Rattle.landscape.proofs.ShownLemmas.{ids-apart}
use Rattle.landscape.proofs.ids.ids_of.Goals as goal

pub returns-clause-apart : goal.returns-clause-apart
returns-clause-apart c =
    subst (λ (tids : List TidOf). IsDistinct is_tid tids) (sym (search rules)) (ids-apart c.args.numbers.now.keys c.len-count.ensures.ordered)
