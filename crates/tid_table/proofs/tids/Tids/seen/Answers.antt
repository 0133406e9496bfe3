use Rattle.std.specs.List.{list_any}
use Rattle.std.specs.BTreeMap.{is_at}
use Rattle.std.proofs.Common.{ℕ, List, ap, ◌∙◌}
use Rattle.ale_base.specs.Tid.{TidOf}
use Rattle.unit_core.specs.Queues.{is_listed}
use Rattle.tid_table.proofs.NumberLemmas.{numbers_cmp, found-is_listed}
use Rattle.tid_table.proofs.tids.Tids.seen.Goals as goal

pub returns : goal.returns
returns c =
    c.contains.ensures
    ∙ ap (λ (asked : ℕ × ℕ). list_any (is_at (numbers_cmp asked)) c.self.inside.numbers.keys) c.number_of.ensures
    ∙ found-is_listed (c.args.tid.system, c.args.tid.unit) c.self.inside.numbers.keys
    ∙ ap (λ (tids : List TidOf). is_listed c.args.tid tids) c.self.view_is
