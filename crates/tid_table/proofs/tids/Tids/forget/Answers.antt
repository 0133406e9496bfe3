use Rattle.std.specs.List.{list_any}
use Rattle.std.specs.BTreeMap.{is_at}
use Rattle.std.proofs.Common.{ℕ, List, false, not, ◌&&◌, cond, sym, ap, ◌∙◌}
use Rattle.ale_base.specs.Tid.{TidOf, is_tid}
use Rattle.unit_core.specs.Queues.{is_listed}
use Rattle.tid_table.proofs.NumberLemmas.{numbers_cmp, equal-is_tid, found-is_listed, forgotten}
use Rattle.tid_table.proofs.tids.Tids.forget.Goals as goal

pub returns : goal.returns
returns c = record {
  forgets = λ other.
      let asked : ℕ × ℕ = (other.system, other.unit) in
      let before = c.self.inside.numbers.keys in
      sym (found-is_listed asked c.remove-known.new.self.keys)
      ∙ c.remove-known.ensures.updates.0 asked
      ∙ ap (λ (key : ℕ × ℕ). cond (is_at (numbers_cmp key) asked) false (list_any (is_at (numbers_cmp asked)) before)) c.number_of.ensures
      ∙ ap (λ b. cond b false (list_any (is_at (numbers_cmp asked)) before)) (equal-is_tid (c.args.tid.system, c.args.tid.unit) asked)
      ∙ forgotten (is_tid c.args.tid other) (list_any (is_at (numbers_cmp asked)) before)
      ∙ ap (λ b. not (is_tid c.args.tid other) && b) (found-is_listed asked before ∙ ap (λ (tids : List TidOf). is_listed other tids) c.self.view_is);
}
