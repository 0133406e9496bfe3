use Rattle.ale_base.specs.Tid.{is_tid}
use Rattle.std.proofs.Common.{ℕ, List, Some, cond, ap, ◌∙◌}
use Rattle.std.specs.BTreeMap.{get}
use Rattle.std.specs.Ordering.{is_eq}
use Rattle.tid_table.proofs.NumberLemmas.{numbers_cmp, equal-is_tid}
use Rattle.log_tables.specs.Places.{number_of, place_of}
use Rattle.log_tables.proofs.places.Places.enter.Goals as goal

pub returns : goal.returns
returns c = record {
  each = λ other.
      c.in_ok-insert.ensures.updates.0 (number_of other)
      ∙ ap (λ (n : ℕ × ℕ). cond (is_eq (numbers_cmp n (number_of other))) (Some c.args.place) (get numbers_cmp c.self.inside.places (number_of other)))
      c.number_of.ensures
      ∙ ap (λ b. cond b (Some c.args.place) (get numbers_cmp c.self.inside.places (number_of other))) (equal-is_tid (number_of c.args.tid) (number_of other))
      ∙ ap (λ (entries : List ((ℕ × ℕ) × ℕ)). cond (is_tid c.args.tid other) (Some c.args.place) (place_of entries other)) c.self.view_is;
}
