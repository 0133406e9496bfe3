use Rattle.std.specs.BTreeMap.{get}
use Rattle.std.specs.Ordering.{is_eq}
use Rattle.std.proofs.Common.{◌≡◌, ℕ, Some, None, cond, length, sym, subst}
use Rattle.multi_queue.specs.declared.counting.Counting.{Counting}
use Rattle.multi_queue.specs.Counted.{IsKept}
use Rattle.multi_queue.specs.Seen.{numbers_cmp, IsPlaced}
use Rattle.multi_queue.proofs.AddLemmas.{placed-behind, kept-behind, kept-grown}
use Rattle.multi_queue.proofs.counting.Counting.make_room.Goals as goal

pub returns-in-Ok-clause-placed : goal.returns-in-Ok-clause-placed
returns-in-Ok-clause-placed c =
    let others = subst (λ (n : ℕ). (number : ℕ × ℕ) → get numbers_cmp c.insert.new.self number ≡ cond (is_eq (numbers_cmp c.number_of.result number)) (Some n)
    (get numbers_cmp c.args.places.now number))
    c.len-place.ensures c.in-Ok.ensures.updates.0 in
    let named = subst (λ (n : ℕ × ℕ). (number : ℕ × ℕ) →
    get numbers_cmp c.insert.new.self number ≡ cond (is_eq (numbers_cmp n number)) (Some (length c.args.self.now.units))
    (get numbers_cmp c.args.places.now number))
    c.number_of.ensures others in
    subst (λ (counting : Counting). IsPlaced counting.units (get numbers_cmp c.insert.new.self)) (sym c.in_default-push_entry.ensures.ok)
    (placed-behind c.args.tid c.args.self.now.units (get numbers_cmp c.args.places.now) (get numbers_cmp c.insert.new.self) c.requires.placed c.requires.new
    named)

pub returns-in-Ok-clause-kept : goal.returns-in-Ok-clause-kept
returns-in-Ok-clause-kept c =
    subst (λ (counting : Counting). IsKept None counting) (sym c.in_default-push_entry.ensures.ok)
    (kept-behind c.args.tid (record c.args.self.now { board = c.grow.new.self }) c.in_default.ensures.room c.in_default.ensures.board
    (kept-grown c.args.self.now c.grow.new.self c.grow.ensures.heads (λ _. c.in_default.ensures.board) c.requires.kept).counted)
