use Rattle.std.specs.List.{list_any}
use Rattle.std.proofs.Common.{◌≡◌, ℕ, ◌||◌, List, drop}
use Rattle.ale_base.specs.Text.{is_text}
use Rattle.filter_objects.proofs.condition.table_of.Given as goal

abbrev pub invariant-loop-value : goal.invariant-loop-value
invariant-loop-value l =
    (text : List ℕ) → (list_any (is_text text) l.table || list_any (is_text text) (drop l.value-index l.values)) ≡ list_any (is_text text) l.values
