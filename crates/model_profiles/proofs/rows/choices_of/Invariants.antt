use Rattle.std.proofs.Common.{◌≡◌, []}
use Rattle.toml.specs.View.{members_view, table_view}
use Rattle.model_profiles.specs.Rows.{choices_of}
use Rattle.model_profiles.proofs.rows.choices_of.Given as goal

abbrev pub invariant-loop-key : goal.invariant-loop-key
invariant-loop-key l =
    choices_of l.on.definitions l.on.filters l.message l.choices (members_view l.key-iterator) ≡ choices_of l.on.definitions l.on.filters l.message []
    (table_view l.table)
