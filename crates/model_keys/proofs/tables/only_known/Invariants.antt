use Rattle.std.proofs.Common.{◌≡◌, map}
use Rattle.toml.specs.View.{members_view, table_view}
use Rattle.model_keys.specs.Keys.{only_known}
use Rattle.model_keys.proofs.tables.only_known.Given as goal

abbrev pub invariant-loop-key : goal.invariant-loop-key
invariant-loop-key l =
    let known = map (λ name. name.now) l.known in
    only_known l.before known (members_view l.key-iterator) ≡ only_known l.before known (table_view l.table)
