use Rattle.std.proofs.Common.{Some, None}
use Rattle.toml.proofs.Views.{table_get}
use Rattle.model_keys.proofs.KeysLemmas.{value_at-there, value_at-absent}
use Rattle.model_keys.proofs.tables.value_at.Goals as goal

pub returns-in_ok-at-in-None : goal.returns-in_ok-at-in-None
returns-in_ok-at-in-None c =
    rw c.in_ok-at-in-None.ensures (value_at-absent c.args.key.now _ (table_get None c.args.key.now c.args.table.now.entries c.in-None.ensures.value))

pub returns-in-Some : goal.returns-in-Some
returns-in-Some c =
    value_at-there c.args.key.now _ _ (table_get (Some c.in-Some.value) c.args.key.now c.args.table.now.entries c.in-Some.ensures.value)
