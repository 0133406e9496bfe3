use Rattle.toml.specs.View.{table_view}
use Rattle.model_text.proofs.ModelRules.{basics_of-keeps}
use Rattle.model_text.proofs.model.model_of.Goals as goal

pub model_on-requires : goal.model_on-requires
model_on-requires c = basics_of-keeps (table_view c.args.table.now) c.in_ok-on.on c.in_ok-on.ensures
