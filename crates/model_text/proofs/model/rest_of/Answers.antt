use Rattle.toml.specs.View.{table_view}
use Rattle.model_text.proofs.ModelRules.{subjects_of-keeps}
use Rattle.model_text.proofs.model.rest_of.Goals as goal

pub traffic_of-requires-clause-subjects : goal.traffic_of-requires-clause-subjects
traffic_of-requires-clause-subjects c = subjects_of-keeps c.args.on.now (table_view c.args.table.now) c.in_ok-of.of c.in_ok-of.ensures
