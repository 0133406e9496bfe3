use Rattle.toml.specs.View.{table_view}
use Rattle.model_text.proofs.ModelRules.{type_names-few}
use Rattle.model_text.proofs.basics.structure_of.Goals as goal

pub types_listed-requires : goal.types_listed-requires
types_listed-requires c =
    rw c.in_ok-segments.ensures.named (type_names-few c.args.releases.now (table_view c.args.table.now) c.in_ok-segments.segments.things
    c.in_ok-segments.ensures.given)
