use Rattle.std.proofs.Common.{length, ap, ◌∙◌}
use Rattle.unit_landscape.proofs.kept_world.KeptWorld.count.Goals as goal

pub returns : goal.returns
returns g c = c.count.ensures ∙ ap length c.tables.ensures.agree.units
