use Rattle.std.proofs.Common.{◌≡◌}
use Rattle.system_tables.specs.Tables.{left}
use Rattle.unit_landscape.proofs.InStepLemmas.{ChangedAt-row}
use Rattle.unit_landscape.proofs.world_tables.leave_units.Goals as goal

pub returns : goal.returns
returns g c =
    ChangedAt-row (λ before now. now ≡ left c.args.count before) c.args.system c.get.result c.args.tables.now c.at_mut.result.now c.leave.new.self
    c.get.ensures.number c.at_mut.ensures.value c.leave.ensures
