use Rattle.std.proofs.Common.{◌≡◌, ◌-◌}
use Rattle.ale_base.proofs.OnOkLemmas.{on_ok}
use Rattle.system_tables.specs.Tables.{entered}
use Rattle.trfc_protocol.proofs.WorldLemmas.{slice_set-same}
use Rattle.unit_landscape.proofs.InStepLemmas.{ChangedAt-row, on_err}
use Rattle.unit_landscape.proofs.world_tables.enter_units.Goals as goal

pub returns-clause-entered : goal.returns-clause-entered
returns-clause-entered g c =
    on_ok c.enter.result c.enter.ensures.ok
    (ChangedAt-row (λ before now. now ≡ entered c.args.more.now before) c.args.system c.get.result c.args.tables.now c.at_mut.result.now c.enter.new.self
    c.get.ensures.number c.at_mut.ensures.value)

pub returns-clause-err : goal.returns-clause-err
returns-clause-err g c =
    on_err c.enter.result c.enter.ensures.err
    (slice_set-same c.args.tables.now (c.get.result - 1) c.at_mut.result.now c.enter.new.self c.at_mut.ensures.value)
