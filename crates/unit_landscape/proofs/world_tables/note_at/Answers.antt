use Rattle.std.proofs.Common.{◌≡◌}
use Rattle.ale_base.proofs.OnOkLemmas.{on_ok}
use Rattle.system_tables.specs.Noted.{Noted}
use Rattle.unit_landscape.proofs.InStepLemmas.{ChangedAt-row}
use Rattle.unit_landscape.proofs.world_tables.note_at.Goals as goal

pub returns-clause-noted : goal.returns-clause-noted
returns-clause-noted g c =
    on_ok c.note.result c.note.ensures.noted
    (ChangedAt-row (Noted g.A.Application.stands (λ application log. g.A.Application.goes_with application log c.args.next.now c.args.extra) c.args.next.now
    c.args.more.now) c.args.system c.get.result c.args.tables.now c.at_mut.result.now c.note.new.self
    c.get.ensures.number c.at_mut.ensures.value)

pub returns-clause-units : goal.returns-clause-units
returns-clause-units g c =
    ChangedAt-row (λ before now. now.units ≡ before.units) c.args.system c.get.result c.args.tables.now c.at_mut.result.now c.note.new.self
    c.get.ensures.number c.at_mut.ensures.value c.note.ensures.units
