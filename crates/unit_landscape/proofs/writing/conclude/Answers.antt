use Rattle.std.proofs.Common.{sym, subst}
use Rattle.unit_landscape.specs.declared.world_tables.WorldTables.{WorldTables}
use Rattle.unit_landscape.specs.InStep.{AreInStepWith}
use Rattle.unit_landscape.proofs.WritingLemmas.{within-entered}
use Rattle.unit_landscape.proofs.writing.conclude.Goals as goal

pub undo-requires : goal.undo-requires
undo-requires g c = within-entered g.R.Rules.meaning g.A.Application.stands c.args.both.now c.args.system c.args.count c.requires

pub undo-requires-in-Err-Full : goal.undo-requires-in-Err-Full
undo-requires-in-Err-Full g c = within-entered g.R.Rules.meaning g.A.Application.stands c.args.both.now c.args.system c.args.count c.requires

pub returns-in-Err-OutOfMemory-clause-in_step : goal.returns-in-Err-OutOfMemory-clause-in_step
returns-in-Err-OutOfMemory-clause-in_step g c =
    let its = c.requires in
    subst (λ (b : WorldTables g.row.R.Denot g.row.A.Denot g.row.A-Extra.Denot).
    AreInStepWith g.A.Application.stands g.R.Rules.meaning b.world b.tables) (sym (c.undo.ensures its.before its.next its.more its.entered its.counts))
    its.in_step

pub returns-in-Err-Full-clause-in_step : goal.returns-in-Err-Full-clause-in_step
returns-in-Err-Full-clause-in_step g c =
    let its = c.requires in
    subst (λ (b : WorldTables g.row.R.Denot g.row.A.Denot g.row.A-Extra.Denot).
    AreInStepWith g.A.Application.stands g.R.Rules.meaning b.world b.tables)
    (sym (c.undo-in-Err-Full.ensures its.before its.next its.more its.entered its.counts)) its.in_step

pub returns-in-Err-OutOfMemory-clause-concluded : goal.returns-in-Err-OutOfMemory-clause-concluded
returns-in-Err-OutOfMemory-clause-concluded g c = λ before next more is counts up. c.undo.ensures before next more is counts

pub returns-in-Err-Full-clause-concluded : goal.returns-in-Err-Full-clause-concluded
returns-in-Err-Full-clause-concluded g c = λ before next more is counts up. c.undo-in-Err-Full.ensures before next more is counts
