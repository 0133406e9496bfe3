use Rattle.std.proofs.Common.{refl, subst, sym}
use Rattle.script_text.specs.declared.form.Form.{Form}
use Rattle.runs.specs.Does.{Done, Goes}
use Rattle.runs.proofs.DoneLemmas.{done-unread}
use Rattle.runs.proofs.performing.perform.Goals as goal

pub returns-in-Drain-clause-does : goal.returns-in-Drain-clause-does
returns-in-Drain-clause-does g c =
    subst (λ (form : Form). Done g.V.Volumes.disk c.args.inputs.now c.args.stage c.drained.result.answer c.drained.result.stage
    (g.F.Files.told c.args.files.now) (g.F.Files.faults c.args.files.now) (g.F.Files.faults c.args.files.now) form) (sym c.in-Drain.is)
    (c.drained.ensures.does c.args.inputs.now, refl)

pub returns-in-Drain-clause-calls : goal.returns-in-Drain-clause-calls
returns-in-Drain-clause-calls g c =
    subst (λ (form : Form). Goes g.V.Volumes.disk c.args.inputs.now c.args.stage c.drained.result.answer c.drained.result.stage form) (sym c.in-Drain.is)
    c.drained.ensures.calls

pub returns-in-Remodel-clause-does : goal.returns-in-Remodel-clause-does
returns-in-Remodel-clause-does g c =
    subst (λ (form : Form). Done g.V.Volumes.disk c.args.inputs.now c.args.stage c.replaced.result.answer c.replaced.result.stage
    (g.F.Files.told c.args.files.now) (g.F.Files.faults c.args.files.now) (g.F.Files.faults c.replaced.new.files) form) (sym c.in-Remodel.is)
    (c.replaced.ensures.does c.args.inputs.now)

pub returns-in_default-clause-does : goal.returns-in_default-clause-does
returns-in_default-clause-does g c =
    done-unread g.V.Volumes.disk c.args.inputs.now c.args.stage c.carry_out-answer.result c.carry_out-answer.new.stage (g.F.Files.told c.args.files.now)
    (g.F.Files.faults c.args.files.now) (g.F.Files.faults c.args.files.now) c.args.form.now c.in_default.not-Remodel c.carry_out-answer.ensures.does refl

pub returns-in_default-clause-calls : goal.returns-in_default-clause-calls
returns-in_default-clause-calls g c = c.carry_out-answer.ensures.calls
