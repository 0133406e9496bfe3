use Rattle.std.proofs.Common.{ap, subst, sym}
use Rattle.trfc_protocol.specs.declared.world.World.{World}
use Rattle.unit_landscape.specs.Kept.{IsLandscape}
use Rattle.document_state.specs.declared.model_rules.ModelRules.{ModelRules}
use Rattle.landscape.proofs.SoundLemmas.{goes-none, goes-on}
use Rattle.unit_works.proofs.WorkedLemmas.{meaning}
use Rattle.runs.proofs.RunLemmas.{turn-of}
use Rattle.runs.proofs.SoundLemmas.{goes-command}
use Rattle.runs.proofs.turns.turn.Goals as goal

pub returns-clause-turn : goal.returns-clause-turn
returns-clause-turn g c = (
  c.now-moment.result,
  turn-of g.V.Volumes.disk c.args.inputs.now (g.F.Files.told c.args.files.now) (g.F.Files.faults c.args.files.now)
      (g.F.Files.faults c.perform-stage.new.files) c.report-end.result c.now-moment.result c.args.command.now c.args.stage c.begin-stage.result
      c.perform-stage.result.stage
      c.perform-stage.result.answer (g.K.Sink.contents c.args.out.now) (g.K.Sink.contents c.report-end.new.out) (g.K.Sink.faults c.args.out.now)
      (g.K.Sink.faults c.report-end.new.out) c.begin-stage.ensures c.world.ensures.safe
      (record { does = c.perform-stage.ensures.does; calls = c.perform-stage.ensures.calls; on_volumes = c.world.ensures.kept.on_volumes })
      c.report-end.ensures.reported,
  c.now-moment.ensures.given,
)

pub returns-clause-sound : goal.returns-clause-sound
returns-clause-sound g c =
    let began = c.begin-stage.result.landscape in
    let after = c.perform-stage.result.stage.landscape in
    let began_safe : IsLandscape meaning began.world =
    subst (λ (w : World ModelRules). IsLandscape meaning w) (sym (ap (λ stage. stage.landscape.world) c.begin-stage.ensures)) c.requires.safe in
    goes-on g.V.Volumes.disk c.args.stage.landscape began after
    (goes-none g.V.Volumes.disk c.args.stage.landscape began (ap (λ stage. stage.landscape.world) c.begin-stage.ensures)
    (ap (λ stage. stage.landscape.vols) c.begin-stage.ensures))
    (goes-command g.V.Volumes.disk c.begin-stage.result c.perform-stage.result.answer c.perform-stage.result.stage began_safe c.args.inputs.now
    (g.F.Files.told c.args.files.now) (g.F.Files.faults c.args.files.now) (g.F.Files.faults c.perform-stage.new.files) c.args.command.now.form
    c.perform-stage.ensures.does c.perform-stage.ensures.calls)

pub returns-clause-now : goal.returns-clause-now
returns-clause-now g c = c.world.ensures.sound
