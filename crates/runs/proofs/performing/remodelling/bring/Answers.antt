use Rattle.std.specs.Prelude.{Ok, Err, List}
use Rattle.std.specs.Arc.{arc_value}
use Rattle.std.proofs.Common.{ℕ, refl, subst}
use Rattle.trfc_protocol.specs.declared.event.Event.TheVariants as event
use Rattle.trfc_protocol.specs.declared.event.Action.TheVariants.{Revoke}
use Rattle.unit_landscape.specs.Kept.{IsLandscape}
use Rattle.unit_landscape.proofs.GrownLemmas.{grown-happened}
use Rattle.landscape.proofs.BegunLemmas.{is_lawful, meaning}
use Rattle.landscape.proofs.SoundLemmas.{goes-on, goes-one}
use Rattle.runs.specs.Remodels.{RemodelledAs}
use Rattle.runs.proofs.performing.remodelling.bring.Goals as goal

pub returns-in-Ok-clause-does : goal.returns-in-Ok-clause-does
returns-in-Ok-clause-does g c = (
  c.revoke.new.self,
  c.revoke.ensures.event,
  c.revoke.ensures.volumes,
  Ok c.in-Ok.count,
  subst
      (λ (text : List ℕ). RemodelledAs g.V.Volumes.disk text (arc_value c.args.file.now.model) c.revoke.new.self c.take_all.new.landscape
      (Ok c.in-Ok.count)) c.as_slice.ensures c.in-Ok.ensures.ends,
  c.plain.ensures,
  refl,
)

pub returns-in-Ok-clause-calls : goal.returns-in-Ok-clause-calls
returns-in-Ok-clause-calls g c =
    let start = c.args.stage.now.landscape in
    let safe : IsLandscape meaning start.world = c.world.ensures.safe in
    goes-on g.V.Volumes.disk start c.revoke.new.self c.take_all.new.landscape
    (goes-one g.V.Volumes.disk start c.revoke.new.self
    (grown-happened meaning is_lawful g.V.Volumes.disk start c.revoke.new.self safe.safe (event.Operator Revoke) c.revoke.ensures.event)
    c.revoke.ensures.sound) c.in-Ok.ensures.calls

pub returns-in-Err-clause-does : goal.returns-in-Err-clause-does
returns-in-Err-clause-does g c = (
  c.revoke.new.self,
  c.revoke.ensures.event,
  c.revoke.ensures.volumes,
  Err c.in-Err.why,
  subst
      (λ (text : List ℕ). RemodelledAs g.V.Volumes.disk text (arc_value c.args.file.now.model) c.revoke.new.self c.take_all.new.landscape
      (Err c.in-Err.why)) c.as_slice.ensures c.in-Err.ensures.ends,
  c.refused.ensures.answer,
  refl,
)

pub returns-in-Err-clause-calls : goal.returns-in-Err-clause-calls
returns-in-Err-clause-calls g c =
    let start = c.args.stage.now.landscape in
    let safe : IsLandscape meaning start.world = c.world.ensures.safe in
    goes-on g.V.Volumes.disk start c.revoke.new.self c.take_all.new.landscape
    (goes-one g.V.Volumes.disk start c.revoke.new.self
    (grown-happened meaning is_lawful g.V.Volumes.disk start c.revoke.new.self safe.safe (event.Operator Revoke) c.revoke.ensures.event)
    c.revoke.ensures.sound) c.in-Err.ensures.calls
