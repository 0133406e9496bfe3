use Rattle.std.specs.Prelude.{map}
use Rattle.std.proofs.Common.{◌≡◌, ◌++◌, ◌∷◌, [], sym, subst}
use Rattle.said_models.specs.OfLog.{models_of}
use Rattle.outbound_build.specs.declared.added.OutUnit.{OutUnit}
use Rattle.outbound_build.specs.Committed.{committed_of}
use Rattle.trfc_protocol.specs.declared.event.Event.TheVariants as event
use Rattle.trfc_protocol.specs.Worlds.{log_of}
use Rattle.unit_landscape.specs.Appending.{at}
use Rattle.unit_landscape.specs.KeptWorlds.{KeptOf}
use Rattle.document_state.specs.declared.document_tables.DocumentTables.{DocumentTables}
use Rattle.document_state.specs.declared.model_rules.ModelRules.{ModelRules}
use Rattle.unit_landscape.proofs.GrownLemmas.{grown-appends}
use Rattle.landscape.proofs.BegunLemmas.{begun-grown, is_lawful, meaning}
use Rattle.landscape.proofs.CarriedLemmas.{commit-commits}
use Rattle.landscape.proofs.SoundLemmas.{sound-event, sound-none}
use Rattle.landscape.proofs.landscape.Landscape.commit_added.Goals as goal

pub commit-requires-clause-commits : goal.commit-requires-clause-commits
commit-requires-clause-commits g c =
    let are : c.as_slice.result.now ≡ map (λ (one : OutUnit). one.unit) c.args.added.units =
    (let one = c.as_slice.ensures in let two = c.units.view_is in let three = c.in-Ok.ensures in cc) in
    subst (λ (k : KeptOf ModelRules DocumentTables g.row.V.Denot). committed_of (models_of (log_of k.world c.args.system ++ c.args.next ∷ []))
    (log_of k.world c.args.system ++ c.args.next ∷ [])
    ≡ committed_of (models_of (log_of k.world c.args.system)) (log_of k.world c.args.system) ++ c.as_slice.result.now) (sym c.self.view_is)
    (commit-commits (log_of c.args.self.now.world c.args.system) c.args.next c.args.added c.as_slice.result.now c.requires.ready.its_kind c.requires.ready.goes
    are)

pub invariant_of-self : goal.invariant_of-self
invariant_of-self g c =
    begun-grown c.self.inside.units.world c.commit.new.self.world c.self.invariant
    (grown-appends meaning is_lawful g.V.Volumes.disk c.self.inside.units c.commit.new.self c.world.ensures.safe.safe (event.Commit c.args.system c.args.next)
    (at c.args.system c.args.next) c.commit.result c.commit.ensures.ends)

pub returns-in-Err-clause-sound : goal.returns-in-Err-clause-sound
returns-in-Err-clause-sound g c =
    sound-none g.V.Volumes.disk g.met.V.Volumes.only_now c.self.inside.units c.args.self.now c.self.view_is c.world.ensures.safe c.world.ensures.kept.on_volumes

pub returns-in-Ok-clause-sound : goal.returns-in-Ok-clause-sound
returns-in-Ok-clause-sound g c =
    sound-event g.V.Volumes.disk g.met.V.Volumes.only_now c.self.inside.units c.args.self.now c.self.view_is c.world.ensures.safe
    c.world.ensures.kept.on_volumes
    c.commit.new.self (event.Commit c.args.system c.args.next) c.commit.ensures.disk
