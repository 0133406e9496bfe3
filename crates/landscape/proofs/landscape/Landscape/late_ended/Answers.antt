use Rattle.std.proofs.Common.{subst}
use Rattle.unit_landscape.specs.Late.{late_record}
use Rattle.unit_landscape.specs.Writes.{DiskAs}
use Rattle.unit_landscape.proofs.LateEndsLemmas.{late-still}
use Rattle.unit_landscape.specs.KeptWorlds.{KeptOf}
use Rattle.document_state.specs.declared.document_tables.DocumentTables.{DocumentTables}
use Rattle.document_state.specs.declared.model_rules.ModelRules.{ModelRules}
use Rattle.unit_landscape.proofs.GrownLemmas.{grown-late}
use Rattle.landscape.proofs.BegunLemmas.{begun-grown, is_lawful, meaning}
use Rattle.unit_landscape.specs.Crashes.{LeavesSound}
use Rattle.landscape.proofs.SoundLemmas.{sound-none}
use Rattle.landscape.proofs.landscape.Landscape.late_ended.Goals as goal

pub invariant_of-self : goal.invariant_of-self
invariant_of-self g c =
    begun-grown c.self.inside.units.world c.late.new.self.world c.self.invariant
    (grown-late meaning is_lawful g.V.Volumes.disk c.self.inside.units c.late.new.self c.world.ensures.safe.safe c.args.tid c.late.result c.late.ensures.ends)

pub returns-in-Err-clause-disk : goal.returns-in-Err-clause-disk
returns-in-Err-clause-disk g c =
    subst (λ (k : KeptOf ModelRules DocumentTables g.row.V.Denot). DiskAs g.V.Volumes.disk k k
    (late_record (meaning k.world.rules) k.world c.args.tid)) c.self.view_is
    (late-still g.V.Volumes.disk c.self.inside.units g.met.V.Volumes.only_now
    c.world.ensures.kept.on_volumes (meaning c.self.inside.units.world.rules) c.args.tid)

pub returns-in-Ok-clause-sound : goal.returns-in-Ok-clause-sound
returns-in-Ok-clause-sound g c =
    λ tells.
    subst (λ (k : KeptOf ModelRules DocumentTables g.row.V.Denot). LeavesSound meaning g.V.Volumes.disk k c.late.new.self) c.self.view_is
    (c.late.ensures.sound tells)

pub returns-in-Err-clause-sound : goal.returns-in-Err-clause-sound
returns-in-Err-clause-sound g c =
    sound-none g.V.Volumes.disk g.met.V.Volumes.only_now c.self.inside.units c.args.self.now c.self.view_is c.world.ensures.safe c.world.ensures.kept.on_volumes
