use Rattle.std.proofs.Common.{Ok, refl, subst}
use Rattle.unit_landscape.specs.Crashes.{LeavesSound}
use Rattle.unit_landscape.specs.KeptWorlds.{KeptOf}
use Rattle.unit_landscape.specs.Reopening.{KeepsAll, Looks}
use Rattle.document_state.specs.declared.document_tables.DocumentTables.{DocumentTables}
use Rattle.document_state.specs.declared.model_rules.ModelRules.{ModelRules}
use Rattle.landscape.proofs.BegunLemmas.{meaning}
use Rattle.landscape.proofs.ReopenedLemmas.{opening-done, sound-on}
use Rattle.landscape.proofs.landscape.Landscape.open_down.Goals as goal

pub returns-in_err-looked-clause-sound : goal.returns-in_err-looked-clause-sound
returns-in_err-looked-clause-sound g c = λ tells.
    subst (λ (k : KeptOf ModelRules DocumentTables g.row.V.Denot). LeavesSound meaning g.V.Volumes.disk k c.look.new.self) c.self.view_is
    (c.look.ensures.sound tells)

pub returns-in_err-enter-clause-sound : goal.returns-in_err-enter-clause-sound
returns-in_err-enter-clause-sound g c =
    sound-on g.V.Volumes.disk c.args.self.now c.enter.new.self c.args.system c.look.new.self c.enter.ensures.vols (λ tells.
    subst (λ (k : KeptOf ModelRules DocumentTables g.row.V.Denot). LeavesSound meaning g.V.Volumes.disk k c.look.new.self) c.self.view_is
    (c.look.ensures.sound tells))

pub returns-clause-sound : goal.returns-clause-sound
returns-clause-sound g c =
    sound-on g.V.Volumes.disk c.args.self.now c.enter.new.self c.args.system c.look.new.self c.enter.ensures.vols (λ tells.
    subst (λ (k : KeptOf ModelRules DocumentTables g.row.V.Denot). LeavesSound meaning g.V.Volumes.disk k c.look.new.self) c.self.view_is
    (c.look.ensures.sound tells))

pub returns-clause-opens : goal.returns-clause-opens
returns-clause-opens g c =
    let disk = g.V.Volumes.disk in
    let answer = c.look.result in
    opening-done disk c.args.self.now c.look.new.self c.enter.new.self c.args.system answer c.requires.down
    (subst (λ (k : KeptOf ModelRules DocumentTables g.row.V.Denot). Looks disk k c.look.new.self c.args.system answer) c.self.view_is c.look.ensures.looks)
    (subst (λ (k : KeptOf ModelRules DocumentTables g.row.V.Denot). KeepsAll disk k c.look.new.self c.args.system answer) c.self.view_is
    c.look.ensures.keeps)
    (Ok tt) c.in_ok-looked.looked c.in_ok-looked.was tt refl c.in_ok-looked.ensures.of c.enter.ensures.vols c.in_ok-enter.ensures.reopened
