use Rattle.std.specs.Prelude.{slice_set, if◌then◌else◌}
use Rattle.std.proofs.Common.{◌≡◌, ◌≤◌, ◌-◌, None, length, ap, sym, subst, ◌∙◌, arith}
use Rattle.unit_core.specs.Filters.{executed, received}
use Rattle.unit_journal.specs.Looking.{is_found, system_of}
use Rattle.trfc_protocol.specs.declared.world.World.{World}
use Rattle.trfc_protocol.specs.Happens.{run}
use Rattle.trfc_protocol.specs.Worlds.{log_of, log_or_none, log_with, rest_or_none, with_state}
use Rattle.system_tables.specs.OfLog.{AreTablesOf}
use Rattle.log_tables.specs.OfLog.{no_claims}
use Rattle.unit_landscape.specs.Causes.{AreCausesOf, with_cause}
use Rattle.unit_landscape.specs.Counted.{AreCounted}
use Rattle.unit_landscape.specs.InStep.{AreInStepWith}
use Rattle.unit_landscape.specs.KeptWorlds.{KeptOf}
use Rattle.unit_landscape.specs.OnVolumes.{AreOnVolumes}
use Rattle.unit_landscape.specs.Reopening.{AreTablesLooked, IsFound, NoneAt, log_looked, opening_events, state_reopened}
use Rattle.unit_landscape.specs.declared.cause.Cause.TheVariants.{Up}
use Rattle.unit_landscape.proofs.OpenedAgainLemmas.{causes-reopened, counted-reopened, down-most, in_step-reopened, on_volumes-reopened, run-reopened}
use Rattle.unit_landscape.proofs.kept_world.KeptWorld.reopen.Goals as goal

pub invariant_of-self-2 : goal.invariant_of-self-2
invariant_of-self-2 g c =
    let disk = g.V.Volumes.disk in
    let meaning = g.R.Rules.meaning in
    let stands = g.A.Application.stands in
    let world = c.self.inside.both.world in
    let tables = c.self.inside.both.tables in
    let journals = c.self.inside.journals in
    let vols = c.self.inside.vols in
    let counts = c.self.inside.counted in
    let looked = c.args.looked in
    let system = system_of looked in
    let found = is_found looked in
    let here = c.system-system.ensures in
    let now = with_state world system (state_reopened found) in
    let is = subst (λ (k : KeptOf g.row.R.Denot g.row.A.Denot g.row.V.Denot). IsFound disk k looked) (sym c.self.view_is) c.requires.found in
    let free = subst (λ (k : KeptOf g.row.R.Denot g.row.A.Denot g.row.V.Denot). NoneAt system k.world.claims) (sym c.self.view_is) c.requires.free in
    let agree = subst (λ (k : KeptOf g.row.R.Denot g.row.A.Denot g.row.V.Denot). AreTablesLooked stands (meaning k.world.rules) k.world looked c.args.tables)
    (sym c.self.view_is) c.requires.tables in
    let down = is.down in
    let most : system ≤ 16 =
    let few = c.self.invariant.on_volumes.few in let within = down-most world system down in omega (arith, few, within) in
    let world_is : c.reopen.new.self.world ≡ now =
    c.in_ok-reopen.ensures.world ∙ ap (λ s. with_state world s (state_reopened c.is_found.result)) here
    ∙ ap (λ b. with_state world system (state_reopened b)) c.is_found.ensures in
    let tables_is : c.reopen.new.self.tables ≡ slice_set tables (system - 1) c.args.tables =
    c.in_ok-reopen.ensures.tables ∙ ap (λ s. slice_set tables (s - 1) c.args.tables) here in
    let log_is : c.log.result.now ≡ log_of now system =
    c.log.ensures ∙ ap (λ s. log_of c.reopen.new.self.world s) here ∙ ap (λ (w : World g.row.R.Denot). log_of w system) world_is in
    let looked_is : log_looked world looked ≡ (state_reopened found down.state).log =
    ap (λ s. log_with (log_or_none s) (if found then rest_or_none s else None)) down.known in
    record {
      in_step = subst (λ (w : World g.row.R.Denot). AreInStepWith stands meaning w c.reopen.new.self.tables) (sym world_is)
          (subst (AreInStepWith stands meaning now) (sym tables_is)
          (in_step-reopened world system down stands meaning tables found c.args.tables c.self.invariant.in_step free
          (subst (λ log. AreTablesOf stands ((meaning world.rules).committed system log) log no_claims no_claims c.args.tables) looked_is agree)));
      on_volumes = subst (λ (w : World g.row.R.Denot). AreOnVolumes disk vols w.systems c.settle.new.self) (sym world_is)
          (on_volumes-reopened disk vols world journals c.settle.new.self looked down c.self.invariant.on_volumes is.entered c.settle.ensures.entered
          c.settle.ensures.one);
      causes = subst (λ (w : World g.row.R.Denot). AreCausesOf w.systems (slice_set c.self.inside.causes (c.get.result - 1) Up)) (sym world_is)
          (subst (λ s. AreCausesOf now.systems (with_cause c.self.inside.causes s Up)) (sym (c.get.ensures.number ∙ here))
          (causes-reopened world system down found c.self.inside.causes most c.self.invariant.causes));
      counted = subst (λ (w : World g.row.R.Denot). AreCounted w.systems c.count.new.self) (sym world_is)
          (counted-reopened world system down found counts c.count.new.self most
          (c.count.ensures.received ∙ ap (λ s. slice_set counts.received (s - 1) (length (received c.log.result.now))) here
          ∙ ap (λ log. slice_set counts.received (system - 1) (length (received log))) log_is)
          (c.count.ensures.executed ∙ ap (λ s. slice_set counts.executed (s - 1) (length (executed c.log.result.now))) here
          ∙ ap (λ log. slice_set counts.executed (system - 1) (length (executed log))) log_is)
          c.self.invariant.counted);
    }

pub returns-clause-world : goal.returns-clause-world
returns-clause-world g c =
    let world = c.self.inside.both.world in
    let system = system_of c.args.looked in
    let found = is_found c.args.looked in
    let is = subst (λ (k : KeptOf g.row.R.Denot g.row.A.Denot g.row.V.Denot). IsFound g.V.Volumes.disk k c.args.looked) (sym c.self.view_is)
    c.requires.found in
    c.in_ok-reopen.ensures.world ∙ ap (λ s. with_state world s (state_reopened c.is_found.result)) c.system-system.ensures
    ∙ ap (λ b. with_state world system (state_reopened b)) c.is_found.ensures
    ∙ run-reopened world system is.down g.R.Rules.meaning found
    ∙ ap (λ (k : KeptOf g.row.R.Denot g.row.A.Denot g.row.V.Denot). run g.R.Rules.meaning k.world (opening_events found system)) c.self.view_is
