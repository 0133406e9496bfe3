use Rattle.std.proofs.Common.{◌≡◌, ◌≤◌, ◌-◌, sym, ap, subst, ◌∙◌}
use Rattle.std.specs.Prelude.{slice_get}
use Rattle.trfc_protocol.specs.Legal.{IsLegal}
use Rattle.trfc_protocol.specs.Worlds.{log_of, committed_unit}
use Rattle.system_tables.specs.Tables.{unit_numbered}
use Rattle.unit_landscape.proofs.PlaceLemmas.{unit-there, unit-nowhere}
use Rattle.unit_landscape.proofs.kept_world.KeptWorld.unit.Goals as goal

pub returns-in-Some : goal.returns-in-Some
returns-in-Some g c =
    let world = c.self.inside.both.world in
    let rules = g.R.Rules.meaning world.rules in
    let same : world ≡ c.args.self.now.world = ap (λ k. k.world) c.self.view_is in
    let at = c.get.ensures.number ∙ c.system-system.ensures in
    let least : 1 ≤ c.args.tid.system = subst (λ n. 1 ≤ n) c.system-system.ensures c.get.ensures.least in
    let legal = subst (λ w. IsLegal (g.R.Rules.meaning w.rules) c.args.tid.system (log_of w c.args.tid.system)) (sym same) c.requires in
    c.unit-in-Some.ensures
    ∙ ap (λ n. unit_numbered n c.in-Some.its.now.units) c.unit.ensures.number
    ∙ unit-there g.A.Application.stands rules (g.met.R.Rules.lawful world.rules) world c.self.inside.both.tables c.self.invariant.in_step c.args.tid least
    c.in-Some.its.now legal c.unit.ensures.least (ap (λ n. slice_get c.self.inside.both.tables (n - 1)) (sym at) ∙ sym c.in-Some.ensures)
    ∙ ap (λ w. committed_unit (g.R.Rules.meaning w.rules) w c.args.tid) same

pub returns-in-None : goal.returns-in-None
returns-in-None g c =
    let world = c.self.inside.both.world in
    let rules = g.R.Rules.meaning world.rules in
    let same : world ≡ c.args.self.now.world = ap (λ k. k.world) c.self.view_is in
    let at = c.get.ensures.number ∙ c.system-system.ensures in
    let least : 1 ≤ c.args.tid.system = subst (λ n. 1 ≤ n) c.system-system.ensures c.get.ensures.least in
    unit-nowhere g.A.Application.stands rules (g.met.R.Rules.lawful world.rules) world c.self.inside.both.tables c.self.invariant.in_step c.args.tid least
    (ap (λ n. slice_get c.self.inside.both.tables (n - 1)) (sym at) ∙ sym c.in-None.ensures)
    ∙ ap (λ w. committed_unit (g.R.Rules.meaning w.rules) w c.args.tid) same
