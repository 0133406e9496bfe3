use Rattle.std.proofs.Common.{ap, sym, subst}
use Rattle.unit_journal.specs.Looking.{is_found, system_of}
use Rattle.unit_landscape.specs.KeptWorlds.{KeptOf}
use Rattle.unit_landscape.specs.Reopening.{IsDown}
use Rattle.unit_landscape.proofs.InStepLemmas.{on_err}
use Rattle.unit_landscape.proofs.OpenedAgainLemmas.{is_down, landscape-entered, none-at}
use Rattle.unit_landscape.proofs.landscape.UnitLandscape.reopen.Goals as goal

pub reopen-requires-clause-free : goal.reopen-requires-clause-free
reopen-requires-clause-free g c =
    let world = c.self.inside.kept.world in
    let system = system_of c.args.looked in
    let down : IsDown world system =
    subst (λ (k : KeptOf g.row.R.Denot g.row.A.Denot g.row.V.Denot). IsDown k.world system) (sym c.self.view_is) c.requires.found.down in
    none-at (g.R.Rules.meaning world.rules) world system c.self.invariant.safe (is_down world system down)

pub invariant_of-self : goal.invariant_of-self
invariant_of-self g c =
    let kept = c.self.inside.kept in
    landscape-entered g.R.Rules.meaning g.met.R.Rules.lawful kept.world c.reopen.new.self.world c.reopen.result (is_found c.args.looked)
    (system_of c.args.looked) c.self.invariant c.reopen.ensures.world
    (on_err c.reopen.result c.reopen.ensures.err (ap (λ (k : KeptOf g.row.R.Denot g.row.A.Denot g.row.V.Denot). k.world)))
