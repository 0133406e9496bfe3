use Rattle.std.proofs.Common.{Some, sym, ap, ◌∙◌}
use Rattle.std.specs.Option.{option_copied}
use Rattle.unit_landscape.proofs.FinishingLemmas.{execute-appends, direct-appends}
use Rattle.unit_landscape.proofs.landscape.UnitLandscape.work_record.Goals as goal

pub returns-in-In-clause-appends : goal.returns-in-In-clause-appends
returns-in-In-clause-appends g c =
    execute-appends (g.R.Rules.meaning c.args.self.now.world.rules) (g.met.R.Rules.lawful c.args.self.now.world.rules) c.args.self.now.world
    c.world.ensures.safe.safe c.args.held
    c.requires.found c.in-In.is c.requires.offers

pub returns-in_ok-clone-in-Direct-clause-appends : goal.returns-in_ok-clone-in-Direct-clause-appends
returns-in_ok-clone-in-Direct-clause-appends g c =
    direct-appends (g.R.Rules.meaning c.args.self.now.world.rules) (g.met.R.Rules.lawful c.args.self.now.world.rules) c.args.self.now.world
    c.world.ensures.safe.safe c.args.held
    c.requires.found c.in-Direct.is c.in_ok-clone-in-Direct.field-0
    (sym c.unit.ensures ∙ ap option_copied c.in-Some.is ∙ ap Some (sym c.in_ok-clone-in-Direct.ensures.cases))
