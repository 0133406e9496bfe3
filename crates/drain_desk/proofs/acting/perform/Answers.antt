use Rattle.std.proofs.Common.{OnOk, sym, subst}
use Rattle.drain_desk.specs.declared.work.Task.{Task}
use Rattle.drain_desk.specs.ToDo.{OthersStay}
use Rattle.drain_desk.proofs.acting.perform.Goals as goal

pub returns-in-Ship-clause-others : goal.returns-in-Ship-clause-others
returns-in-Ship-clause-others g c =
    subst (λ (task : Task). OnOk c.ship.result (OthersStay c.args.landscape.now.world c.ship.new.landscape.world task)) (sym c.in-Ship.is) c.ship.ensures.others

pub returns-in-Execute-clause-others : goal.returns-in-Execute-clause-others
returns-in-Execute-clause-others g c =
    subst (λ (task : Task). OnOk c.execute.result (OthersStay c.args.landscape.now.world c.execute.new.landscape.world task)) (sym c.in-Execute.is) c.execute.ensures.others
