use Rattle.std.proofs.Common.{Ok, ap, subst}
use Rattle.unit_landscape.specs.KeptWorlds.{KeptOf}
use Rattle.document_state.specs.declared.document_tables.DocumentTables.{DocumentTables}
use Rattle.document_state.specs.declared.model_rules.ModelRules.{ModelRules}
use Rattle.unit_works.specs.Works.{ClaimShippedAs}
use Rattle.drain_desk.specs.declared.work.Task.TheVariants.{Ship}
use Rattle.drain_desk.proofs.ToDoLemmas.{others-same}
use Rattle.drain_desk.proofs.ActingLemmas.{acted-none, acted-shipped, done-none, done-shipped, others-shipped}
use Rattle.drain_desk.proofs.acting.ship.Goals as goal

pub returns-in-Some-clause-acted : goal.returns-in-Some-clause-acted
returns-in-Some-clause-acted g c =
    acted-shipped g.V.Volumes.disk c.args.landscape.now c.ship_claimed.new.landscape c.args.wires.now c.ship_claimed.new.wires c.args.claim
    c.in-Some.finished c.requires.may
    (subst (λ found. ClaimShippedAs g.V.Volumes.disk c.args.landscape.now c.ship_claimed.new.landscape c.args.wires.now c.ship_claimed.new.wires
    c.args.claim (Ok found)) c.in-Some.is c.in_ok-finished.ensures)

pub returns-in-Some-clause-done : goal.returns-in-Some-clause-done
returns-in-Some-clause-done g c =
    done-shipped g.V.Volumes.disk c.args.landscape.now c.ship_claimed.new.landscape c.args.wires.now c.ship_claimed.new.wires c.args.claim
    c.in-Some.finished c.requires.may
    (subst (λ found. ClaimShippedAs g.V.Volumes.disk c.args.landscape.now c.ship_claimed.new.landscape c.args.wires.now c.ship_claimed.new.wires
    c.args.claim (Ok found)) c.in-Some.is c.in_ok-finished.ensures)

pub returns-in-None-clause-acted : goal.returns-in-None-clause-acted
returns-in-None-clause-acted g c =
    let none = subst (λ found. ClaimShippedAs g.V.Volumes.disk c.args.landscape.now c.ship_claimed.new.landscape c.args.wires.now
    c.ship_claimed.new.wires c.args.claim (Ok found)) c.in-None.is c.in_ok-finished.ensures in
    acted-none g.V.Volumes.disk c.args.landscape.now c.ship_claimed.new.landscape c.args.wires.now c.ship_claimed.new.wires none.0 none.1

pub returns-in-None-clause-done : goal.returns-in-None-clause-done
returns-in-None-clause-done g c =
    done-none g.V.Volumes.disk c.args.landscape.now c.ship_claimed.new.landscape c.args.wires.now c.ship_claimed.new.wires c.args.claim
    (subst (λ found. ClaimShippedAs g.V.Volumes.disk c.args.landscape.now c.ship_claimed.new.landscape c.args.wires.now c.ship_claimed.new.wires
    c.args.claim (Ok found)) c.in-None.is c.in_ok-finished.ensures)

pub returns-in-Some-clause-others : goal.returns-in-Some-clause-others
returns-in-Some-clause-others g c =
    others-shipped g.V.Volumes.disk c.args.landscape.now c.ship_claimed.new.landscape c.args.wires.now c.ship_claimed.new.wires c.args.claim
    c.in-Some.finished
    (subst (λ found. ClaimShippedAs g.V.Volumes.disk c.args.landscape.now c.ship_claimed.new.landscape c.args.wires.now c.ship_claimed.new.wires
    c.args.claim (Ok found)) c.in-Some.is c.in_ok-finished.ensures)

pub returns-in-None-clause-others : goal.returns-in-None-clause-others
returns-in-None-clause-others g c =
    let none = subst (λ found. ClaimShippedAs g.V.Volumes.disk c.args.landscape.now c.ship_claimed.new.landscape c.args.wires.now
    c.ship_claimed.new.wires c.args.claim (Ok found)) c.in-None.is c.in_ok-finished.ensures in
    others-same c.args.landscape.now.world c.ship_claimed.new.landscape.world (Ship c.args.claim)
    (ap (λ (k : KeptOf ModelRules DocumentTables g.row.V.Denot). k.world) none.0)
