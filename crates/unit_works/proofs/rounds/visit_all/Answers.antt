use Rattle.std.proofs.Common.{true, false, ◌+◌, ◌*◌, arith, sym, subst}
use Rattle.unit_landscape.specs.KeptWorlds.{KeptOf}
use Rattle.document_state.specs.declared.document_tables.DocumentTables.{DocumentTables}
use Rattle.document_state.specs.declared.model_rules.ModelRules.{ModelRules}
use Rattle.unit_works.specs.Drained.{Found}
use Rattle.unit_works.specs.Events.{is_work}
use Rattle.unit_works.specs.steps.Rounds.{NothingAt, NothingTo, joined}
use Rattle.unit_works.proofs.DrainedLemmas.{found-on, found-short, found-weaker, found-went, nothing-more}
use Rattle.unit_works.proofs.WorkedLemmas.{on}
use Rattle.unit_works.proofs.WorkedLemmas.{gone-on as claims-on}
use Rattle.unit_works.proofs.rounds.visit_all.Goals as goal

pub returns-in_err-here-clause-found : goal.returns-in_err-here-clause-found
returns-in_err-here-clause-found g c =
    let before = c.args.landscape.now in
    let between = c.loop-number.landscape in
    let after = c.visit.new.landscape in
    let lines = c.args.wires.now in
    found-short g.V.Volumes.disk before after lines c.visit.new.wires 32 (NothingTo before.world 16) c.from_residual.result c.from_residual.ensures.0
    (on g.V.Volumes.disk is_work false before between after
    (found-went g.V.Volumes.disk before between lines c.loop-number.wires (2 * c.loop-number.number) (NothingTo before.world c.loop-number.number)
    c.loop-number.found c.loop-number.invariant.0)
    c.in_err-here.ensures.found)

pub loop-number-preserved : goal.loop-number-preserved
loop-number-preserved g c =
    let before = c.args.landscape.now in
    let between = c.loop-number.landscape in
    let after = c.visit.new.landscape in
    let lines = c.args.wires.now in
    let number = c.loop-number.number in
    let system = c.in-Some.system in (
      subst (Found g.V.Volumes.disk before lines after c.visit.new.wires (2 * (number + 1)) (NothingTo before.world (number + 1))) (sym c.joined-found.ensures)
          (found-weaker g.V.Volumes.disk before after lines c.visit.new.wires (2 * number + 2) (2 * (number + 1))
          (NothingTo before.world number × NothingAt before.world system)
          (NothingTo before.world (number + 1)) (joined c.loop-number.found c.in_ok-here.here) (omega arith)
          (nothing-more before.world number system c.in-Some.ensures.found)
          (found-on g.V.Volumes.disk before between after lines c.loop-number.wires c.visit.new.wires (2 * number) 2 (NothingTo before.world number)
          (λ (k : KeptOf ModelRules DocumentTables g.row.V.Denot). NothingAt k.world system) c.loop-number.found c.in_ok-here.here c.loop-number.invariant.0
          c.in_ok-here.ensures.found)),
      claims-on g.V.Volumes.disk is_work is_work true before between after
          (found-went g.V.Volumes.disk before between lines c.loop-number.wires (2 * number) (NothingTo before.world number) c.loop-number.found
          c.loop-number.invariant.0)
          (found-went g.V.Volumes.disk between after c.loop-number.wires c.visit.new.wires 2 (NothingAt between.world system) c.in_ok-here.here
          c.in_ok-here.ensures.found)
          before.world.claims c.loop-number.invariant.1 c.in_ok-here.ensures.claims,
    )
