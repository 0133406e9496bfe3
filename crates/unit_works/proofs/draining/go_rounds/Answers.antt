use Rattle.std.proofs.Common.{true, false, arith, inl, subst, refl}
use Rattle.unit_works.specs.Drained.{Found, IsIdle}
use Rattle.unit_works.specs.Events.{is_work}
use Rattle.unit_works.proofs.DrainedLemmas.{gone-on, gone-same, rounds-idle, rounds-short}
use Rattle.unit_works.proofs.WorkedLemmas.{on, part, still}
use Rattle.unit_works.proofs.WorkedLemmas.{gone-on as claims-on}
use Rattle.unit_works.proofs.draining.go_rounds.Goals as goal

pub returns-in_err-go_round-clause-gone : goal.returns-in_err-go_round-clause-gone
returns-in_err-go_round-clause-gone g c =
    let gone = c.loop-round.invariant.0 in
    let worked = gone.worked in
    rounds-short g.V.Volumes.disk c.args.landscape.now c.go_round.new.landscape c.args.wires.now c.go_round.new.wires c.from_residual.result
    c.from_residual.ensures.0
    (on g.V.Volumes.disk is_work false c.args.landscape.now c.loop-round.landscape c.go_round.new.landscape worked.went
    c.in_err-go_round.ensures.found)

pub returns-in-None-clause-gone : goal.returns-in-None-clause-gone
returns-in-None-clause-gone g c =
    rounds-idle g.V.Volumes.disk c.args.landscape.now c.loop-round.landscape c.go_round.new.landscape c.args.wires.now c.loop-round.wires
    c.go_round.new.wires c.loop-round.finished
    c.loop-round.invariant.0
    (subst (Found g.V.Volumes.disk c.loop-round.landscape c.loop-round.wires c.go_round.new.landscape c.go_round.new.wires 32
    (IsIdle c.loop-round.landscape.world)) c.in-None.is
    c.in_ok-go_round.ensures.found)

pub returns-in-None-clause-claims : goal.returns-in-None-clause-claims
returns-in-None-clause-claims g c =
    let found = subst (Found g.V.Volumes.disk c.loop-round.landscape c.loop-round.wires c.go_round.new.landscape c.go_round.new.wires 32
    (IsIdle c.loop-round.landscape.world))
    c.in-None.is c.in_ok-go_round.ensures.found in
    claims-on g.V.Volumes.disk is_work is_work true c.args.landscape.now c.loop-round.landscape c.go_round.new.landscape
    (let worked = (c.loop-round.invariant.0).worked in worked.went)
    (still g.V.Volumes.disk is_work true c.loop-round.landscape c.go_round.new.landscape found.0)
    c.args.landscape.now.world.claims c.loop-round.invariant.2 c.in_ok-go_round.ensures.claims

pub loop-round-preserved : goal.loop-round-preserved
loop-round-preserved g c =
    let found = subst (Found g.V.Volumes.disk c.loop-round.landscape c.loop-round.wires c.go_round.new.landscape c.go_round.new.wires 32
    (IsIdle c.loop-round.landscape.world))
    c.in-Some.is c.in_ok-go_round.ensures.found in (
      gone-on g.V.Volumes.disk c.args.landscape.now c.loop-round.landscape c.go_round.new.landscape c.args.wires.now c.loop-round.wires
          c.go_round.new.wires
          c.loop-round.finished c.in-Some.more c.loop-round.invariant.0 found.0,
      let below = c.loop-round.invariant.1 in let few = found.1 in omega arith,
      claims-on g.V.Volumes.disk is_work is_work true c.args.landscape.now c.loop-round.landscape c.go_round.new.landscape
          (let worked = (c.loop-round.invariant.0).worked in worked.went)
          (let worked = (found.0).worked in worked.went)
          c.args.landscape.now.world.claims c.loop-round.invariant.2 c.in_ok-go_round.ensures.claims,
    )

pub loop-round-init : goal.loop-round-init
loop-round-init g c =
    (gone-same g.V.Volumes.disk c.args.landscape.now c.args.landscape.now c.args.wires.now c.args.wires.now refl refl, omega arith, inl refl)

pub returns-clause-gone : goal.returns-clause-gone
returns-clause-gone g c =
    let gone = c.loop-round.invariant.0 in
    let worked = gone.worked in
    part g.V.Volumes.disk is_work c.args.landscape.now c.loop-round.landscape worked.went
