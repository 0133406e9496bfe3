use Rattle.std.proofs.Common.{◌≡◌, ◌+◌, false, inl, refl, arith}
use Rattle.ale_base.specs.Tid.{TidOf}
use Rattle.unit_works.specs.Events.{is_work}
use Rattle.unit_works.specs.Rounds.{IsTo}
use Rattle.unit_works.proofs.DrainedLemmas.{visited-among, visited-claims, visited-none, visited-on, visited-short, within-more, within-still}
use Rattle.unit_works.proofs.WorkedLemmas.{on}
use Rattle.unit_works.proofs.draining.confirm_all.Goals as goal

pub returns-in_err-confirm_at-clause-visited : goal.returns-in_err-confirm_at-clause-visited
returns-in_err-confirm_at-clause-visited g c =
    let worked = (c.loop-number.invariant.0).worked in
    visited-short g.V.Volumes.disk c.args.landscape.now c.confirm_at.new.landscape c.args.wires.now c.confirm_at.new.wires (IsTo 16)
    c.from_residual.result c.from_residual.ensures.0
    (on g.V.Volumes.disk is_work false c.args.landscape.now c.loop-number.landscape c.confirm_at.new.landscape worked.went c.in_err-confirm_at.ensures.visited)

pub loop-number-preserved : goal.loop-number-preserved
loop-number-preserved g c = (
  visited-on g.V.Volumes.disk c.args.landscape.now c.loop-number.landscape c.confirm_at.new.landscape c.args.wires.now c.loop-number.wires
      c.confirm_at.new.wires (IsTo c.loop-number.number) (λ (other : TidOf). other.system ≡ c.in-Some.system) (IsTo (c.loop-number.number + 1))
      (λ tid within. within-more c.loop-number.number c.in-Some.system tid c.in-Some.ensures.found within)
      (λ tid either. within-still c.loop-number.number c.in-Some.system tid c.in-Some.ensures.found either)
      (λ tid within here. let most = within.1 in let next = c.in-Some.ensures.found in absurd (omega arith)) c.loop-number.invariant.0
      c.in_ok-confirm_at.ensures.visited,
  visited-claims g.V.Volumes.disk c.args.landscape.now c.loop-number.landscape c.confirm_at.new.landscape c.args.wires.now c.loop-number.wires
      c.confirm_at.new.wires (IsTo c.loop-number.number) (λ (other : TidOf). other.system ≡ c.in-Some.system) c.loop-number.invariant.0
      c.in_ok-confirm_at.ensures.visited c.loop-number.invariant.1 c.in_ok-confirm_at.ensures.claims,
)

pub loop-number-init : goal.loop-number-init
loop-number-init g c = (
  visited-none g.V.Volumes.disk c.args.landscape.now c.args.landscape.now c.args.wires.now c.args.wires.now (IsTo 0) refl refl
      (λ unit within named due. let least = within.0 in let most = within.1 in absurd (omega arith)),
  inl refl,
)

pub returns-clause-claims : goal.returns-clause-claims
returns-clause-claims g c = c.loop-number.invariant.1

pub returns-clause-visited : goal.returns-clause-visited
returns-clause-visited g c =
    visited-among g.V.Volumes.disk c.args.landscape.now c.loop-number.landscape c.args.wires.now c.loop-number.wires (IsTo c.loop-number.number) (IsTo 16)
    (λ unit within named due. let most = within.1 in let end = c.loop-number-test.false in (within.0, omega arith))
    (λ tid range within. (range.system_least, range.system_most)) c.loop-number.invariant.0
