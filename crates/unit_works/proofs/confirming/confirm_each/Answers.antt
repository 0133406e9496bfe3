use Rattle.std.proofs.Common.{◌≡◌, ◌+◌, ◌∙◌, ap, false, true, inl, refl, subst, sym, take}
use Rattle.std.proofs.lemmas.Bool.{both_ways}
use Rattle.std.proofs.lemmas.List.{take_all}
use Rattle.ale_base.specs.Tid.{TidOf}
use Rattle.unit_core.specs.Queues.{is_listed}
use Rattle.unit_works.specs.Events.{is_work}
use Rattle.unit_works.proofs.DrainedLemmas.{apart-before, listed-next, listed-still, visited-among, visited-claims, visited-none, visited-on, visited-short}
use Rattle.unit_works.proofs.WorkedLemmas.{on}
use Rattle.unit_works.proofs.confirming.confirm_each.Goals as goal

pub returns-in_err-confirm_due-clause-visited : goal.returns-in_err-confirm_due-clause-visited
returns-in_err-confirm_due-clause-visited g c =
    let worked = (c.loop-tid.invariant.0).worked in
    visited-short g.V.Volumes.disk c.args.landscape.now c.confirm_due.new.landscape c.args.wires.now c.confirm_due.new.wires
    (λ (other : TidOf). is_listed other c.args.tids.now ≡ true) c.from_residual.result c.from_residual.ensures.0
    (on g.V.Volumes.disk is_work false c.args.landscape.now c.loop-tid.landscape c.confirm_due.new.landscape worked.went
    c.in_err-confirm_due.ensures.worked)

pub loop-tid-init : goal.loop-tid-init
loop-tid-init g c = (
  visited-none g.V.Volumes.disk c.args.landscape.now c.args.landscape.now c.args.wires.now c.args.wires.now
      (λ (other : TidOf). is_listed other (take 0 c.args.tids.now) ≡ true) refl refl (λ unit none named due. cc),
  inl refl,
)

pub loop-tid-preserved : goal.loop-tid-preserved
loop-tid-preserved g c =
    let at = c.loop-tid.tid-index in (
      visited-on g.V.Volumes.disk c.args.landscape.now c.loop-tid.landscape c.confirm_due.new.landscape c.args.wires.now c.loop-tid.wires
          c.confirm_due.new.wires (λ (other : TidOf). is_listed other (take at c.args.tids.now) ≡ true) (λ (other : TidOf). other ≡ c.tid-item.result)
          (λ (other : TidOf). is_listed other (take (at + 1) c.args.tids.now) ≡ true)
          (λ other listed. listed-next c.args.tids.now at c.tid-item.result other c.loop-tid-test.true c.tid-item.is listed)
          (λ other either. listed-still c.args.tids.now at c.tid-item.result other c.loop-tid-test.true c.tid-item.is either)
          (λ other listed same. both_ways (is_listed other (take at c.args.tids.now))
          (subst (λ (t : TidOf). is_listed t (take at c.args.tids.now) ≡ false) (sym same)
          (apart-before c.args.tids.now at c.tid-item.result c.loop-tid-test.true c.tid-item.is c.requires.apart)) listed)
          c.loop-tid.invariant.0
          c.in_ok-confirm_due.ensures.worked,
      visited-claims g.V.Volumes.disk c.args.landscape.now c.loop-tid.landscape c.confirm_due.new.landscape c.args.wires.now c.loop-tid.wires
          c.confirm_due.new.wires (λ (other : TidOf). is_listed other (take at c.args.tids.now) ≡ true) (λ (other : TidOf). other ≡ c.tid-item.result)
          c.loop-tid.invariant.0 c.in_ok-confirm_due.ensures.worked c.loop-tid.invariant.1 c.in_ok-confirm_due.ensures.claims,
    )

pub returns-clause-claims : goal.returns-clause-claims
returns-clause-claims g c = c.loop-tid.invariant.1

pub returns-clause-visited : goal.returns-clause-visited
returns-clause-visited g c =
    visited-among g.V.Volumes.disk c.args.landscape.now c.loop-tid.landscape c.args.wires.now c.loop-tid.wires
    (λ (other : TidOf). is_listed other (take c.loop-tid.tid-index c.args.tids.now) ≡ true) (λ (other : TidOf). is_listed other c.args.tids.now ≡ true)
    (λ unit listed named due.
    ap (is_listed unit.tid) (take_all c.loop-tid.tid-index c.args.tids.now c.loop-tid-test.false) ∙ listed)
    (λ other range listed.
    sym (ap (is_listed other) (take_all c.loop-tid.tid-index c.args.tids.now c.loop-tid-test.false)) ∙ listed) c.loop-tid.invariant.0
