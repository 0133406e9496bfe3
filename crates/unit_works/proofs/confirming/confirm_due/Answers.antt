use Rattle.std.proofs.Common.{◌≡◌, Some, inl, refl, subst}
use Rattle.ale_base.specs.Tid.{TidOf}
use Rattle.trfc_protocol.specs.Worlds.{committed_unit}
use Rattle.unit_works.proofs.DrainedLemmas.{taken-one, visited-confirmed, visited-none}
use Rattle.unit_works.proofs.WorkedLemmas.{ended-claims, meaning}
use Rattle.unit_works.proofs.confirming.confirm_due.Goals as goal

pub returns-clause-worked : goal.returns-clause-worked
returns-clause-worked g c =
    visited-confirmed g.V.Volumes.disk c.args.landscape.now c.confirm_sent.new.landscape c.args.wires.now c.take-letter.new.self c.confirm_sent.result
    c.world.ensures.safe c.confirm_sent.ensures.went c.confirm_sent.ensures.ended
    (taken-one c.args.tid c.args.wires.now c.take-letter.new.self c.take-letter.ensures.rest)
    c.args.tid c.take-letter.result c.take-letter.ensures.letter c.take-letter.ensures.rest (c.is_due.ensures.due c.if-not-is_due.false)
    c.confirm_sent.ensures.due

pub returns-then-not-is_due-clause-worked : goal.returns-then-not-is_due-clause-worked
returns-then-not-is_due-clause-worked g c =
    visited-none g.V.Volumes.disk c.args.landscape.now c.args.landscape.now c.args.wires.now c.args.wires.now (λ (other : TidOf). other ≡ c.args.tid)
    refl refl
    (λ unit its named due. c.is_due.ensures.other c.if-not-is_due.true unit
    (subst (λ t. committed_unit (meaning c.args.landscape.now.world.rules) c.args.landscape.now.world t ≡ Some unit) its named) due)

pub returns-clause-claims : goal.returns-clause-claims
returns-clause-claims g c =
    ended-claims g.V.Volumes.disk c.args.landscape.now c.confirm_sent.new.landscape c.confirm_sent.result c.confirm_sent.ensures.ended

pub returns-then-not-is_due-clause-claims : goal.returns-then-not-is_due-clause-claims
returns-then-not-is_due-clause-claims g c = inl refl
