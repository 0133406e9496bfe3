use Rattle.std.proofs.Common.{true, refl, sym, inl, ◌∙◌}
use Rattle.unit_core.specs.declared.ale_unit.AleUnit.{AleUnit}
use Rattle.trfc_protocol.specs.Worlds.{committed_unit}
use Rattle.unit_works.specs.Events.{is_delivery, is_fall}
use Rattle.unit_works.proofs.FellingLemmas.{fall-known, fall-off, fall-on}
use Rattle.unit_works.proofs.WorkedLemmas.{fall-delivers, meaning, still, wider}
use Rattle.unit_works.proofs.felling.fall_under.Goals as goal

pub returns-then-not-falls_under-clause-went : goal.returns-then-not-falls_under-clause-went
returns-then-not-falls_under-clause-went g c =
    still g.V.Volumes.disk (is_delivery c.args.letter) true c.args.landscape.now c.args.landscape.now refl

pub returns-then-not-falls_under-clause-claims : goal.returns-then-not-falls_under-clause-claims
returns-then-not-falls_under-clause-claims g c = inl refl

pub returns-then-not-falls_under-clause-fell : goal.returns-then-not-falls_under-clause-fell
returns-then-not-falls_under-clause-fell g c = λ unit named.
    fall-off c.args.letter unit c.args.landscape.now (sym c.falls_under.ensures ∙ c.if-not-falls_under.true)

pub returns-in-Some-clause-went : goal.returns-in-Some-clause-went
returns-in-Some-clause-went g c =
    wider g.V.Volumes.disk is_fall (is_delivery c.args.letter) true c.args.landscape.now c.fall.new.landscape (fall-delivers c.args.letter)
    c.fall.ensures.went

pub returns-in-Some-clause-fell : goal.returns-in-Some-clause-fell
returns-in-Some-clause-fell g c = λ unit named.
    fall-on c.args.letter unit c.args.landscape.now c.fall.new.landscape c.in-Some.receiver
    (committed_unit (meaning c.args.landscape.now.world.rules) c.args.landscape.now.world c.args.tid) c.receiver_of.result
    (sym c.falls_under.ensures ∙ c.if-not-falls_under.false) c.receiver_of.ensures c.in-Some.is named c.fall.ensures.fell

pub returns-in-None-clause-went : goal.returns-in-None-clause-went
returns-in-None-clause-went g c =
    still g.V.Volumes.disk (is_delivery c.args.letter) true c.args.landscape.now c.args.landscape.now refl

pub returns-in-None-clause-claims : goal.returns-in-None-clause-claims
returns-in-None-clause-claims g c = inl refl

pub returns-in-None-clause-fell : goal.returns-in-None-clause-fell
returns-in-None-clause-fell g c = λ unit named.
    absurd (fall-known unit (committed_unit (meaning c.args.landscape.now.world.rules) c.args.landscape.now.world c.args.tid) c.receiver_of.result
    c.receiver_of.ensures c.in-None.is named)
