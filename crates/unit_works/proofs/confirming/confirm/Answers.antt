use Rattle.std.proofs.Common.{true, false, refl}
use Rattle.std.proofs.lemmas.Bool.{both_ways}
use Rattle.unit_works.specs.Events.{is_confirmation}
use Rattle.unit_works.proofs.TripLemmas.{done-of}
use Rattle.unit_works.proofs.WorkedLemmas.{still}
use Rattle.unit_works.proofs.confirming.confirm.Goals as goal

pub returns-then-not-is_due-clause-went : goal.returns-then-not-is_due-clause-went
returns-then-not-is_due-clause-went g c = still g.V.Volumes.disk is_confirmation true c.args.landscape.now c.args.landscape.now refl

pub returns-then-not-is_due-clause-due : goal.returns-then-not-is_due-clause-due
returns-then-not-is_due-clause-due g c = λ unit named due. absurd (c.is_due.ensures.other c.if-not-is_due.true unit named due)

pub returns-clause-same : goal.returns-clause-same
returns-clause-same g c = λ not_so. absurd (both_ways _ not_so (c.is_due.ensures.sender c.if-not-is_due.false))

pub returns-clause-none : goal.returns-clause-none
returns-clause-none g c = λ none. absurd (none (c.is_due.ensures.due c.if-not-is_due.false))

pub confirm_done-requires : goal.confirm_done-requires
confirm_done-requires g c = record { done = done-of c.args.landscape.now.world c.args.tid (c.is_due.ensures.sender c.if-not-is_due.false) }
