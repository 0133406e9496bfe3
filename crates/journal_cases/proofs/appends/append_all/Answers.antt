use Rattle.std.proofs.Common.{[], ◌∷◌, ◌++◌}
use Rattle.journal_cases.proofs.appends.append_all.Goals as goal

pub append-requires-clause-settled : goal.append-requires-clause-settled
append-requires-clause-settled g c = λ told. c.bodies.invariant told

pub bodies-preserved : goal.bodies-preserved
bodies-preserved g c = λ told.
    let was = c.bodies.invariant told in
    (was.0 ++ c.as_slice.result.now ∷ [], c.in-Ok.ensures.added told was.0 was.1)
