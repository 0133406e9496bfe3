use Rattle.std.specs.Prelude.{OnErr}
use Rattle.std.proofs.Common.{ap, Result, Ok, Err}
use Rattle.trfc_protocol.proofs.WorldLemmas.{slice_set-same}
use Rattle.trfc_protocol.proofs.world.World.open.Goals as goal

-- what holds anyhow holds after an Err
on_err : {T E P : Type 0} (r : Result T E) → P → OnErr r P
on_err (Ok v) p = tt
on_err (Err e) p = p

pub returns-in_err-open-clause-err : goal.returns-in_err-open-clause-err
returns-in_err-open-clause-err g c =
    on_err c.from_residual.result (ap (λ systems. record c.args.self.now { systems = systems })
    (slice_set-same c.args.self.now.systems _ c.at_mut.result.now c.open.new.self c.at_mut.ensures.value c.in_err-open.ensures.err))
