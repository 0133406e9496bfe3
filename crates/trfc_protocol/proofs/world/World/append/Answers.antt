use Rattle.std.specs.Prelude.{OnErr}
use Rattle.std.proofs.Common.{ap, Result, Ok, Err}
use Rattle.trfc_protocol.proofs.WorldLemmas.{slice_set-same}
use Rattle.trfc_protocol.proofs.world.World.append.Goals as goal

-- what holds anyhow holds after an Err
on_err : {T E P : Type 0} (r : Result T E) → P → OnErr r P
on_err (Ok v) p = tt
on_err (Err e) p = p

pub returns-in_err-add-clause-err : goal.returns-in_err-add-clause-err
returns-in_err-add-clause-err g c =
    on_err c.from_residual.result (ap (λ systems. record c.args.self.now { systems = systems })
    (slice_set-same c.args.self.now.systems _ c.at_mut.result.now c.add.new.self c.at_mut.ensures.value c.in_err-add.ensures.err))
