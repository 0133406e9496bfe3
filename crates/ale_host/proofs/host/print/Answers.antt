use Rattle.std.proofs.Common.{inr, refl}
use Rattle.ale_host.specs.declared.ending.Ending.TheVariants.{OutOfMemory}
use Rattle.ale_host.proofs.host.print.Goals as goal

pub returns-in-Err-clause-ended : goal.returns-in-Err-clause-ended
returns-in-Err-clause-ended g c = λ taken.
    let put = c.out_of_memory.ensures.ended taken in (OutOfMemory, inr refl, put.0, record { appends = put.1; quiet = put.2 })

pub returns-in-Err-clause-write_fault : goal.returns-in-Err-clause-write_fault
returns-in-Err-clause-write_fault g c = λ failed.
    let put = c.out_of_memory.ensures.write_fault failed in (OutOfMemory, inr refl, record { appends = put.1; rose = put.0 })
