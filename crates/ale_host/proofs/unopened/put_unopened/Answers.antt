use Rattle.std.proofs.Common.{refl, sym, subst}
use Rattle.landscape.specs.declared.open_end.OpenWhy.{OpenWhy}
use Rattle.report_text.specs.FaultLine.{fault_line}
use Rattle.report_text.specs.declared.faults.FaultLine.TheVariants.{Volumes}
use Rattle.ale_host.specs.Running.{EndsUnopened, short_line}
use Rattle.ale_host.proofs.unopened.put_unopened.Goals as goal

pub returns-in-Volume-clause-write_fault : goal.returns-in-Volume-clause-write_fault
returns-in-Volume-clause-write_fault g c = λ is_6.
    let part = c.put.ensures.write_fault is_6 in (
      8,
      (
        fault_line Volumes,
        subst (λ (why : OpenWhy). EndsUnopened c.args.model.now why 8 (fault_line Volumes)) (sym c.in-Volume.is) (refl, refl),
        record { appends = part.1; rose = part.0 },
      ),
    )

pub returns-in-OutOfMemory-clause-write_fault : goal.returns-in-OutOfMemory-clause-write_fault
returns-in-OutOfMemory-clause-write_fault g c = λ is_6.
    let part = c.put-in-OutOfMemory.ensures.write_fault is_6 in (
      9,
      (
        short_line,
        subst (λ (why : OpenWhy). EndsUnopened c.args.model.now why 9 short_line) (sym c.in-OutOfMemory.is) (refl, refl),
        record { appends = part.1; rose = part.0 },
      ),
    )
