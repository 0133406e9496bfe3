-- What is printed of journals that are refused: the system, the place or the record in its journal, and why.
use Rattle.dist_model.specs.Named.{system_name}
use Rattle.dist_model.specs.declared.lists.Lists.{Lists}
use Rattle.landscape.specs.declared.open_end.Refused.{Refused}
use Rattle.landscape.specs.declared.open_end.Refused.TheVariants.{Damaged, Unread, Bad, Breach}
use Rattle.log_reading.specs.declared.bad.Cause.{Cause as BadBy}
use Rattle.log_reading.specs.declared.bad.Cause.TheVariants.{System, Model, Illegal}
use Rattle.once_check.specs.declared.breach.Clause.{Clause}
use Rattle.once_check.specs.declared.breach.Clause.TheVariants.{WasCommitted, InOrder, WasTaken, WasDone, WasForgotten}
use Rattle.report_text.specs.declared.faults.FaultLine.{FaultLine}
use Rattle.report_text.specs.declared.faults.FaultLine.TheVariants.{Journals}
use Rattle.status_log.specs.declared.cause.Cause.{Cause}
use Rattle.status_log.specs.declared.cause.Cause.TheVariants as cause

-- why a record is bad, as it is told
abbrev pub cause_of_bad : BadBy → Cause
cause_of_bad (System kept expected) = cause.System kept expected
cause_of_bad (Model place) = cause.Model place
cause_of_bad Illegal = cause.Illegal

-- the clause of the exactly-once law that a record breaks, by its letter
abbrev pub cause_of_breach : Clause → Cause
cause_of_breach WasCommitted = cause.OnceB
cause_of_breach InOrder = cause.OnceC
cause_of_breach WasTaken = cause.OnceE
cause_of_breach WasDone = cause.OnceF
cause_of_breach WasForgotten = cause.OnceG

-- the last line of a run whose journals are refused
abbrev pub refusal_of : Lists → Refused → FaultLine
refusal_of model (Damaged system place) = Journals (system_name model system) place cause.Damaged
refusal_of model (Unread system number) = Journals (system_name model system) number cause.Unread
refusal_of model (Bad system bad) = Journals (system_name model system) bad.number (cause_of_bad bad.cause)
refusal_of model (Breach breach) = Journals (system_name model breach.system) breach.number (cause_of_breach breach.clause)
