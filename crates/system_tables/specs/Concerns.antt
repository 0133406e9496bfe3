-- Which records say something to an application.
use Rattle.std.specs.Prelude.{Bool, true, false}
use Rattle.unit_core.specs.declared.records.Record.{Record}
use Rattle.unit_core.specs.declared.records.Record.TheVariants.{Mark, Done, Ended, Accept, Fail, Forget, Stop, Start, Retry}

-- whether a record says something of documents, objects or the model: all do but those of the protocol that execute no unit, and
-- those of an operator
abbrev pub concerns_application : Record → Bool
concerns_application (Mark tid cause) = false
concerns_application (Done tid) = false
concerns_application (Ended tid) = false
concerns_application (Accept unit) = false
concerns_application (Fail tid) = false
concerns_application (Forget tid) = false
concerns_application (Stop way destination name) = false
concerns_application (Start way destination name) = false
concerns_application (Retry way tid) = false
concerns_application _ = true
