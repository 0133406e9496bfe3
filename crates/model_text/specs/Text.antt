-- What the bytes of a text say: a model, or the first fault.
use Rattle.std.specs.Prelude.{◌≡◌, ℕ, List, Option, Some, None, Result, Ok, Err, if◌then◌else◌}
use Rattle.std.specs.Str.{is_utf8}
use Rattle.toml.specs.Parse.{parse_document}
use Rattle.toml.specs.Data.{Members}
use Rattle.model_keys.specs.declared.finding.Finding.{Finding}
use Rattle.model_keys.specs.declared.finding.Cause.{Cause}
use Rattle.model_keys.specs.declared.finding.Cause.TheVariants as causes
use Rattle.model_keys.specs.declared.finding.ReadError.{ReadError}
use Rattle.model_keys.specs.declared.finding.ReadError.TheVariants as errors
use Rattle.dist_model.specs.declared.lists.Lists.{Lists}
use Rattle.model_text.specs.declared.fault.ModelFault.{ModelFault}
use Rattle.model_text.specs.declared.fault.ModelFault.TheVariants.{Toml, Missing, Unknown, Wrong, Twice, Limit, MandatoryRemoved, NoVersion, OutOfMemory}
use Rattle.model_text.specs.Model.{model_of}

-- the fault of a cause at a path
abbrev pub fault_at : Cause → List ℕ → ModelFault
fault_at causes.Missing path = Missing path
fault_at causes.Unknown path = Unknown path
fault_at causes.Wrong path = Wrong path
fault_at causes.Twice path = Twice path
fault_at causes.Limit path = Limit path
fault_at causes.MandatoryRemoved path = MandatoryRemoved path
fault_at causes.NoVersion path = NoVersion path

-- the fault of an error
abbrev pub fault_of : ReadError → ModelFault
fault_of errors.Memory = OutOfMemory
fault_of (errors.Found finding) = fault_at finding.cause finding.path

-- the answer that a reading of the whole is: its model, or the fault of its first finding
abbrev pub answer : Result Lists Finding → Result Lists ModelFault
answer (Ok model) = Ok model
answer (Err finding) = Err (fault_at finding.cause finding.path)

-- the answer to a text that was parsed, or was not
abbrev pub answer_of_table : Option Members → Result Lists ModelFault
answer_of_table None = Err Toml
answer_of_table (Some table) = answer (model_of table)

-- the answer to a text of these bytes
abbrev pub answer_to : List ℕ → Result Lists ModelFault
answer_to bytes = answer_of_table (if is_utf8 bytes then parse_document bytes else None)

-- what was answered is what the bytes say, unless memory ran out
abbrev pub Reads : Result Lists ModelFault → List ℕ → Type 0
Reads (Err OutOfMemory) bytes = Unit {0}
Reads (Ok model) bytes = answer_to bytes ≡ Ok model
Reads (Err fault) bytes = answer_to bytes ≡ Err fault
