-- The models of a log. The Genesis that begins it has the first one, and each Model record a further one, which is in force from
-- there on. A log has the texts of its models; who reads it hands in what they say, in order. This project's own.
use Rattle.std.specs.Prelude.{ℕ, zero, suc, List, Option, None, fold, slice_get}
use Rattle.unit_core.specs.declared.records.Record.{Record}
use Rattle.unit_core.specs.declared.records.Record.TheVariants.{Genesis, Model}

-- how many models a log has had, behind one more record
abbrev pub models_after : ℕ → Record → ℕ
models_after models (Genesis system text) = suc models
models_after models (Model text) = suc models
models_after models _ = models

-- how many models a log has
abbrev pub models_in : List Record → ℕ
models_in log = fold models_after 0 log

-- the system of a log behind one more record: the one that the Genesis of its first model names
abbrev pub system_after : ℕ → ℕ → Record → ℕ
system_after zero before (Genesis system text) = system
system_after models before _ = before

-- of these models, the one that is in force behind so many: the last of them
abbrev pub in_force : {M : Type 0} → List M → ℕ → Option M
in_force models zero = None
in_force models (suc last) = slice_get models last
