-- A command that reads no file makes no call on the files.
use Rattle.std.proofs.Common.{◌≡◌, ◌≢◌, ℕ, Result, List}
use Rattle.ale_io.specs.Told.{Told}
use Rattle.ale_volumes.specs.Disk.{Disk}
use Rattle.script_text.specs.declared.form.Form.{Form}
use Rattle.script_text.specs.declared.form.Form.TheVariants as form
use Rattle.runs.specs.declared.answered.Answered.{Answered}
use Rattle.runs.specs.declared.halt.Halt.{Halt}
use Rattle.runs.specs.declared.inputs.Inputs.{Inputs}
use Rattle.runs.specs.declared.stage.Stage.{Stage}
use Rattle.runs.specs.Does.{Does, Done}

module _ {V : Type 0} (disk : Disk V) (inputs : Inputs) (before : Stage V) (answer : Result Answered Halt) (after : Stage V) (told : List ℕ → Told)
    (failed failed_after : ℕ) where
  pub done-unread : (asked : Form) → ((file : List ℕ) → asked ≢ form.Remodel file) → Does disk inputs before answer after asked → failed_after ≡ failed
      → Done disk inputs before answer after told failed failed_after asked
  done-unread (form.Remodel file) differs does still = absurd does
  done-unread _ differs does still = (does, still)
