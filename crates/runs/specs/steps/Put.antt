-- What was put of a command, and of a run.
use Rattle.std.specs.Prelude.{◌≡◌, ℕ, List, [], ◌∷◌, ◌++◌, Option, Some, None, Result, Ok, Err}
use Rattle.ale_io.specs.Told.{Told}
use Rattle.ale_volumes.specs.Disk.{Disk}
use Rattle.script_text.specs.declared.command.Command.{Command}
use Rattle.runs.specs.declared.answered.Answered.{Answered}
use Rattle.runs.specs.declared.halt.Halt.{Halt}
use Rattle.runs.specs.declared.halt.Halt.TheVariants as halt
use Rattle.runs.specs.declared.inputs.Inputs.{Inputs}
use Rattle.runs.specs.declared.run_end.RunEnd.{RunEnd}
use Rattle.runs.specs.declared.run_end.RunEnd.TheVariants as end
use Rattle.runs.specs.declared.stage.Stage.{Stage}
use Rattle.runs.specs.declared.turns.TurnEnd.{TurnEnd}
use Rattle.runs.specs.declared.turns.TurnEnd.TheVariants as turn
use Rattle.runs.specs.Does.{IsCarriedOut}
use Rattle.runs.specs.Turns.{at_moment}
use Rattle.runs.specs.Text.{shown}
use Rattle.runs.specs.Put.{IsPart, IsPut}
use Rattle.runs.specs.steps.Keeping.{KeepsFree}

-- how a command ends that is not answered
abbrev pub halted_as : Halt → TurnEnd
halted_as (halt.Changed system number) = turn.Changed system number
halted_as halt.OutOfMemory = turn.OutOfMemory

-- the text of an answer was put, whole or in part; or there was no answer, or no memory for its text, and nothing was put
abbrev pub IsReported : TurnEnd → Result Answered Halt → (Answered → List ℕ) → Option (List ℕ) → Option (List ℕ) → ℕ → ℕ → Type 0
IsReported turn.Done answer text old new faults faults_after =
    (answered : Answered) × (answer ≡ Ok answered) × IsPut old new faults faults_after (text answered)
IsReported turn.WriteFailed answer text old new faults faults_after =
    (answered : Answered) × (answer ≡ Ok answered) × IsPart old new faults faults_after (text answered)
IsReported (turn.Changed system number) answer text old new faults faults_after =
    (answer ≡ Err (halt.Changed system number)) × IsPut old new faults faults_after []
IsReported turn.OutOfMemory answer text old new faults faults_after = IsPut old new faults faults_after []

module _ {V : Type 0} (disk : Disk V) (inputs : Inputs) (told : List ℕ → Told) (failed failed_after : ℕ) where
  -- what a command did that began at a moment, what was put of it, and that it kept units free
  abbrev pub IsTurn : TurnEnd → ℕ → Command → Stage V → Stage V → Option (List ℕ) → Option (List ℕ) → ℕ → ℕ → Type 0
  IsTurn turn.Done moment command before after old new put put_after =
      (answered : Answered) × IsCarriedOut disk inputs (at_moment moment before) (Ok answered) after told failed failed_after command.form
      × IsPut old new put put_after (shown command answered after) × KeepsFree before after command.form
  IsTurn turn.WriteFailed moment command before after old new put put_after =
      (answered : Answered) × IsCarriedOut disk inputs (at_moment moment before) (Ok answered) after told failed failed_after command.form
      × IsPart old new put put_after (shown command answered after) × KeepsFree before after command.form
  IsTurn (turn.Changed system number) moment command before after old new put put_after =
      IsCarriedOut disk inputs (at_moment moment before) (Err (halt.Changed system number)) after told failed failed_after command.form
      × IsPut old new put put_after []
  IsTurn turn.OutOfMemory moment command before after old new put put_after =
      (answer : Result Answered Halt) × IsCarriedOut disk inputs (at_moment moment before) answer after told failed failed_after command.form
      × IsPut old new put put_after []

-- the ending behind the last command, by the first system that is down by a fault of its volume, and the first since a record did not fit;
-- the journal of that would have been so long
abbrev pub last_end_of : (ℕ → ℕ) → Option ℕ → Option ℕ → RunEnd
last_end_of size (Some system) overran = end.DownByFault system
last_end_of size None (Some system) = end.DownFull system (size system)
last_end_of size None None = end.Whole

-- the ending behind a command that ended so, if it ends the run
abbrev pub end_behind : TurnEnd → Option RunEnd
end_behind turn.Done = None
end_behind turn.WriteFailed = Some end.WriteFailed
end_behind (turn.Changed system number) = Some (end.Changed system number)
end_behind turn.OutOfMemory = Some end.OutOfMemory

-- a clock, where it tells what it gave, gave this moment
abbrev pub GivesOne : Type 0 → List ℕ → List ℕ → ℕ → Type 0
GivesOne told before after moment = told → after ≡ before ++ moment ∷ []
