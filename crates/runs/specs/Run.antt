-- A run of a script: a list of turns, in each of which a command does what it asks for; and why the run ends. This project's own.
use Rattle.std.specs.Prelude.{◌≡◌, ⊤, ℕ, List, [], ◌∷◌, ◌++◌, Some, None, Result, Ok, Err}
use Rattle.ale_io.specs.Told.{Told}
use Rattle.ale_volumes.specs.Disk.{Disk}
use Rattle.landscape.specs.Crashes.{GoesSoundly, LeavesSoundLogs}
use Rattle.script_text.specs.declared.command.Command.{Command}
use Rattle.runs.specs.declared.answered.Answered.{Answered}
use Rattle.runs.specs.declared.halt.Halt.{Halt}
use Rattle.runs.specs.declared.halt.Halt.TheVariants as halt
use Rattle.runs.specs.declared.inputs.Inputs.{Inputs}
use Rattle.runs.specs.declared.run_end.RunEnd.{RunEnd}
use Rattle.runs.specs.declared.run_end.RunEnd.TheVariants.{Whole, DownByFault, DownFull, Changed, WriteFailed, OutOfMemory}
use Rattle.runs.specs.declared.stage.Stage.{Stage}
use Rattle.runs.specs.Complete.{IsComplete}
use Rattle.runs.specs.Does.{IsCarriedOut}
use Rattle.runs.specs.Turns.{Turn, at_moment, commands_of, first_faulted, first_overran, last_failed, last_stage, length_at, moments_of}

module _ {V : Type 0} (disk : Disk V) (inputs : Inputs) (files : List ℕ → Told) where
  -- each command does what it asks for, where the one before it left off; so many calls on the files had failed before the first
  abbrev pub Follow : Stage V → ℕ → List (Turn V) → Type 0
  Follow before failed [] = ⊤
  Follow before failed (turn ∷ turns) =
      IsCarriedOut disk inputs (at_moment turn.moment before) (Ok turn.answered) turn.after files failed turn.failed turn.command.form
      × Follow turn.after turn.failed turns

  module _ (failed failed_after : ℕ) where
    -- a command that began at a moment did what it asked for, and memory ran out in it or behind it
    abbrev pub IsHalted : List Command → ℕ → Stage V → Stage V → Type 0
    IsHalted [] moment before after = ⊥
    IsHalted (command ∷ commands) moment before after =
        (answer : Result Answered Halt) × IsCarriedOut disk inputs (at_moment moment before) answer after files failed failed_after command.form

    -- a command that began at a moment did what it asked for, and found at this system another log than was kept
    abbrev pub FindsChanged : List Command → ℕ → Stage V → Stage V → ℕ → ℕ → Type 0
    FindsChanged [] moment before after system number = ⊥
    FindsChanged (command ∷ commands) moment before after system number =
        IsCarriedOut disk inputs (at_moment moment before) (Err (halt.Changed system number)) after files failed failed_after command.form

    -- Why a run ends so behind these turns, with these commands left; the moment of a command that was not answered is kept, and else none is.
    -- So many calls on the files had failed behind the turns and at the end.
    abbrev pub Ends : RunEnd → List Command → List ℕ → Stage V → List (Turn V) → Stage V → Type 0
    Ends Whole left halted before turns after = (halted ≡ []) × (left ≡ []) × (failed_after ≡ failed) × (after ≡ last_stage before turns)
        × (first_faulted after ≡ None) × (first_overran after ≡ None)
    Ends (DownByFault system) left halted before turns after = (halted ≡ []) × (left ≡ []) × (failed_after ≡ failed)
        × (after ≡ last_stage before turns) × (first_faulted after ≡ Some system)
    Ends (DownFull system size) left halted before turns after = (halted ≡ []) × (left ≡ []) × (failed_after ≡ failed)
        × (after ≡ last_stage before turns) × (first_faulted after ≡ None) × (first_overran after ≡ Some system) × (size ≡ length_at after system)
    Ends (Changed system number) left halted before turns after = (moment : ℕ) × (halted ≡ moment ∷ [])
        × FindsChanged left moment (last_stage before turns) after system number
    Ends WriteFailed left halted before turns after = (halted ≡ []) × (failed_after ≡ failed) × (after ≡ last_stage before turns)
    Ends OutOfMemory left halted before turns after = (moment : ℕ) × (halted ≡ moment ∷ []) × IsHalted left moment (last_stage before turns) after

  -- from a stage on, whatever a crash leaves of all volumes then or at any later moment stands for logs that are sound, and that have all records
  -- of that stage
  abbrev pub IsSoundFrom : Stage V → Stage V → Type 0
  IsSoundFrom before after = LeavesSoundLogs disk before.landscape before.landscape × GoesSoundly disk before.landscape after.landscape

  -- So it is from the first stage of a run, and from what each turn left: no record is lost once its command has ended.
  abbrev pub IsSoundFromEach : Stage V → List (Turn V) → Stage V → Type 0
  IsSoundFromEach before [] after = IsSoundFrom before after
  IsSoundFromEach before (turn ∷ turns) after = IsSoundFrom before after × IsSoundFromEach turn.after turns after

  -- a run of commands, over files of which so many calls had failed before it and have failed after it
  pub record Run (commands : List Command) (before after : Stage V) (failed failed_after : ℕ) (end : RunEnd) (turns : List (Turn V)) : Type 0 where
    pub left : List Command
    pub these : commands ≡ commands_of turns ++ left
    pub follow : Follow before failed turns
    pub halted : List ℕ
    pub ends : Ends (last_failed failed turns) failed_after end left halted before turns after
    pub complete : IsComplete before turns
    pub sound : IsSoundFromEach before turns after

-- a clock, where it tells what it gave, gave the moments of the turns, and behind them that of a command that was not answered
abbrev pub AreAsked : {V : Type 0} → Type 0 → List ℕ → List ℕ → List (Turn V) → List ℕ → Type 0
AreAsked told before after turns halted = told → after ≡ before ++ (moments_of turns ++ halted)
