-- The turns of a run: each command with the moment at which it began, how it was answered, and what it left. This project's own.
use Rattle.std.specs.Prelude.{ℕ, suc, Bool, true, false, ◌&&◌, not, List, [], ◌∷◌, ◌++◌, Option, Some, None, if◌then◌else◌}
use Rattle.unit_landscape.specs.declared.cause.Cause.{Cause}
use Rattle.unit_landscape.specs.declared.cause.Cause.TheVariants.{Faulted, Overran}
use Rattle.unit_landscape.specs.KeptWorlds.{cause_at}
use Rattle.unit_journal.specs.Changes.{with_moment}
use Rattle.script_text.specs.declared.command.Command.{Command}
use Rattle.trfc_protocol.specs.declared.world.SystemState.{SystemState}
use Rattle.trfc_protocol.specs.declared.world.World.{World}
use Rattle.document_state.specs.declared.model_rules.ModelRules.{ModelRules}
use Rattle.runs.specs.declared.answered.Answered.{Answered}
use Rattle.runs.specs.declared.lengths.DownBy.{DownBy}
use Rattle.runs.specs.declared.lengths.DownBy.TheVariants.{Fault, Overrun}
use Rattle.runs.specs.declared.stage.Stage.{Stage}
use Rattle.runs.specs.Text.{shown}

-- a command, the moment at which it began, how it was answered, and what it left; and how many calls on the files had failed then
pub record Turn (V : Type 0) : Type 0 where
  pub command : Command
  pub moment : ℕ
  pub answered : Answered
  pub after : Stage V
  pub failed : ℕ

-- records are written with a moment from now on
abbrev pub at_moment : {V : Type 0} → ℕ → Stage V → Stage V
at_moment moment stage = record stage { landscape = record stage.landscape { journals = with_moment (Some moment) stage.landscape.journals } }

abbrev pub commands_of : {V : Type 0} → List (Turn V) → List Command
commands_of [] = []
commands_of (turn ∷ turns) = turn.command ∷ commands_of turns

abbrev pub moments_of : {V : Type 0} → List (Turn V) → List ℕ
moments_of [] = []
moments_of (turn ∷ turns) = turn.moment ∷ moments_of turns

-- the text of all turns
abbrev pub text_of : {V : Type 0} → List (Turn V) → List ℕ
text_of [] = []
text_of (turn ∷ turns) = shown turn.command turn.answered turn.after ++ text_of turns

-- what the last turn left
abbrev pub last_stage : {V : Type 0} → Stage V → List (Turn V) → Stage V
last_stage before [] = before
last_stage before (turn ∷ turns) = last_stage turn.after turns

-- how many calls on the files had failed after the last turn
abbrev pub last_failed : {V : Type 0} → ℕ → List (Turn V) → ℕ
last_failed failed [] = failed
last_failed failed (turn ∷ turns) = last_failed turn.failed turns

-- whether a system of a cause is down by this: its volume failed, or a record did not fit on it
abbrev pub is_by : DownBy → Cause → Bool
is_by Fault Faulted = true
is_by Overrun (Overran size) = true
is_by by cause = false

-- how long a volume would have been with a record that did not fit; 0 for each other cause
abbrev pub size_of : Cause → ℕ
size_of (Overran size) = size
size_of _ = 0

-- the first of these systems that is down, of which the first has this number; none where all are up
abbrev pub down_from : ℕ → List SystemState → Option ℕ
down_from number [] = None
down_from number (state ∷ states) = if state.up then down_from (suc number) states else Some number

-- the first of these systems, of which the first has this number, that is down by this
abbrev pub down_by_from : DownBy → (ℕ → Cause) → ℕ → List SystemState → Option ℕ
down_by_from by cause number [] = None
down_by_from by cause number (state ∷ states) =
    if not state.up && is_by by (cause number) then Some number else down_by_from by cause (suc number) states

abbrev pub first_down : World ModelRules → Option ℕ
first_down world = down_from 1 world.systems

-- the first system that is down since its volume failed
abbrev pub first_faulted : {V : Type 0} → Stage V → Option ℕ
first_faulted stage = down_by_from Fault (cause_at stage.landscape) 1 (stage.landscape).world.systems

-- the first system that is down since a record did not fit on its volume
abbrev pub first_overran : {V : Type 0} → Stage V → Option ℕ
first_overran stage = down_by_from Overrun (cause_at stage.landscape) 1 (stage.landscape).world.systems

-- how long the volume of a system would have been with the record by which it fell; 0 where it fell otherwise
abbrev pub length_at : {V : Type 0} → Stage V → ℕ → ℕ
length_at stage system = size_of (cause_at stage.landscape system)
