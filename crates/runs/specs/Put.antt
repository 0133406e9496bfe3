-- What a run put into its sink, with the faults of that.
use Rattle.std.specs.Prelude.{◌≡◌, ℕ, List, [], ◌∷◌, ◌++◌, take, Option}
use Rattle.std.specs.Io.KnownBytes.{Appends}
use Rattle.ale_base.specs.Faults.{Rose}
use Rattle.ale_io.specs.Written.{AppendsFront}
use Rattle.runs.specs.declared.run_end.RunEnd.{RunEnd}
use Rattle.runs.specs.declared.run_end.RunEnd.TheVariants as end
use Rattle.runs.specs.Turns.{Turn, text_of}
use Rattle.runs.specs.Text.{shown}

-- the whole text was put with no fault
pub record IsPut (before after : Option (List ℕ)) (faults faults_after : ℕ) (text : List ℕ) : Type 0 where
  pub appends : Appends before after text
  pub quiet : faults_after ≡ faults

-- a write failed, and a front of the text was put
pub record IsPart (before after : Option (List ℕ)) (faults faults_after : ℕ) (text : List ℕ) : Type 0 where
  pub appends : AppendsFront before after text
  pub rose : Rose faults faults_after

-- a write failed: a text was put whole, and a front of the one behind it
pub record IsCut (before after : Option (List ℕ)) (faults faults_after : ℕ) (whole part : List ℕ) : Type 0 where
  pub count : ℕ
  pub appends : Appends before after (whole ++ take count part)
  pub rose : Rose faults faults_after

-- what a run put, by its ending: all its text; or all that was due before its last turn, and a front of the text of that
abbrev pub IsPutAt : {V : Type 0} → RunEnd → Option (List ℕ) → Option (List ℕ) → ℕ → ℕ → List (Turn V) → Type 0
IsPutAt {V} end.WriteFailed before after faults faults_after turns =
    (done : List (Turn V)) × ((last : Turn V) × (turns ≡ done ++ last ∷ [])
    × IsCut before after faults faults_after (text_of done) (shown last.command last.answered last.after))
IsPutAt _ before after faults faults_after turns = IsPut before after faults faults_after (text_of turns)
