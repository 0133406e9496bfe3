-- What a call that reads leaves of the files; only private functions cite this.
use Rattle.std.specs.Prelude.{◌≡◌, ◌≤◌, ℕ, List, Option, Some, None}
use Rattle.ale_io.specs.Told.{Told}
use Rattle.ale_host.specs.declared.ending.Ending.{Ending}
use Rattle.ale_host.specs.Ending.{IsQuiet}

-- no fault of the files came in a call that has this ending, or none, unless the ending may be one of a fault
abbrev pub IsQuietWith : Option Ending → ℕ → ℕ → Type 0
IsQuietWith None before after = after ≡ before
IsQuietWith (Some end) before after = IsQuiet end before after

-- Files were read, and nothing else was done to them: they tell what they told, their count of faults does not fall, and it is as before
-- where the call has no ending, or one that no fault can have.
pub record ReadsOnly (told told_after : List ℕ → Told) (faults faults_after : ℕ) (end : Option Ending) : Type 0 where
  pub kept : (name : List ℕ) → told_after name ≡ told name
  pub counted : faults ≤ faults_after
  pub quiet : IsQuietWith end faults faults_after
