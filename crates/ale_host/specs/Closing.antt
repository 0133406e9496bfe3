-- How the last line of a run is put; only private functions cite this.
use Rattle.std.specs.Prelude.{◌≡◌, ◌≢◌, ℕ, List, [], Option}
use Rattle.dist_model.specs.declared.lists.Lists.{Lists}
use Rattle.runs.specs.declared.run_end.RunEnd.{RunEnd}
use Rattle.runs.specs.declared.run_end.RunEnd.TheVariants as end
use Rattle.runs.specs.Put.{IsPut, IsPart}
use Rattle.ale_host.specs.Running.{EndsWith}

-- the last line was not taken whole; where a text before it was not, none is put
abbrev pub IsUnwritten : Lists → RunEnd → Option (List ℕ) → Option (List ℕ) → ℕ → ℕ → Type 0
IsUnwritten model end.WriteFailed old new faults faults_new = IsPut old new faults faults_new []
IsUnwritten model its old new faults faults_new = (status : ℕ) × ((line : List ℕ) × EndsWith model its status line × IsPart old new faults faults_new line)

-- the last line was put, and this is the status
pub record IsClosed (model : Lists) (its : RunEnd) (status : ℕ) (old new : Option (List ℕ)) (faults faults_new : ℕ) : Type 0 where
  pub whole : status ≢ 6 → (line : List ℕ) × EndsWith model its status line × IsPut old new faults faults_new line
  pub part : status ≡ 6 → IsUnwritten model its old new faults faults_new
  pub unwritten : its ≡ end.WriteFailed → status ≡ 6
