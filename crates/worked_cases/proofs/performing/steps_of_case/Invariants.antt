use Rattle.std.proofs.Common.{◌≡◌, List, [], ◌∷◌, ℕ}
use Rattle.ale_io.specs.Folder.{told_of}
use Rattle.worked_cases.specs.Judged.{AreMadeFrom}
use Rattle.worked_cases.specs.Starts.{empty_volumes}
use Rattle.worked_cases.proofs.performing.steps_of_case.Given as goal

abbrev pub invariant-loop-part : goal.invariant-loop-part
invariant-loop-part g l = record {
  made : AreMadeFrom l.fn.case.files (empty_volumes ∷ []) l.yielded l.steps l.vols.items;
  alike : (name : List ℕ) → told_of l.files.files name ≡ told_of l.fn.case.files name;
}
