use Rattle.std.proofs.Common.{◌≡◌, List, [], ◌∷◌, ℕ, take}
use Rattle.ale_io.specs.Folder.{told_of}
use Rattle.worked_cases.specs.Judged.{Adds, tries}
use Rattle.worked_cases.proofs.performing.try_failures.Given as goal

abbrev pub invariant-loop-failing : goal.invariant-loop-failing
invariant-loop-failing g l = record {
  adds : Adds l.fn.files.files l.run (tries (take l.failing-index l.failures) (l.start ∷ [])) l.fn.made l.made;
  alike : (name : List ℕ) → told_of l.files.files name ≡ told_of l.fn.files.files name;
}
