-- The steps of one part after another, over files that stay as they are told, each from the volumes that the one before left.
use Rattle.std.proofs.Common.{◌≡◌, List, [], ◌∷◌, ◌++◌, ℕ, subst}
use Rattle.ale_io.specs.declared.map_files.StoredFile.{StoredFile}
use Rattle.ale_io.specs.Folder.{told_of}
use Rattle.ale_volumes.specs.Memory.{MemoryOf}
use Rattle.case_form.specs.declared.verdict.Step.{Step}
use Rattle.worked_cases.specs.declared.case.Part.{Part}
use Rattle.worked_cases.specs.declared.case.Part.TheVariants.{Run, Broken}
use Rattle.worked_cases.specs.Judged.{IsMadeOf, AreMadeFrom, tries}
use Rattle.worked_cases.specs.Starts.{starts}
use Rattle.worked_cases.proofs.TriedLemmas.{AreTried-alike}

-- a step that was made over files that are told alike
pub IsMadeOf-alike : (before now : List StoredFile) → ((name : List ℕ) → told_of now name ≡ told_of before name)
    → (vols : List MemoryOf) (part : Part) (step : Step) (left : List MemoryOf) → IsMadeOf now vols part step left → IsMadeOf before vols part step left
IsMadeOf-alike before now alike vols (Run run) step left made =
    (made.0, AreTried-alike before now alike run (tries run.failing (starts run.start vols)) made.0 left made.1, made.2)
IsMadeOf-alike before now alike vols (Broken item) step left made = made

-- one part and its step more, from the volumes that were left
pub AreMadeFrom-snoc : (files : List StoredFile) (before between after : List MemoryOf) (parts : List Part) (steps : List Step) (part : Part) (step : Step)
    → AreMadeFrom files before parts steps between → IsMadeOf files between part step after
    → AreMadeFrom files before (parts ++ part ∷ []) (steps ++ step ∷ []) after
AreMadeFrom-snoc files before between after [] [] part step made last = (after, subst (λ vols. IsMadeOf files vols part step after) made last, cc)
AreMadeFrom-snoc files before between after [] (s ∷ steps) part step made last = absurd made
AreMadeFrom-snoc files before between after (p ∷ parts) [] part step made last = absurd made
AreMadeFrom-snoc files before between after (p ∷ parts) (s ∷ steps) part step made last =
    (made.0, made.1, AreMadeFrom-snoc files made.0 between after parts steps part step made.2 last)
