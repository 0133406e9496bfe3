-- What a run of the program gives, and the steps that a case makes of its runs.
use Rattle.std.specs.Prelude.{◌≡◌, ◌⊎◌, ⊤, ℕ, ◌-◌, ◌^◌, ◌<◌, Bool, true, false, List, [], ◌∷◌, ◌++◌, Option, None, Some, map, take}
use Rattle.std.specs.Prelude.{codes, string_bytes}
use Rattle.std.specs.Fmt.{decimal}
use Rattle.std.specs.List.{flat_map}
use Rattle.ale_io.specs.Told.{Told}
use Rattle.ale_io.specs.Folder.{told_of}
use Rattle.ale_io.specs.Moments.{given_by}
use Rattle.ale_io.specs.declared.list_clock.ListClock.{ListClock}
use Rattle.ale_io.specs.declared.map_files.StoredFile.{StoredFile}
use Rattle.ale_volumes.specs.Memory.{MemoryOf}
use Rattle.ale_volumes.specs.MemoryLemmas.{memory}
use Rattle.ale_host.specs.declared.ending.Ending.TheVariants.{OutOfMemory}
use Rattle.ale_host.specs.Ending.{status_of, text_of}
use Rattle.ale_host.specs.EndsSo.{EndsSo}
use Rattle.case_form.specs.declared.verdict.Relation.TheVariants.{Whole}
use Rattle.case_form.specs.declared.verdict.Comparison.{Comparison}
use Rattle.case_form.specs.declared.verdict.Step.{Step}
use Rattle.case_form.specs.declared.verdict.Outcome.{Outcome}
use Rattle.case_form.specs.declared.verdict.Outcome.TheVariants.{Malformed, Steps}
use Rattle.case_form.specs.Made.{IsBrokenStepOf}
use Rattle.worked_cases.specs.Starts.{IsBegun, starts, empty_volumes}
use Rattle.worked_cases.specs.declared.performing.Made.{Made}
use Rattle.worked_cases.specs.declared.case.Words.{Words}
use Rattle.worked_cases.specs.declared.case.Words.TheVariants.{Given, Wanting}
use Rattle.worked_cases.specs.declared.case.Output.{Output}
use Rattle.worked_cases.specs.declared.case.Failing.{Failing}
use Rattle.worked_cases.specs.declared.case.Run.{Run}
use Rattle.worked_cases.specs.declared.case.Part.{Part}
use Rattle.worked_cases.specs.declared.case.Part.TheVariants.{Run as RunPart, Broken}

-- at an ending with this status and text a run gives this status and prints this text: the same, or 6 and a front of the text
abbrev pub Gives : ℕ → List ℕ → ℕ → List ℕ → Type 0
Gives ending text status printed = ((status ≡ ending) × (printed ≡ text)) ⊎ ((status ≡ 6) × ((n : ℕ) × (printed ≡ take n text)))

-- a run of these words over these files and on these volumes may leave these volumes, give this status and print this text
abbrev pub MayGive : Words → (List ℕ → Told) → MemoryOf → MemoryOf → ℕ → List ℕ → Type 0
MayGive (Given words) told before after status printed =
    (faults : ℕ) × (clock : ListClock) × (ending : ℕ) × (text sure : List ℕ)
    × EndsSo memory (map string_bytes words.items) told 0 faults before after
    (clock.calls < 2 ^ 64 - 1) [] (given_by clock.moments clock.calls) ending text sure
    × Gives ending text status printed
MayGive Wanting told before after status printed = (after ≡ before) × Gives (status_of OutOfMemory) (text_of OutOfMemory) status printed

-- a status as it is compared
abbrev pub shown_status : ℕ → List ℕ
shown_status status = decimal status ++ codes "\n"

abbrev pub status_compared : ℕ → ℕ → Comparison
status_compared wanted status = record { what = codes "status"; relation = Whole; expected = shown_status wanted; found = shown_status status }

abbrev pub output_compared : List ℕ → Output → Comparison
output_compared printed output = record { what = codes "text"; relation = output.relation; expected = output.text.items; found = printed }

-- what is compared of a gate: nothing where it is open, and else how the meeting of its works came out
abbrev pub gate_compared : Option ℕ → List ℕ → List Comparison
gate_compared None met = []
gate_compared (Some works) met = record { what = codes "gate"; relation = Whole; expected = codes "all met\n"; found = met } ∷ []

-- what is compared of the logs that a run left: nothing where it does not say how they are judged, and else what was told of them
abbrev pub law_compared : Option (List ℕ) → List ℕ → List Comparison
law_compared None told = []
law_compared (Some expected) told = record { what = codes "law"; relation = Whole; expected = expected; found = told } ∷ []

-- what is compared of the units of these logs: nothing where a run does not say that all are ended, and else what was told of them
abbrev pub ended_compared : Bool → List ℕ → List Comparison
ended_compared false told = []
ended_compared true told = record { what = codes "ended"; relation = Whole; expected = codes "all ended\n"; found = told } ∷ []

-- What is compared of a run that gave this status and printed this text: the status, all that is said of the text, how the
-- works met at its gate, how the logs that it left are judged, and whether their units are ended
abbrev pub compared : Run → ℕ → List ℕ → List ℕ → List ℕ → List ℕ → List Comparison
compared run status printed met judged ended =
    ((status_compared run.status status ∷ map (output_compared printed) run.outputs ++ gate_compared run.gate met)
    ++ law_compared run.law judged) ++ ended_compared run.ended ended

-- A run over these files, from a start and with calls that fail, left these volumes, and this is compared of it: it was made on volumes
-- that hold what the start holds, or what the run says of them. Of how its works met and what was told of its logs nothing is said here.
abbrev pub IsTried : List StoredFile → Run → List (List ℕ) × Failing → List Comparison → MemoryOf → Type 0
IsTried files run try comparisons left =
    (told : List ℕ → Told) × ((name : List ℕ) → told name ≡ told_of files name)
    × ((begun : MemoryOf) × IsBegun run.holds try.0 try.1.calls begun
    × ((status : ℕ) × (printed met judged ended : List ℕ) × MayGive run.words told begun left status printed
    × (comparisons ≡ compared run status printed met judged ended)))

-- a run is made from each of these starts, and from each once for each choice of the calls that fail
abbrev pub tries : List Failing → List (List (List ℕ)) → List (List (List ℕ) × Failing)
tries failing starts = flat_map (λ start. map (λ calls. (start, calls)) failing) starts

-- what is compared of all these runs, and the volumes that each left, in order
abbrev pub AreTried : List StoredFile → Run → List (List (List ℕ) × Failing) → List Comparison → List MemoryOf → Type 0
AreTried files run [] comparisons left = (comparisons ≡ []) × (left ≡ [])
AreTried files run (try ∷ rest) comparisons left =
    (one others : List Comparison) × (first : MemoryOf) × (further : List MemoryOf) × IsTried files run try one first
    × AreTried files run rest others further × (comparisons ≡ one ++ others) × (left ≡ first ∷ further)

-- these runs add what is compared of them, and what they left
abbrev pub Adds : List StoredFile → Run → List (List (List ℕ) × Failing) → Made → Made → Type 0
Adds files run tried old new =
    (more : List Comparison) × (further : List MemoryOf) × AreTried files run tried more further
    × (new.comparisons ≡ old.comparisons ++ more) × (new.left.items ≡ old.left.items ++ further)

-- The step of a part of a case over these files, where the run before it left these volumes, and what is left behind it: that of a run
-- compares all its runs, from each start and for each choice of the calls that fail; or that of a text that is no case
abbrev pub IsMadeOf : List StoredFile → List MemoryOf → Part → Step → List MemoryOf → Type 0
IsMadeOf files before (RunPart run) step after =
    (comparisons : List Comparison) × AreTried files run (tries run.failing (starts run.start before)) comparisons after
    × (step ≡ record { line = run.line; differs = run.differs; comparisons = comparisons })
IsMadeOf files before (Broken item) step after = IsBrokenStepOf item.line item.differs item.rest.items step × (after ≡ before)

-- the steps of parts of a case, in order, with the volumes that each part left handed on to the next
abbrev pub AreMadeFrom : List StoredFile → List MemoryOf → List Part → List Step → List MemoryOf → Type 0
AreMadeFrom files before [] [] after = after ≡ before
AreMadeFrom files before [] (step ∷ steps) after = ⊥
AreMadeFrom files before (part ∷ parts) [] after = ⊥
AreMadeFrom files before (part ∷ parts) (step ∷ steps) after =
    (left : List MemoryOf) × IsMadeOf files before part step left × AreMadeFrom files left parts steps after

-- the same, whatever is left at the end
abbrev pub AreMadeOf : List StoredFile → List MemoryOf → List Part → List Step → Type 0
AreMadeOf files before parts steps = (after : List MemoryOf) × AreMadeFrom files before parts steps after

-- the steps are those of the parts of a case, one for each, in order, and the first part starts from empty volumes. That
-- these are the parts that the file spells is not said here
abbrev pub AreRuns : Outcome → Type 0
AreRuns (Malformed line rule) = ⊤
AreRuns (Steps steps) = (files : List StoredFile) × (parts : List Part) × AreMadeOf files (empty_volumes ∷ []) parts steps
