-- What volumes hold as runs start.
use Rattle.std.specs.Prelude.{◌≡◌, ℕ, ◌+◌, List, [], ◌∷◌, length, map, take, replicate, if◌then◌else◌, ◌==◌}
use Rattle.std.specs.List.{flat_map, range_with_len}
use Rattle.ale_volumes.specs.Memory.{MemoryOf, after_steps}
use Rattle.ale_volumes.specs.MemoryLemmas.{volume_now}
use Rattle.ale_volumes.specs.Survivors.{surviving}
use Rattle.ale_volumes.specs.declared.survivors.Survivors.{Survivors}
use Rattle.worked_cases.specs.Held.{AreHeld}
use Rattle.worked_cases.specs.declared.case.Start.{Start}
use Rattle.worked_cases.specs.declared.case.Start.TheVariants.{Left, Anew, Crashed}
use Rattle.worked_cases.specs.declared.held.Holding.{Holding}

-- volumes that hold this for good, on which no call was made, and of whose calls these will fail
abbrev pub fresh : List (List ℕ) → List ℕ → MemoryOf
fresh contents failing = record { start = contents; steps = []; calls = record { failing = failing; made = 0; faults = replicate 16 0 } }

-- volumes of no bytes
abbrev pub empty_volumes : MemoryOf
empty_volumes = fresh (replicate 16 []) []

-- what sixteen volumes hold, by what each holds
abbrev pub each_of : (ℕ → List ℕ) → List (List ℕ)
each_of held = map held (range_with_len 0 16)

abbrev pub contents_of : MemoryOf → List (List ℕ)
contents_of vols = each_of (λ n. (volume_now vols n).contents)

-- How many of the first bytes of a write that was not synced are left, by the number of a choice
abbrev pub count_of : ℕ → ℕ
count_of choice = if choice == 0 then 0 else if choice == 1 then 20 else if choice == 2 then 640 else 4860

-- what is left by a choice: at first the length from before the write, and then that behind it, and open gates where nothing of it is left
abbrev pub survivors_of : ℕ → Survivors
survivors_of choice = record { bytes = count_of choice ∷ []; length = if choice == 0 then 1 else 0; filler = 79 }

-- what a crash at a moment leaves of volumes, by a choice
abbrev pub image_of : MemoryOf → ℕ → ℕ → List (List ℕ)
image_of vols moment choice = each_of (λ n. surviving (after_steps vols.start (take moment vols.steps) n) (survivors_of choice))

-- by each choice
abbrev pub images_at : MemoryOf → ℕ → List (List (List ℕ))
images_at vols moment = map (image_of vols moment) (range_with_len 0 4)

-- at each moment, the one before the first step and that behind the last among them
abbrev pub images : MemoryOf → List (List (List ℕ))
images vols = flat_map (images_at vols) (range_with_len 0 (length vols.steps + 1))

-- what the volumes hold on which a run is made, on each in turn, where the run before it left these: the same, nothing, or what a
-- crash of that run leaves, at each moment and by each choice
abbrev pub starts : Start → List MemoryOf → List (List (List ℕ))
starts Left before = map contents_of before
starts Anew before = replicate 16 [] ∷ []
starts Crashed before = flat_map images before

-- these volumes hold what the start holds, but for those that are made to hold what is said of them; of their calls these will fail
abbrev pub IsBegun : List Holding → List (List ℕ) → List ℕ → MemoryOf → Type 0
IsBegun holds start failing begun = (contents : List (List ℕ)) × AreHeld start holds contents × (begun ≡ fresh contents failing)
