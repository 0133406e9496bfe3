-- Volumes in memory: what they held at first, and each write and sync since.
use Rattle.std.specs.Prelude.{◌≡◌, ◌⊎◌, ◌∷◌, ◌++◌, ℕ, ◌+◌, ◌-◌, ◌/◌, ◌≤◌, ◌<◌, min, Bool, true, false, List, [], length, take, if◌then◌else◌, ◌==◌}
use Rattle.std.specs.Prelude.{slice_index_or, fold, count_by}
use Rattle.ale_volumes.specs.declared.volume.Volume.{Volume}
use Rattle.ale_volumes.specs.declared.step.Step.{Step}
use Rattle.ale_volumes.specs.declared.step.Step.TheVariants.{Write, Sync}
use Rattle.ale_volumes.specs.declared.device_calls.DeviceCalls.{DeviceCalls}
use Rattle.ale_volumes.specs.Volume.{IsImage, settled, written, overwritten}

-- what volumes in memory held at first, their writes and syncs since, oldest first, and the count of their calls
pub record MemoryOf : Type 0 where
  pub start : List (List ℕ)
  pub steps : List Step
  pub calls : DeviceCalls

-- a write past the end begins at the end
abbrev pub place_in : List ℕ → ℕ → ℕ
place_in contents at = min at (length contents)

-- the part of a failing write that is left: half of its bytes, rounded up, and none past the old end
abbrev pub left_of : List ℕ → ℕ → List ℕ → List ℕ
left_of contents at bytes = take (min ((length bytes + 1) / 2) (length contents - at)) bytes

-- the volume after a write that failed
abbrev pub half_written : Volume → ℕ → List ℕ → Volume
half_written old at bytes = record (written old at bytes) { contents = overwritten old.contents at (left_of old.contents at bytes) }

-- the volume after a write, which may have failed
abbrev pub written_or_half : Volume → ℕ → List ℕ → Bool → Volume
written_or_half old at bytes failed = if failed then half_written old at bytes else written old at bytes

-- what a read gives after a write, which may have failed
abbrev pub contents_after : List ℕ → ℕ → List ℕ → Bool → List ℕ
contents_after old at bytes failed = overwritten old (place_in old at) (if failed then left_of old (place_in old at) bytes else bytes)

-- volume n after a step of the record
abbrev pub after_step : ℕ → Volume → Step → Volume
after_step n old (Write volume at bytes failed) =
    if volume == n then written_or_half old (place_in old.contents at) bytes failed else old
after_step n old (Sync volume) = if volume == n then settled old.contents else old

-- volume n after these steps
abbrev pub after_steps : List (List ℕ) → List Step → ℕ → Volume
after_steps start steps n = fold (after_step n) (settled (slice_index_or start n [])) steps

-- (a part of `after_steps`) what a read of volume n gives after a step of the record
abbrev pub contents_after_step : ℕ → List ℕ → Step → List ℕ
contents_after_step n old (Write volume at bytes failed) = if volume == n then contents_after old at bytes failed else old
contents_after_step n old (Sync volume) = old

-- (for `after_steps`) there is no step, or the last one is a sync of volume n
abbrev pub EndsAtSync : ℕ → List Step → Type 0
EndsAtSync n steps = (steps ≡ []) ⊎ ((front : List Step) × (steps ≡ front ++ Sync n ∷ []))

-- a crash at a moment leaves this of volume n: an image of it after so many of the steps
abbrev pub LeftAt : List (List ℕ) → List Step → ℕ → ℕ → List ℕ → Type 0
LeftAt start steps n moment image = IsImage (after_steps start (take moment steps) n) image

-- What is kept beside the record: what each volume holds, which volumes have a write since their last sync, and room for
-- the sync of each of them.
pub record IsKept (start : List (List ℕ)) (steps : List Step) (held : List (List ℕ)) (unsynced : List Bool) (capacity : ℕ) : Type 0 where
  pub volumes : length held ≡ 16
  pub flags : length unsynced ≡ 16
  pub holds : (n : ℕ) → n < 16 → slice_index_or held n [] ≡ (after_steps start steps n).contents
  pub clean : (n : ℕ) → n < 16 → slice_index_or unsynced n true ≡ false → length (after_steps start steps n).writes ≡ 0
  pub written : (n : ℕ) → n < 16 → slice_index_or unsynced n true ≡ true → 0 < length (after_steps start steps n).writes
  pub room : length steps + count_by (λ is. is) unsynced ≤ capacity

-- The record has a sync of volume n more exactly where there was a write of it since the last one.
abbrev pub AddsSync : MemoryOf → MemoryOf → ℕ → Type 0
AddsSync old new n =
    ((new.steps ≡ old.steps ++ Sync n ∷ []) × (0 < length (after_steps old.start old.steps n).writes))
    ⊎ ((new.steps ≡ old.steps) × (length (after_steps old.start old.steps n).writes ≡ 0))
