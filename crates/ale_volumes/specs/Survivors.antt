-- What a crash leaves of a volume, by a choice of what survives.
use Rattle.std.specs.Prelude.{ℕ, ◌-◌, min, List, [], ◌∷◌, ◌++◌, length, take, drop, replicate, slice_index}
use Rattle.ale_volumes.specs.declared.volume.Volume.{Volume}
use Rattle.ale_volumes.specs.declared.volume.UnsyncedWrite.{UnsyncedWrite}
use Rattle.ale_volumes.specs.declared.survivors.Survivors.{Survivors}
use Rattle.ale_volumes.specs.Volume.{overwritten}

-- the length that is left, counted from the newest
abbrev pub chosen_length : Volume → ℕ → ℕ
chosen_length volume back = slice_index volume.lengths (length volume.lengths - 1 - min back (length volume.lengths - 1))

-- bytes cut to a length, or filled up to it
abbrev pub at_length : ℕ → ℕ → List ℕ → List ℕ
at_length size filler bytes = take size bytes ++ replicate (size - length bytes) filler

-- so many of the first bytes of a write reach the disk, none past the length that is left
abbrev pub laid_over : ℕ → List ℕ → UnsyncedWrite → ℕ → List ℕ
laid_over size image write count = take size (overwritten image (min write.at (length image)) (take count write.bytes))

-- the writes reach the disk one after another, of each so many bytes
abbrev pub laid : ℕ → List UnsyncedWrite → List ℕ → List ℕ → List ℕ
laid size [] counts image = image
laid size (write ∷ writes) counts image = laid size writes (drop 1 counts) (laid_over size image write (slice_index counts 0))

-- the synced bytes at the length that is left, and over them what survives of the writes since
abbrev pub surviving : Volume → Survivors → List ℕ
surviving volume survivors =
    laid (chosen_length volume survivors.length) volume.writes survivors.bytes
    (at_length (chosen_length volume survivors.length) survivors.filler volume.synced)
