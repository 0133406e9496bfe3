-- What is known of a volume, how calls change it, and what a crash may leave of it.
use Rattle.std.specs.Prelude.{◌≡◌, ◌⊎◌, ℕ, ◌+◌, ◌<◌, ◌≤◌, max, List, [], ◌∷◌, ◌++◌, length, take, drop, slice_index, Contains}
use Rattle.ale_volumes.specs.declared.volume.Volume.{Volume}
use Rattle.ale_volumes.specs.declared.volume.UnsyncedWrite.{UnsyncedWrite}

-- bytes with others written over them from a place on, perhaps past their end
abbrev pub overwritten : List ℕ → ℕ → List ℕ → List ℕ
overwritten old at bytes = take at old ++ bytes ++ drop (at + length bytes) old

-- one of these writes covers this place
abbrev pub IsCovered : List UnsyncedWrite → ℕ → Type 0
IsCovered [] place = ⊥
IsCovered (write ∷ writes) place = ((write.at ≤ place) × (place < write.at + length write.bytes)) ⊎ IsCovered writes place

-- A crash may leave this: a length that the volume may have had since its last sync, any bytes in each range written
-- since and past the synced end, and the synced bytes elsewhere.
pub record IsImage (volume : Volume) (image : List ℕ) : Type 0 where
  pub size : Contains volume.lengths (length image)
  pub synced : (place : ℕ) → place < length image → place < length volume.synced → ¬ IsCovered volume.writes place →
      slice_index image place ≡ slice_index volume.synced place

-- these bytes are on the disk for good, and a crash leaves them and nothing else
abbrev pub settled : List ℕ → Volume
settled bytes = record { contents = bytes; synced = bytes; lengths = length bytes ∷ []; writes = [] }

-- the volume after a write
abbrev pub written : Volume → ℕ → List ℕ → Volume
written old at bytes = record {
  contents = overwritten old.contents at bytes;
  synced = old.synced;
  lengths = old.lengths ++ length (overwritten old.contents at bytes) ∷ [];
  writes = old.writes ++ record { at = at; bytes = bytes } ∷ [];
}

-- a write of n bytes that was cut short: any bytes in its range, the others as before, and the old length or the new one
pub record Torn (at n : ℕ) (old new : List ℕ) : Type 0 where
  pub before : take at new ≡ take at old
  pub behind : drop (at + n) new ≡ drop (at + n) old
  pub size : (length new ≡ length old) ⊎ (length new ≡ max (length old) (at + n))

-- A write that fails counts as a write, of which a read gives what is left.
pub record FailsToWrite (old : Volume) (at : ℕ) (bytes : List ℕ) (new : Volume) : Type 0 where
  pub left : Torn at (length bytes) old.contents new.contents
  pub counts : new ≡ record (written old at bytes) { contents = new.contents }
