-- What is known of a file.
use Rattle.std.specs.Prelude.{◌≡◌, ◌<◌, ◌≤◌, ℕ, List, length, ⊤}

-- what a folder tells of a name: nothing, that no file has it, or the file's bytes
pub data Told : Type 0 where
  untold : Told
  no_file : Told
  file : List ℕ → Told

-- as far as it is told, the file has these bytes
abbrev pub MayHold : Told → List ℕ → Type 0
MayHold untold bytes = ⊤
MayHold no_file bytes = ⊥
MayHold (file told) bytes = bytes ≡ told

-- as far as it is told, there is no such file
abbrev pub MayLack : Told → Type 0
MayLack untold = ⊤
MayLack no_file = ⊤
MayLack (file told) = ⊥

-- as far as it is told, the file has these bytes, within the limit
abbrev pub IsFileWithin : ℕ → Told → List ℕ → Type 0
IsFileWithin most told bytes = MayHold told bytes × (length bytes ≤ most)

-- as far as it is told, the file has more bytes than the limit
abbrev pub IsFileOver : ℕ → Told → Type 0
IsFileOver most told = (bytes : List ℕ) × MayHold told bytes × (most < length bytes)
