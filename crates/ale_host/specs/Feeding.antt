-- How far a file was read in pieces. Only private functions cite it; what it serves is `EndsPass`.
use Rattle.std.specs.Prelude.{◌≡◌, ℕ, List, [], length, take, ⊤}
use Rattle.ale_io.specs.Told.{Told, untold, no_file, file, MayHold}
use Rattle.idoc_file.specs.declared.reader.Reader.{Reader}
use Rattle.idoc_file.specs.Reading.{Stands}

-- as far as it is told, the file begins with these bytes. Of a file that is not there no byte was read
abbrev pub MayBegin : Told → List ℕ → Type 0
MayBegin untold bytes = ⊤
MayBegin no_file bytes = bytes ≡ []
MayBegin (file told) bytes = bytes ≡ take (length bytes) told

-- the reader was fed the first bytes of the file
pub record IsFed (told : Told) (reader : Reader) : Type 0 where
  pub bytes : List ℕ
  pub stands : Stands reader bytes
  pub begins : MayBegin told bytes

-- the reader was fed the whole file
pub record IsFedWhole (told : Told) (reader : Reader) : Type 0 where
  pub bytes : List ℕ
  pub stands : Stands reader bytes
  pub whole : MayHold told bytes
