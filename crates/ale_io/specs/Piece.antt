-- What is read of a file in pieces.
use Rattle.std.specs.Prelude.{◌≡◌, ◌↔◌, ℕ, ◌≤◌, List, [], ◌++◌, length, take, drop}
use Rattle.ale_io.specs.Told.{Told, MayHold}

-- a piece of these bytes: those from the place `at` on, `most` of them at most, and none exactly where no byte is at that
-- place
pub record IsPiece (bytes : List ℕ) (at most : ℕ) (piece : List ℕ) : Type 0 where
  pub here : piece ≡ take (length piece) (drop at bytes)
  pub few : length piece ≤ most
  pub ended : (piece ≡ []) ↔ (length bytes ≤ at)

-- a piece of a file was appended, as far as the file is told, and it has this many bytes
pub record AppendsPiece (told : Told) (at most : ℕ) (before after : List ℕ) (count : ℕ) : Type 0 where
  pub bytes : List ℕ
  pub holds : MayHold told bytes
  pub piece : List ℕ
  pub is : IsPiece bytes at most piece
  pub appended : after ≡ before ++ piece
  pub counted : count ≡ length piece
