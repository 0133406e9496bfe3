-- How far a file was read in pieces.
use Rattle.std.proofs.Common.{◌≡◌, ℕ, ◌+◌, ◌<◌, ◌≤◌, List, [], ◌++◌, length, take, drop, refl, sym, ap, ◌∙◌, arith, length-append}
use Rattle.std.proofs.lemmas.List.{length-take, length-drop, take_all}
use Rattle.std.proofs.Math.Seq.{take-add}
use Rattle.ale_io.specs.Told.{Told, untold, no_file, file, MayHold}
use Rattle.ale_io.specs.Piece.{IsPiece}
use Rattle.ale_host.specs.Feeding.{MayBegin}

-- no byte was read
pub MayBegin-none : (told : Told) → MayBegin told []
MayBegin-none untold = tt
MayBegin-none no_file = refl
MayBegin-none (file bytes) = refl

-- a piece more was read
pub MayBegin-more : (told : Told) (bytes held piece : List ℕ) (most : ℕ) → MayBegin told bytes → MayHold told held → IsPiece held (length bytes) most piece →
    MayBegin told (bytes ++ piece)
MayBegin-more untold bytes held piece most begins holds is = tt
MayBegin-more no_file bytes held piece most begins holds is = absurd holds
MayBegin-more (file told) bytes held piece most begins holds is =
    let front = take (length bytes) told in
    let next : piece ≡ take (length piece) (drop (length bytes) told) = is.here ∙ ap (λ (all : List ℕ). take (length piece) (drop (length bytes) all)) holds in
    ap (λ b. b ++ piece) begins ∙ ap (λ p. front ++ p) next ∙ sym (take-add (length bytes) (length piece) told) ∙ ap (λ n. take n told)
    (sym (length-append bytes piece))

-- no byte is left
pub MayHold-end : (told : Told) (bytes held : List ℕ) (most : ℕ) → MayBegin told bytes → MayHold told held → IsPiece held (length bytes) most [] → MayHold told
    bytes
MayHold-end untold bytes held most begins holds is = tt
MayHold-end no_file bytes held most begins holds is = absurd holds
MayHold-end (file told) bytes held most begins holds is =
    let over : length held ≤ length bytes = is.ended.0 refl in
    let shorter : length told ≤ length bytes = omega (arith, ap length holds) in
    begins ∙ take_all (length bytes) told shorter

-- the file is as long as the piece reaches
pub IsPiece-within : (held piece : List ℕ) (at most : ℕ) → IsPiece held at most piece → 0 < length piece → at + length piece ≤ length held
IsPiece-within held piece at most is some =
    omega (arith, ap length is.here, length-take (length piece) (drop at held), length-drop at held)
