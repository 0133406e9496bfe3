-- What survives is an image.
use Rattle.std.specs.Prelude.{replicate}
use Rattle.std.proofs.Common.{◌≡◌, inl, inr, ℕ, ◌+◌, ◌-◌, ◌<◌, ◌≤◌, min, List, [], ◌∷◌, length, take, drop, get_or, sym, ◌∙◌, ap, arith, length-append, rules}
use Rattle.std.proofs.lemmas.List.{length-take, length-replicate, get_or-take, get_or-drop, drop_more, drop-drop, places, get_or_default}
use Rattle.ale_volumes.specs.declared.volume.Volume.{Volume}
use Rattle.ale_volumes.specs.declared.volume.UnsyncedWrite.{UnsyncedWrite}
use Rattle.ale_volumes.specs.declared.survivors.Survivors.{Survivors}
use Rattle.ale_volumes.specs.Volume.{IsImage, IsCovered, overwritten}
use Rattle.ale_volumes.specs.Survivors.{chosen_length, at_length, laid_over, laid, surviving}
use Rattle.ale_volumes.specs.MemoryLemmas.{length-overwritten, overwritten_apart}

-- an image of this length, outside some writes
record Keeps (n : ℕ) (synced : List ℕ) (writes : List UnsyncedWrite) (image : List ℕ) : Type 0 where
  size : length image ≡ n
  kept : (place : ℕ) → place < n → place < length synced → ¬ IsCovered writes place → get_or image place 0 ≡ get_or synced place 0

laid_over_keeps : (size : ℕ) (synced : List ℕ) (writes : List UnsyncedWrite) (image : List ℕ) (write : UnsyncedWrite) (count : ℕ) →
    ((place : ℕ) → (write.at ≤ place) × (place < write.at + length write.bytes) → IsCovered writes place) → Keeps size synced writes image →
    Keeps size synced writes (laid_over size image write count)
laid_over_keeps size synced writes image write count covers keeps =
    let at = min write.at (length image) in
    let front = take count write.bytes in
    let shorter : length front ≤ length write.bytes = omega (arith, length-take count write.bytes) in
    let long = length-overwritten image at front (omega arith) in
    let was = keeps.size in
    record {
      size = omega (arith, length-take size (overwritten image at front), long, was);
      kept = λ place low within apart.
          get_or-take size (overwritten image at front) place 0 low
          ∙ overwritten_apart image at front (length write.bytes) place (omega arith) shorter
          (λ here. apart (covers place (omega (arith, was, here.0, here.1), omega (arith, was, here.0, here.1))))
          ∙ keeps.kept place low within apart;
    }

laid_keeps : (size : ℕ) (synced : List ℕ) (all writes : List UnsyncedWrite) (counts image : List ℕ) →
    ((place : ℕ) → IsCovered writes place → IsCovered all place) → Keeps size synced all image → Keeps size synced all (laid size writes counts image)
laid_keeps size synced all [] counts image among keeps = keeps
laid_keeps size synced all (write ∷ writes) counts image among keeps =
    laid_keeps size synced all writes (drop 1 counts) _ (λ place there. among place (inr there))
    (laid_over_keeps size synced all image write (get_or counts 0 0) (λ place here. among place (inl here)) keeps)

at_length_keeps : (size filler : ℕ) (synced : List ℕ) (writes : List UnsyncedWrite) → Keeps size synced writes (at_length size filler synced)
at_length_keeps size filler synced writes = record {
  size = omega (
    arith,
    length-append (take size synced) (replicate (size - length synced) filler),
    length-take size synced,
    length-replicate
        (size - length synced) filler,
  );
  kept = λ place low within apart. search (rules, places);
}

pub surviving-image : (volume : Volume) (survivors : Survivors) → 0 < length volume.lengths → IsImage volume (surviving volume survivors)
surviving-image volume survivors some =
    let at = length volume.lengths - 1 - min survivors.length (length volume.lengths - 1) in
    let size = chosen_length volume survivors.length in
    let keeps = laid_keeps size volume.synced volume.writes volume.writes survivors.bytes _ (λ place there. there)
    (at_length_keeps size survivors.filler volume.synced volume.writes) in
    record {
      size = (at, omega arith, get_or_default volume.lengths at (length (surviving volume survivors)) 0 (omega arith) ∙ sym keeps.size);
      synced = λ place low within apart. keeps.kept place (omega (arith, keeps.size)) within apart;
    }

-- one write further
pub laid_more : (size : ℕ) (writes : List UnsyncedWrite) (counts image : List ℕ) (i : ℕ) (d : UnsyncedWrite) → i < length writes
    → laid size (drop i writes) (drop i counts) image ≡ laid size (drop (i + 1) writes) (drop (i + 1) counts)
    (laid_over size image (get_or writes i d) (get_or counts i 0))
laid_more size writes counts image i d within =
    let first : get_or (drop i counts) 0 0 ≡ get_or counts i 0 = get_or-drop i counts 0 0 ∙ ap (λ (k : ℕ). get_or counts k 0) (omega arith) in
    ap (λ (l : List UnsyncedWrite). laid size l (drop i counts) image) (drop_more writes i d within)
    ∙ ap (λ (l : List ℕ). laid size (drop (i + 1) writes) l (laid_over size image (get_or writes i d) (get_or (drop i counts) 0 0))) (drop-drop 1 i counts)
    ∙ ap (λ (n : ℕ). laid size (drop (i + 1) writes) (drop (i + 1) counts) (laid_over size image (get_or writes i d) n)) first

pub length-laid_over : (image : List ℕ) (write : UnsyncedWrite) (count : ℕ) → length (laid_over (length image) image write count) ≡ length image
length-laid_over image write count =
    let front = take count write.bytes in
    omega (
      arith,
      length-take (length image) (overwritten image (min write.at (length image)) front),
      length-overwritten image
          (min write.at (length image)) front (omega arith),
    )
