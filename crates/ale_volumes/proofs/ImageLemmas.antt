-- What a crash leaves of a volume that was settled, and after one write to it.
use Rattle.std.specs.Prelude.{Result, Ok, Err, OnOk, OnErr, IsErrOf}
use Rattle.std.proofs.Common.{◌≡◌, ◌⊎◌, inl, inr, ℕ, zero, suc, ◌+◌, ◌<◌, ◌≤◌, max, List, [], ◌∷◌, length, take, drop, refl, sym, ◌∙◌, ap, subst, arith}
use Rattle.std.specs.List.{Contains}
use Rattle.std.proofs.lemmas.List.{ext_get_or, get_or-take, get_or-drop, length-take, length-drop}
use Rattle.ale_volumes.specs.declared.volume.Volume.{Volume}
use Rattle.ale_volumes.specs.declared.volume_end.VolumeEnd.{VolumeEnd}
use Rattle.ale_volumes.specs.declared.volume_end.VolumeEnd.TheVariants.{Failed, OutOfMemory}
use Rattle.ale_volumes.specs.declared.volume_end.VolumeFailed.{VolumeFailed}
use Rattle.ale_volumes.specs.Volume.{IsImage, IsCovered, settled, written, overwritten, Torn, FailsToWrite}
use Rattle.ale_volumes.specs.MemoryLemmas.{length-overwritten, take-overwritten, drop-overwritten}

-- Of a settled volume a crash leaves what it holds.
pub settled-image : (bytes image : List ℕ) → IsImage (settled bytes) image → image ≡ bytes
settled-image bytes image is =
    let at = is.size in
    let long : length image ≡ length bytes = single (length bytes) (length image) is.size in
    ext_get_or 0 image bytes long (λ i low. is.synced i low (omega arith) (λ covered. covered))
  where
    single : (n m : ℕ) → Contains (n ∷ []) m → m ≡ n
    single n m (zero, low, same) = sym same
    single n m (suc k, low, same) = absurd (omega arith)

two : (a b m : ℕ) → Contains (a ∷ b ∷ []) m → (m ≡ a) ⊎ (m ≡ b)
two a b m (zero, low, same) = inl (sym same)
two a b m (suc zero, low, same) = inr (sym same)
two a b m (suc (suc k), low, same) = absurd (omega arith)

-- After one write to it each image is torn in the range of the write.
pub written-image : (bytes : List ℕ) (at : ℕ) (more image : List ℕ) → at ≤ length bytes → IsImage (written (settled bytes) at more) image →
    Torn at (length more) bytes image
written-image bytes at more image within is = record {
  before = ext_get_or 0 (take at image) (take at bytes) (omega (arith, length-take at image, length-take at bytes, no_shorter)) (λ i low.
      let short : i < at = omega (arith, low, length-take at image) in
      get_or-take at image i 0 short ∙ is.synced i (omega (arith, no_shorter)) (omega arith) (apart i (λ here. omega (arith, here.0)))
      ∙ sym (get_or-take at bytes i 0 short));
  behind = ext_get_or 0 (drop (at + length more) image) (drop (at + length more) bytes)
      (omega (arith, length-drop (at + length more) image, length-drop (at + length more) bytes, sizes)) (λ i low.
      let past : at + length more + i < length image = omega (arith, low, length-drop (at + length more) image) in
      get_or-drop (at + length more) image i 0 ∙ is.synced (at + length more + i) past (omega (arith, past, sizes))
      (apart (at + length more + i) (λ here. omega (arith, here.1))) ∙ sym (get_or-drop (at + length more) bytes i 0));
  size = sizes;
}
  where
    grown : length (overwritten bytes at more) ≡ max (length bytes) (at + length more)
    grown = length-overwritten bytes at more within

    sizes : (length image ≡ length bytes) ⊎ (length image ≡ max (length bytes) (at + length more))
    sizes = elim (two (length bytes) (length (overwritten bytes at more)) (length image) is.size) [
      | inl old ↦ inl old
      | inr new ↦ inr (new ∙ grown)
    ]

    no_shorter : length bytes ≤ length image
    no_shorter = omega (arith, sizes)

    apart : (i : ℕ) → ((at ≤ i) × (i < at + length more) → ⊥) → IsCovered (written (settled bytes) at more).writes i → ⊥
    apart i outside (inl here) = outside here
    apart i outside (inr none) = none

-- So it is where the write failed.
pub failed-image : (bytes : List ℕ) (at : ℕ) (more : List ℕ) (new : Volume) (image : List ℕ) → at ≤ length bytes → FailsToWrite (settled bytes) at more new →
    IsImage new image → Torn at (length more) bytes image
failed-image bytes at more new image within fails is =
    let same = subst (λ (v : Volume). IsImage v image) fails.counts is in
    written-image bytes at more image within (record { size = same.size; synced = same.synced })

-- Bytes are a torn form of themselves, at any place.
pub torn-none : (at n : ℕ) (bytes : List ℕ) → Torn at n bytes bytes
torn-none at n bytes = record { before = refl; behind = refl; size = inl refl }

-- Bytes that were written over others are a torn form of these.
pub overwritten-torn : (old : List ℕ) (at : ℕ) (bytes : List ℕ) → at ≤ length old → Torn at (length bytes) old (overwritten old at bytes)
overwritten-torn old at bytes within = record {
  before = take-overwritten old at bytes within;
  behind = drop-overwritten old at bytes within;
  size = inr (length-overwritten old at bytes within);
}

-- After a write, however it ended, a read gives what it gave, torn in the range of the write.
pub write-left : (result : Result (Unit {0}) VolumeEnd) (old new : Volume) (at : ℕ) (more : List ℕ) → at ≤ length old.contents
    → OnOk result (new ≡ written old at more) → (IsErrOf result Failed → FailsToWrite old at more new) → (IsErrOf result OutOfMemory → new ≡ old)
    → Torn at (length more) old.contents new.contents
write-left (Ok done) old new at more within is failed refused =
    subst (λ (v : Volume). Torn at (length more) old.contents v.contents) (sym is) (overwritten-torn old.contents at more within)
write-left (Err Failed) old new at more within is failed refused = (failed refl).left
write-left (Err OutOfMemory) old new at more within is failed refused =
    subst (λ (v : Volume). Torn at (length more) old.contents v.contents) (sym (refused refl)) (torn-none at (length more) old.contents)

-- After a sync, however it ended, a read gives what it gave.
pub sync-left : (result : Result (Unit {0}) VolumeFailed) (old new : Volume) → OnOk result (new ≡ settled old.contents) → OnErr result (new ≡ old) →
    new.contents ≡ old.contents
sync-left (Ok done) old new is kept = ap (λ (v : Volume). v.contents) is
sync-left (Err fault) old new is kept = ap (λ (v : Volume). v.contents) kept

-- After a write to a volume that was settled, however it ended, each image is torn in the range of the write.
pub write-image : (result : Result (Unit {0}) VolumeEnd) (old new : Volume) (at : ℕ) (more : List ℕ) → old ≡ settled old.contents → at ≤ length old.contents
    → OnOk result (new ≡ written old at more) → (IsErrOf result Failed → FailsToWrite old at more new) → (IsErrOf result OutOfMemory → new ≡ old)
    → (image : List ℕ) → IsImage new image → Torn at (length more) old.contents image
write-image (Ok done) old new at more durable within is failed refused image left =
    written-image old.contents at more image within
    (subst (λ (v : Volume). IsImage (written v at more) image) durable (subst (λ (v : Volume). IsImage v image) is left))
write-image (Err Failed) old new at more durable within is failed refused image left =
    failed-image old.contents at more new image within (subst (λ (v : Volume). FailsToWrite v at more new) durable (failed refl)) left
write-image (Err OutOfMemory) old new at more durable within is failed refused image left =
    let same = settled-image old.contents image (subst (λ (v : Volume). IsImage v image) (refused refl ∙ durable) left) in
    subst (λ (i : List ℕ). Torn at (length more) old.contents i) (sym same) (torn-none at (length more) old.contents)

-- After a sync, however it ended, a crash leaves only what it left before.
pub sync-image : (result : Result (Unit {0}) VolumeFailed) (old new : Volume) → OnOk result (new ≡ settled old.contents) → OnErr result (new ≡ old) →
    IsImage old old.contents
    → (image : List ℕ) → IsImage new image → IsImage old image
sync-image (Ok done) old new is kept read image left =
    let same = settled-image old.contents image (subst (λ (v : Volume). IsImage v image) is left) in
    subst (λ (i : List ℕ). IsImage old i) (sym same) read
sync-image (Err fault) old new is kept read image left = subst (λ (v : Volume). IsImage v image) kept left
