-- What a crash at any moment leaves. All volumes share one clock, which does not fall.
use Rattle.std.specs.Prelude.{◌≡◌, ◌≢◌, ◌↔◌, ℕ, ◌<◌, ◌≤◌, List}
use Rattle.ale_volumes.specs.Disk.{Disk, LeftSince}
use Rattle.ale_volumes.specs.Volume.{IsImage}

-- what a crash at a moment up to now leaves of volume n stays what it is
abbrev pub PastStays : {D : Type 0} → Disk D → D → D → ℕ → Type 0
PastStays disk old new n =
    (moment : ℕ) (image : List ℕ) → moment ≤ disk.moment old → disk.left_at new n moment image ↔ disk.left_at old n moment image

-- Time goes on: what an earlier crash left of volume n stays, and a later one leaves an image of now.
pub record Elapses {D : Type 0} (disk : Disk D) (old new : D) (n : ℕ) : Type 0 where
  pub later : disk.moment old ≤ disk.moment new
  pub past : PastStays disk old new n
  pub now : (moment : ℕ) (image : List ℕ) → disk.moment old < moment → moment ≤ disk.moment new → disk.left_at new n moment image
      → IsImage (disk.volume new n) image

-- volume n is known as before: what an earlier crash left of it stays, and a later one leaves what a crash left before
pub record StaysAs {D : Type 0} (disk : Disk D) (old new : D) (n : ℕ) : Type 0 where
  pub known : disk.volume new n ≡ disk.volume old n
  pub past : PastStays disk old new n
  pub still : (moment : ℕ) (image : List ℕ) → disk.moment old ≤ moment → moment ≤ disk.moment new → disk.left_at new n moment image
      → disk.left_at old n (disk.moment old) image

-- all volumes but n are known as before
pub record KeepsOthers {D : Type 0} (disk : Disk D) (old new : D) (n : ℕ) : Type 0 where
  pub each : (m : ℕ) → m ≢ n → StaysAs disk old new m

-- time went on, and volume n is known as before
pub record KeepsVolume {D : Type 0} (disk : Disk D) (old new : D) (n : ℕ) : Type 0 where
  pub later : disk.moment old ≤ disk.moment new
  pub stays : StaysAs disk old new n

-- A crash at any moment since old leaves of volume n what has P; and what an earlier one left stays.
pub record LeavesOnly {D : Type 0} (disk : Disk D) (old new : D) (n : ℕ) (P : List ℕ → Type 0) : Type 0 where
  pub later : disk.moment old ≤ disk.moment new
  pub past : PastStays disk old new n
  pub each : (image : List ℕ) → LeftSince disk new n (disk.moment old) image → P image
