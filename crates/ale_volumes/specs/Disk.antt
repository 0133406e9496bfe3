-- What is known of volumes, of a type of them.
use Rattle.std.specs.Prelude.{ℕ, ◌≤◌, List}
use Rattle.ale_volumes.specs.declared.volume.Volume.{Volume}

-- What volumes of a type let others know: whether they tell what they hold, what is known of the volume of a number, the moment by the clock
-- that all volumes share, what a crash at a moment may have left of the volume of a number, and how many calls on it failed.
pub record Disk (V : Type 0) : Type 1 where
  pub told : Type 0
  pub volume : V → ℕ → Volume
  pub moment : V → ℕ
  pub left_at : V → ℕ → ℕ → List ℕ → Type 0
  pub faults : V → ℕ → ℕ

-- a crash at some moment from t on may have left these bytes of the volume of a number
pub record LeftSince {V : Type 0} (disk : Disk V) (vols : V) (n t : ℕ) (image : List ℕ) : Type 0 where
  pub moment : ℕ
  pub least : t ≤ moment
  pub most : moment ≤ disk.moment vols
  pub left : disk.left_at vols n moment image
