-- What a crash leaves of a volume while it is read: images of it as it was.
use Rattle.std.proofs.Common.{◌≡◌, ℕ, List, subst}
use Rattle.ale_volumes.specs.Disk.{Disk, LeftSince}
use Rattle.ale_volumes.specs.declared.volume.Volume.{Volume}
use Rattle.ale_volumes.specs.Volume.{IsImage}
use Rattle.ale_volumes.specs.Clock.{Elapses, LeavesOnly}
use Rattle.ale_volumes.proofs.ClockLemmas.{goes_on, joined, started, weaker}

module _ {D : Type 0} (disk : Disk D) (n : ℕ) (old : D) where
  -- of a volume a crash leaves only images of it as it was
  abbrev pub IsReadTo : D → Type 0
  IsReadTo new = LeavesOnly disk old new n (IsImage (disk.volume old n))

  -- nothing was called
  pub read-none : ((image : List ℕ) → LeftSince disk old n (disk.moment old) image → IsImage (disk.volume old n) image) → IsReadTo old
  read-none only_now = started disk old n _ only_now

  -- a call more that leaves it as it was
  pub read-call : (mid new : D) → IsReadTo mid → Elapses disk mid new n → disk.volume new n ≡ disk.volume old n → IsReadTo new
  read-call mid new so_far time same = goes_on disk old mid new n _ so_far time (λ image is. subst (λ (v : Volume). IsImage v image) same is)

  -- more of it was read
  pub read-more : (mid new : D) → IsReadTo mid → disk.volume mid n ≡ disk.volume old n → LeavesOnly disk mid new n (IsImage (disk.volume mid n)) →
      IsReadTo new
  read-more mid new so_far same more =
      joined disk old mid new n _ so_far (weaker disk mid new n _ _ (λ image is. subst (λ (v : Volume). IsImage v image) same is) more)
