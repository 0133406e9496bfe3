-- Journals through calls on other volumes, for who builds on them.
use Rattle.std.proofs.Common.{◌≡◌, ◌+◌, ℕ, List, [], ◌∷◌, ◌++◌, length, sym, ◌∙◌, ap, subst, arith}
use Rattle.ale_volumes.specs.Disk.{Disk, LeftSince}
use Rattle.ale_volumes.specs.declared.volume.Volume.{Volume}
use Rattle.ale_volumes.specs.Volume.{IsImage, settled}
use Rattle.ale_volumes.specs.Clock.{LeavesOnly, KeepsVolume}
use Rattle.ale_volumes.proofs.ClockLemmas.{LeavesOnly-kept}
use Rattle.ale_volumes.proofs.ImageLemmas.{settled-image}
use Rattle.byte_journal.specs.declared.journal.Journal.{Journal}
use Rattle.byte_journal.specs.Log.{Stands}
use Rattle.byte_journal.specs.Settled.{IsClosed, IsSettled, IsAtEnd}
use Rattle.byte_journal.proofs.AppendLemmas.{closed_stands}
use Rattle.byte_journal.proofs.LogLemmas.{length-records-push}

-- An append moves the end of the log by its record: the gate, four bytes of length, and the body.
pub IsAtEnd-push : (old new : Journal) (log : List (List ℕ)) (body : List ℕ) → new.gate ≡ old.gate + 5 + length body → IsAtEnd old log →
    IsAtEnd new (log ++ body ∷ [])
IsAtEnd-push old new log body moved at_end = omega (arith, moved, at_end, length-records-push log body)

module _ {D : Type 0} (disk : Disk D) where
  -- Each image of a settled journal's volume stands for its log.
  pub IsSettled-stands : (vols : D) (journal : Journal) (log : List (List ℕ)) → IsSettled disk vols journal log → (image : List ℕ) →
      IsImage (disk.volume vols journal.volume) image → Stands image log
  IsSettled-stands vols journal log s image is =
      let same = settled-image (disk.volume vols journal.volume).contents image (subst (λ (v : Volume). IsImage v image) s.durable is) in
      subst (λ (b : List ℕ). Stands b log) (sym same) (closed_stands (disk.volume vols journal.volume).contents log s.closed)

  -- A journal that is settled stays so where its volume is known as before.
  pub IsSettled-kept : (old new : D) (journal : Journal) (log : List (List ℕ)) → disk.volume new journal.volume ≡ disk.volume old journal.volume →
      IsSettled disk old journal log → IsSettled disk new journal log
  IsSettled-kept old new journal log known s = record {
    closed = subst (λ (v : Volume). IsClosed v.contents log) (sym known) s.closed;
    place = s.place;
    durable = known ∙ s.durable ∙ ap (λ (v : Volume). settled v.contents) (sym known);
  }

  -- While other volumes are called, a crash leaves of a settled journal's volume bytes that stand for its log.
  pub IsSettled-any_moment : (old new : D) (journal : Journal) (log : List (List ℕ)) →
      ((image : List ℕ) → LeftSince disk old journal.volume (disk.moment old) image → IsImage (disk.volume old journal.volume) image)
      → KeepsVolume disk old new journal.volume → IsSettled disk old journal log →
      LeavesOnly disk old new journal.volume (λ image. Stands image log)
  IsSettled-any_moment old new journal log only_now kept s =
      LeavesOnly-kept disk old new journal.volume _ (λ image left. IsSettled-stands old journal log s image (only_now image left)) kept
