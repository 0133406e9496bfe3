-- Journals of entries that are settled, also through calls on other volumes.
use Rattle.std.proofs.Common.{◌≡◌, inl, inr, ℕ, List, [], ◌∷◌, ◌++◌, sym, subst}
use Rattle.std.proofs.lemmas.List.{map-append}
use Rattle.ale_base.proofs.ListLemmas.{AllByRecursion-append}
use Rattle.ale_volumes.specs.Disk.{Disk, LeftSince}
use Rattle.ale_volumes.specs.Volume.{IsImage}
use Rattle.ale_volumes.specs.Clock.{LeavesOnly, KeepsVolume}
use Rattle.ale_volumes.proofs.ClockLemmas.{started, weaker, LeavesOnly-kept}
use Rattle.byte_journal.specs.Log as bodies_log
use Rattle.byte_journal.specs.Settled as bodies_settled
use Rattle.byte_journal.proofs.SettledLemmas as bodies_lemmas
use Rattle.unit_codec.specs.declared.entry.Entry.{Entry}
use Rattle.unit_codec.specs.Entries.{EntryHasSpelling, entry_spelling}
use Rattle.unit_journal.specs.declared.journal.UnitJournal.{UnitJournal}
use Rattle.unit_journal.specs.Log.{AreEntries, bodies_of, Stands}
use Rattle.unit_journal.specs.Settled.{bodies, IsSettled, IsBeforeOrAfter}

-- one entry more is one body more
pub bodies_of-push : (log : List Entry) (entry : Entry) → bodies_of (log ++ entry ∷ []) ≡ bodies_of log ++ entry_spelling entry ∷ []
bodies_of-push log entry = map-append entry_spelling log (entry ∷ [])

-- what stands for the bodies of a log, with one more or without, stands for its entries
pub before_or_after : (log : List Entry) (entry : Entry) (image : List ℕ) → AreEntries log → EntryHasSpelling entry →
    bodies_settled.IsBeforeOrAfter (bodies_of log) (entry_spelling entry) image → IsBeforeOrAfter log entry image
before_or_after log entry image are is (inl before) = inl (record { bodies = before; entries = are })
before_or_after log entry image are is (inr after) = inr (record {
  bodies = subst (λ (l : List (List ℕ)). bodies_log.Stands image l) (sym (bodies_of-push log entry)) after;
  entries = AllByRecursion-append EntryHasSpelling log (entry ∷ []) are (is, tt);
})

module _ {D : Type 0} (disk : Disk D) where
  -- Each image of a settled journal's volume stands for its log.
  pub IsSettled-stands : (vols : D) (journal : UnitJournal) (log : List Entry) → IsSettled disk vols journal log → (image : List ℕ) →
      IsImage (disk.volume vols (bodies journal).volume) image → Stands image log
  IsSettled-stands vols journal log s image is = record
      { bodies = bodies_lemmas.IsSettled-stands disk vols (bodies journal) (bodies_of log) s.settled image is; entries = s.entries }

  -- A journal that is settled stays so where its volume is known as before.
  pub IsSettled-kept : (old new : D) (journal : UnitJournal) (log : List Entry)
      → disk.volume new (bodies journal).volume ≡ disk.volume old (bodies journal).volume
      → IsSettled disk old journal log → IsSettled disk new journal log
  IsSettled-kept old new journal log known s = record {
    settled = bodies_lemmas.IsSettled-kept disk old new (bodies journal) (bodies_of log) known s.settled;
    entries = s.entries;
  }

  -- While other volumes are called, a crash leaves of a settled journal's volume bytes that stand for its log.
  pub IsSettled-any_moment : (old new : D) (journal : UnitJournal) (log : List Entry) →
      ((image : List ℕ) → LeftSince disk old (bodies journal).volume (disk.moment old) image → IsImage (disk.volume old (bodies journal).volume) image)
      → KeepsVolume disk old new (bodies journal).volume → IsSettled disk old journal log →
      LeavesOnly disk old new (bodies journal).volume (λ image. Stands image log)
  IsSettled-any_moment old new journal log only_now kept s =
      LeavesOnly-kept disk old new (bodies journal).volume _
      (λ image left. IsSettled-stands old journal log s image (only_now image left)) kept

  -- Where nothing is called, a crash leaves the log from before an append.
  pub unappended : (vols : D) (journal : UnitJournal) (log : List Entry) (entry : Entry) →
      ((image : List ℕ) → LeftSince disk vols (bodies journal).volume (disk.moment vols) image → IsImage (disk.volume vols (bodies journal).volume) image)
      → IsSettled disk vols journal log → LeavesOnly disk vols vols (bodies journal).volume (IsBeforeOrAfter log entry)
  unappended vols journal log entry only_now s =
      started disk vols (bodies journal).volume (IsBeforeOrAfter log entry)
      (λ image left. inl (IsSettled-stands vols journal log s image (only_now image left)))

  -- What an append to the bodies leaves, said of entries.
  pub appended : (old new : D) (journal : UnitJournal) (log : List Entry) (entry : Entry) → IsSettled disk old journal log → EntryHasSpelling entry
      → LeavesOnly disk old new (bodies journal).volume (bodies_settled.IsBeforeOrAfter (bodies_of log) (entry_spelling entry))
      → LeavesOnly disk old new (bodies journal).volume (IsBeforeOrAfter log entry)
  appended old new journal log entry s is leaves =
      weaker disk old new (bodies journal).volume _ (IsBeforeOrAfter log entry)
      (λ image before. before_or_after log entry image s.entries is before) leaves
