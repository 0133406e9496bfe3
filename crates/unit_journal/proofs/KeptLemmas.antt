-- What is on disk stays so through calls on other volumes, and what a crash leaves meanwhile, for who builds on it.
use Rattle.std.specs.Option.{unwrap_or}
use Rattle.std.proofs.Common.{◌≡◌, ◌≢◌, inl, inr, ℕ, Option, Some, None, List, [], ◌∷◌, ◌++◌, length, refl, sym, ap, ◌∙◌, subst}
use Rattle.ale_volumes.specs.Disk.{Disk, LeftSince}
use Rattle.ale_volumes.specs.declared.volume.Volume.{Volume}
use Rattle.ale_volumes.specs.Volume.{IsImage}
use Rattle.ale_volumes.specs.Clock.{LeavesOnly, KeepsOthers, KeepsVolume}
use Rattle.ale_volumes.proofs.ClockLemmas.{LeavesOnly-kept}
use Rattle.unit_core.specs.declared.records.Record.{Record}
use Rattle.unit_codec.specs.declared.entry.Entry.{Entry}
use Rattle.unit_codec.specs.Entries.{entry_with}
use Rattle.unit_journal.specs.Log.{AreEntries, Stands}
use Rattle.unit_journal.specs.Settled.{IsOn, IsSettled, IsBeforeOrAfter}
use Rattle.unit_journal.proofs.SettledLemmas.{IsSettled-stands, IsSettled-kept}
use Rattle.unit_journal.specs.declared.journals.SystemJournals.{SystemJournals}
use Rattle.unit_journal.specs.OnDisk.{HaveMoments, moments_at, rest_at, last_moment, MayFollow, moments_of, entries_of, entries_at}
use Rattle.unit_journal.specs.OnDisk.{IsOnDisk, StandsFound, MayBeLeft, IsKept, IsLeftOnDisk}
use Rattle.unit_journal.specs.Changes.{with_moment, SameAt, OnlyAt}
use Rattle.unit_journal.proofs.PlaceLemmas.{entries_of-push}

-- What stands for the log from before an append or after it stands for it and perhaps one more.
pub StandsFound-either : (image : List ℕ) (entries : List Entry) (moment : Option ℕ) (next : Record) → MayFollow (last_moment (moments_of entries)) moment
    → IsBeforeOrAfter entries (entry_with moment next) image → StandsFound image entries moment (Some next)
StandsFound-either image entries moment next follows (inl before) = inl before
StandsFound-either image entries moment next follows (inr after) = inr (follows, after)

-- Another moment that is set is of no matter to what is at a place.
pub SameAt-with_moment : (place : ℕ) (moment : Option ℕ) (all : SystemJournals) → SameAt place all (with_moment moment all)
SameAt-with_moment place moment all = record { journal = refl; moments = refl; rest = refl }

-- Another record with its moment is another entry.
pub entries_at-push : (place : ℕ) (before after : SystemJournals) (log : List Record) (moment : Option ℕ) (what : Record)
    → length (moments_at before place) ≡ length log
    → moments_at after place ≡ moments_at before place ++ moment ∷ []
    → entries_at after place (log ++ what ∷ []) ≡ entries_at before place log ++ entry_with moment what ∷ []
entries_at-push place before after log moment what each grown =
    ap (λ (l : List (Option ℕ)). entries_of l (log ++ what ∷ [])) grown ∙ entries_of-push (moments_at before place) log moment what each

-- Each journal still has its moments after a call that changes one place.
pub HaveMoments-one : (place : ℕ) (before after : SystemJournals) → OnlyAt place before after → HaveMoments before → HaveMoments after
HaveMoments-one place before after one have = one.moments ∙ have ∙ sym one.journals

same_moments : (place : ℕ) (before after : SystemJournals) → SameAt place before after → moments_at after place ≡ moments_at before place
same_moments place before after same = ap (λ (found : Option (List (Option ℕ))). unwrap_or found []) same.moments

-- What is kept of a system that is down stays so where its moments and that of its rest are as before.
pub IsKept-same : (place : ℕ) (before after : SystemJournals) (log : List Record) (rest : Option Record) → SameAt place before after
    → IsKept place before log rest → IsKept place after log rest
IsKept-same place before after log rest same kept =
    let moments = same_moments place before after same in
    record {
      noted = same.moments ∙ kept.noted ∙ ap (λ (l : List (Option ℕ)). Some l) (sym moments);
      each = ap length moments ∙ kept.each;
      entries = subst (λ (l : List (Option ℕ)). AreEntries (entries_of l log)) (sym moments) kept.entries;
      behind = subst (λ (l : List (Option ℕ)). MayBeLeft (entries_of l log) (rest_at after place) rest) (sym moments)
          (subst (λ (m : Option ℕ). MayBeLeft (entries_at before place log) m rest) (sym same.rest) kept.behind);
    }

module _ {D : Type 0} (disk : Disk D) where
  -- Each image of the volume of a system that is up stands for its log.
  pub IsOnDisk-stands : (vols : D) (place : ℕ) (all : SystemJournals) (log : List Record) → disk.told → IsOnDisk disk vols place all log
      → (image : List ℕ) → IsImage (disk.volume vols place) image → Stands image (entries_at all place log)
  IsOnDisk-stands vols place all log tells on_disk image is =
      IsSettled-stands disk vols on_disk.journal (entries_at all place log) (on_disk.settled tells) image
      (subst (λ (n : ℕ). IsImage (disk.volume vols n) image) (sym on_disk.on.volume) is)

  -- What is on disk is left on disk: so it is where a system merely falls.
  pub IsLeft-of : (vols : D) (place : ℕ) (all : SystemJournals) (log : List Record) → IsOnDisk disk vols place all log
      → IsLeftOnDisk disk vols place all log None
  IsLeft-of vols place all log on_disk = record {
    kept = record { noted = on_disk.noted; each = on_disk.each; entries = on_disk.on.entries; behind = tt };
    left = λ tells image is. IsOnDisk-stands vols place all log tells on_disk image is;
  }

  -- What is on disk at a place stays so while its volume is known as before, and the journal and moments at the place are.
  pub IsOnDisk-same : (old new : D) (place : ℕ) (before after : SystemJournals) (log : List Record) →
      (disk.told → disk.volume new place ≡ disk.volume old place)
      → SameAt place before after
      → IsOnDisk disk old place before log → IsOnDisk disk new place after log
  IsOnDisk-same old new place before after log known same on_disk =
      let moments = same_moments place before after same in
      record {
        journal = on_disk.journal;
        here = same.journal ∙ on_disk.here;
        noted = same.moments ∙ on_disk.noted ∙ ap (λ (l : List (Option ℕ)). Some l) (sym moments);
        each = ap length moments ∙ on_disk.each;
        on = subst (λ (l : List (Option ℕ)). IsOn on_disk.journal place (entries_of l log)) (sym moments) on_disk.on;
        settled = λ tells. subst (λ (l : List (Option ℕ)). IsSettled disk new on_disk.journal (entries_of l log)) (sym moments)
            (IsSettled-kept disk old new on_disk.journal (entries_at before place log)
            (subst (λ (n : ℕ). disk.volume new n ≡ disk.volume old n) (sym on_disk.on.volume) (known tells))
            (on_disk.settled tells));
      }

  -- The same of what is left on disk.
  pub IsLeftOnDisk-same : (old new : D) (place : ℕ) (before after : SystemJournals) (log : List Record) (rest : Option Record)
      → (disk.told → disk.volume new place ≡ disk.volume old place) → SameAt place before after
      → IsLeftOnDisk disk old place before log rest → IsLeftOnDisk disk new place after log rest
  IsLeftOnDisk-same old new place before after log rest known same on_disk =
      let moments = same_moments place before after same in
      record {
        kept = IsKept-same place before after log rest same on_disk.kept;
        left = λ tells image is. subst (λ (l : List (Option ℕ)). StandsFound image (entries_of l log) (rest_at after place) rest) (sym moments)
            (subst (λ (m : Option ℕ). StandsFound image (entries_at before place log) m rest) (sym same.rest)
            (on_disk.left tells image (subst (λ (v : Volume). IsImage v image) (known tells) is)));
      }

  -- Both stay so where another moment is set.
  pub IsOnDisk-with_moment : (vols : D) (place : ℕ) (all : SystemJournals) (log : List Record) (moment : Option ℕ)
      → IsOnDisk disk vols place all log → IsOnDisk disk vols place (with_moment moment all) log
  IsOnDisk-with_moment vols place all log moment = IsOnDisk-same vols vols place all (with_moment moment all) log (λ tells. refl)
      (SameAt-with_moment place moment all)

  pub IsLeftOnDisk-with_moment : (vols : D) (place : ℕ) (all : SystemJournals) (log : List Record) (rest : Option Record) (moment : Option ℕ)
      → IsLeftOnDisk disk vols place all log rest → IsLeftOnDisk disk vols place (with_moment moment all) log rest
  IsLeftOnDisk-with_moment vols place all log rest moment = IsLeftOnDisk-same vols vols place all (with_moment moment all) log rest (λ tells. refl)
      (SameAt-with_moment place moment all)

  -- Both stay so through a call on another volume that leaves the journal and the moments at the place.
  pub IsOnDisk-kept : (old new : D) (place n : ℕ) (before after : SystemJournals) (log : List Record) → place ≢ n
      → (disk.told → KeepsOthers disk old new n) → SameAt place before after
      → IsOnDisk disk old place before log → IsOnDisk disk new place after log
  IsOnDisk-kept old new place n before after log apart others = IsOnDisk-same old new place before after log (λ tells. ((others tells).each place apart).known)

  pub IsLeftOnDisk-kept : (old new : D) (place n : ℕ) (before after : SystemJournals) (log : List Record) (rest : Option Record) → place ≢ n
      → (disk.told → KeepsOthers disk old new n) → SameAt place before after
      → IsLeftOnDisk disk old place before log rest → IsLeftOnDisk disk new place after log rest
  IsLeftOnDisk-kept old new place n before after log rest apart others = IsLeftOnDisk-same old new place before after log rest
      (λ tells. ((others tells).each place apart).known)

  -- While other volumes are called, a crash leaves of the volume of a system that is up bytes that stand for its log.
  pub IsOnDisk-any_moment : (old new : D) (place : ℕ) (all : SystemJournals) (log : List Record) → disk.told
      → ((image : List ℕ) → LeftSince disk old place (disk.moment old) image → IsImage (disk.volume old place) image)
      → KeepsVolume disk old new place → IsOnDisk disk old place all log
      → LeavesOnly disk old new place (λ image. Stands image (entries_at all place log))
  IsOnDisk-any_moment old new place all log tells only_now kept on_disk =
      LeavesOnly-kept disk old new place _ (λ image left. IsOnDisk-stands old place all log tells on_disk image (only_now image left))
      kept

  -- And of one that is down, bytes that stand for its log, perhaps with one record more.
  pub IsLeftOnDisk-any_moment : (old new : D) (place : ℕ) (all : SystemJournals) (log : List Record) (rest : Option Record) → disk.told
      → ((image : List ℕ) → LeftSince disk old place (disk.moment old) image → IsImage (disk.volume old place) image)
      → KeepsVolume disk old new place → IsLeftOnDisk disk old place all log rest
      → LeavesOnly disk old new place (λ image. StandsFound image (entries_at all place log) (rest_at all place) rest)
  IsLeftOnDisk-any_moment old new place all log rest tells only_now kept on_disk =
      LeavesOnly-kept disk old new place _ (λ image left. on_disk.left tells image (only_now image left)) kept
