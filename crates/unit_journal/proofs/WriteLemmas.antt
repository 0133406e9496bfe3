-- What the write of a record leaves, from what its append to the journal at the place does.
use Rattle.std.specs.Prelude.{Err, slice_get, slice_set, slice_index_or}
use Rattle.std.specs.Option.{unwrap_or}
use Rattle.std.proofs.Common.{◌≡◌, ◌↔◌, ◌+◌, ◌<◌, ◌≤◌, ℕ, Option, Some, None, List, [], ◌∷◌, ◌++◌, length, refl, sym, ap, ◌∙◌, subst, arith, length-append}
use Rattle.std.proofs.lemmas.List.{get_or-set_other, length-set}
use Rattle.std.proofs.lemmas.Option.{same_Some, slice_get_within}
use Rattle.ale_base.proofs.ListLemmas.{AllByRecursion-append}
use Rattle.ale_volumes.specs.Disk.{Disk, LeftSince}
use Rattle.ale_volumes.specs.Volume.{IsImage}
use Rattle.ale_volumes.specs.Clock.{LeavesOnly}
use Rattle.byte_journal.specs.Log.{most_bytes}
use Rattle.unit_core.specs.declared.records.Record.{Record}
use Rattle.unit_codec.specs.declared.entry.Entry.{Entry}
use Rattle.unit_codec.specs.Condition.{IsWritable}
use Rattle.unit_codec.specs.Entries.{EntryHasSpelling, entry_with, entry_spelling}
use Rattle.unit_journal.specs.declared.journal.UnitJournal.{UnitJournal}
use Rattle.unit_journal.specs.Settled.{bodies, IsAtEnd, IsOn, IsSettled, IsBeforeOrAfter}
use Rattle.unit_journal.specs.declared.journals.SystemJournals.{SystemJournals}
use Rattle.unit_journal.specs.OnDisk.{moments_at, last_moment, next_moment, MayFollow, moments_of, entries_of, entries_at, length_with, StandsFound, IsOnDisk}
use Rattle.unit_journal.specs.OnDisk.{IsLeftOnDisk}
use Rattle.byte_journal.specs.declared.fault.AppendFault.{AppendFault}
use Rattle.byte_journal.specs.declared.fault.AppendFault.TheVariants.{Volume as VolumeFault, Full, OutOfMemory}
use Rattle.unit_journal.specs.Changes.{with_rest, LeftBy, OnlyAt}
use Rattle.unit_journal.specs.steps.Moments.{rests_after, with_one_more}
use Rattle.unit_journal.proofs.PlaceLemmas.{entries_of-push, got-set_other}
use Rattle.unit_journal.proofs.KeptLemmas.{StandsFound-either}
use Rattle.unit_journal.proofs.OrderLemmas.{next-follows}

-- what an append that succeeded does to a journal, as `MovesOn` says it
pub record Moved (was now : UnitJournal) (entry : Entry) : Type 0 where
  pub volume : (bodies now).volume ≡ (bodies was).volume
  pub at_end : (log : List Entry) → IsAtEnd was log → IsAtEnd now (log ++ entry ∷ [])

-- no call changes what is at other places
pub OnlyAt-none : (place : ℕ) (all : SystemJournals) → OnlyAt place all all
OnlyAt-none place all = record {
  journals = refl;
  moments = refl;
  others = λ other apart.
      record { journal = refl; moments = refl; rest = refl };
  moment = refl;
}

-- a journal and one moment more at a place
pub OnlyAt-written : (place : ℕ) (all : SystemJournals) (now : UnitJournal) (moments : List (List (Option ℕ))) (moment : Option ℕ)
    → moments ≡ with_one_more all.moments place moment
    → OnlyAt place all (record all { journals = slice_set all.journals place now; moments = moments })
OnlyAt-written place all now moments moment is =
    let more = unwrap_or (slice_get all.moments place) [] ++ moment ∷ [] in
    record {
      journals = length-set all.journals place now;
      moments = ap (λ (l : List (List (Option ℕ))). length l) is ∙ length-set all.moments place more;
      others = λ other apart. record {
        journal = got-set_other all.journals place other now apart;
        moments = ap (λ (l : List (List (Option ℕ))). slice_get l other) is ∙ got-set_other all.moments place other more apart;
        rest = refl;
      };
      moment = refl;
    }

-- nor does the moment of a record whose write failed
OnlyAt-rest : (place : ℕ) (moment : Option ℕ) (all : SystemJournals) → OnlyAt place all (with_rest place moment all)
OnlyAt-rest place moment all = record {
  journals = refl;
  moments = refl;
  others = λ other apart. record { journal = refl; moments = refl; rest = get_or-set_other all.rests place other moment None apart };
  moment = refl;
}

-- where journals and moments are as before, what is kept of records whose write failed is all that may have changed
pub unchanged-but : (all : SystemJournals) (journals : List UnitJournal) (moments : List (List (Option ℕ))) (rests other : List (Option ℕ))
    → journals ≡ all.journals → moments ≡ all.moments → rests ≡ other
    → record all { journals = journals; moments = moments; rests = rests } ≡ record all { rests = other }
unchanged-but all journals moments rests other same same_too is = λ i. record all { journals = same i; moments = same_too i; rests = is i }

-- what a write that failed leaves
module _ (all : SystemJournals) (place k : ℕ) (written : Option ℕ) (at : k ≡ place) (set : written ≡ next_moment all place) where
  -- all but the moments of records whose write failed
  abbrev pub left_by : AppendFault → SystemJournals
  left_by fault = record all { rests = rests_after all.rests k written fault }

  pub LeftBy-failed : (T : Type 0) (fault : AppendFault) → LeftBy {T = T} place all (left_by fault) (Err fault)
  LeftBy-failed T VolumeFault = ap (λ (i : ℕ). with_rest i written all) at ∙ ap (λ (m : Option ℕ). with_rest place m all) set
  LeftBy-failed T (Full size) = refl
  LeftBy-failed T OutOfMemory = refl

  pub OnlyAt-failed : (fault : AppendFault) → OnlyAt place all (left_by fault)
  OnlyAt-failed VolumeFault = subst (λ (i : ℕ). OnlyAt i all (with_rest k written all)) at (OnlyAt-rest k written all)
  OnlyAt-failed (Full size) = OnlyAt-none place all
  OnlyAt-failed OutOfMemory = OnlyAt-none place all

  pub left-unless : (fault : AppendFault) → fault ≡ OutOfMemory → left_by fault ≡ all
  left-unless fault is = ap left_by is

-- a place of a list, where another name for it holds something
pub within-place : {A : Type 0} (xs : List A) (k place : ℕ) (x : A) → k ≡ place → slice_get xs place ≡ Some x → k < length xs
within-place xs k place x at here = slice_get_within xs k x (ap (λ (i : ℕ). slice_get xs i) at ∙ here)

-- when a journal at the end of these entries is full, by another name for the moment
pub full-here : {Is : Type 0} (was : UnitJournal) (entries : List Entry) (moment other : Option ℕ) (next : Record) (place : ℕ)
    → IsAtEnd was entries → moment ≡ other
    → (Is ↔ ((place ≡ (bodies was).gate + 6 + length (entry_spelling (entry_with moment next))) × (most_bytes < place)))
    → (Is ↔ ((place ≡ length_with entries (entry_with other next)) × (most_bytes < place)))
full-here {Is = Is} was entries moment other next place at_end same full =
    subst (λ (n : ℕ). Is ↔ ((place ≡ n) × (most_bytes < place)))
    (ap (λ (m : Option ℕ). (bodies was).gate + 6 + length (entry_spelling (entry_with m next))) same
    ∙ ap (λ (gate : ℕ). gate + 6 + length (entry_spelling (entry_with other next))) at_end) full

module _ {D : Type 0} (disk : Disk D) (old : D) (place : ℕ) (all : SystemJournals) (log : List Record) (was : UnitJournal)
    (here : slice_get all.journals place ≡ Some was) (on_disk : IsOnDisk disk old place all log) where
  pub same-journal : on_disk.journal ≡ was
  same-journal = same_Some on_disk.journal was (sym on_disk.here ∙ here)

  -- the journal at the place is on the place's volume, at the end of the log
  pub on-here : IsOn was place (entries_at all place log)
  on-here = subst (λ (journal : UnitJournal). IsOn journal place (entries_at all place log)) same-journal on_disk.on

  pub settled-here : disk.told → IsSettled disk old was (entries_at all place log)
  settled-here tells = subst (λ (journal : UnitJournal). IsSettled disk old journal (entries_at all place log)) same-journal (on_disk.settled tells)

  -- after an append that succeeded, and with the moment noted, the log on disk has the record
  pub IsOnDisk-written : (new : D) (after : SystemJournals) (next : Record) (moment : Option ℕ) (now : UnitJournal) → slice_get after.journals place ≡ Some now
      → slice_get after.moments place ≡ Some (moments_at all place ++ moment ∷ [])
      → EntryHasSpelling (entry_with moment next) → Moved was now (entry_with moment next)
      → (disk.told → (l : List Entry) → IsSettled disk old was l → IsSettled disk new now (l ++ entry_with moment next ∷ []))
      → IsOnDisk disk new place after (log ++ next ∷ [])
  IsOnDisk-written new after next moment now there noted spelled moved added =
      let moments : moments_at after place ≡ moments_at all place ++ moment ∷ [] = ap (λ (found : Option (List (Option ℕ))). unwrap_or found []) noted in
      let more : entries_at after place (log ++ next ∷ []) ≡ entries_at all place log ++ entry_with moment next ∷ [] =
      ap (λ (l : List (Option ℕ)). entries_of l (log ++ next ∷ [])) moments ∙ entries_of-push (moments_at all place) log moment next on_disk.each in
      record {
        journal = now;
        here = there;
        noted = noted ∙ ap (λ (l : List (Option ℕ)). Some l) (sym moments);
        each = ap length moments
            ∙ (let long = on_disk.each in omega (arith, long, length-append (moments_at all place) (moment ∷ []), length-append log (next ∷ [])));
        on = subst (λ (l : List Entry). IsOn now place l) (sym more) (record {
          volume = moved.volume ∙ on-here.volume;
          at_end = moved.at_end (entries_at all place log) on-here.at_end;
          entries = AllByRecursion-append EntryHasSpelling (entries_at all place log) (entry_with moment next ∷ []) on-here.entries (spelled, tt);
        });
        settled = λ tells. subst (λ (l : List Entry). IsSettled disk new now l) (sym more) (added tells (entries_at all place log) (settled-here tells));
      }

  -- where a journal stays settled, what is on disk is as before
  pub IsOnDisk-unwritten : (new : D) → (disk.told → IsSettled disk new was (entries_at all place log)) → IsOnDisk disk new place all log
  IsOnDisk-unwritten new settled = record { journal = was; here = here; noted = on_disk.noted; each = on_disk.each; on = on-here; settled = settled }

  -- where a crash leaves the log from before an append or after it, the system is left with it and perhaps the record
  pub IsLeft-torn : (new : D) (next : Record) (written : Option ℕ) → IsWritable next
      → written ≡ next_moment all place
      → (disk.told → (image : List ℕ) → disk.moment old ≤ disk.moment new → IsImage (disk.volume new place) image →
      LeftSince disk new place (disk.moment old) image)
      → (disk.told → LeavesOnly disk old new place (IsBeforeOrAfter (entries_at all place log) (entry_with written next)))
      → (rests : List (Option ℕ)) → slice_index_or rests place None ≡ written
      → IsLeftOnDisk disk new place (record all { rests = rests }) log (Some next)
  IsLeft-torn new next written writable set counts_now leaves rests found =
      let follows : MayFollow (last_moment (moments_of (entries_at all place log))) written =
      subst (λ (m : Option ℕ). MayFollow (last_moment (moments_of (entries_at all place log))) m) (sym set) (next-follows place all log on_disk.each) in
      record {
        kept = record {
          noted = on_disk.noted;
          each = on_disk.each;
          entries = on_disk.on.entries;
          behind = (writable, subst (λ (m : Option ℕ). MayFollow (last_moment (moments_of (entries_at all place log))) m) (sym found) follows);
        };
        left = λ tells image is. subst (λ (m : Option ℕ). StandsFound image (entries_at all place log) m (Some next))
            (sym found)
            (StandsFound-either image (entries_at all place log) written next follows
            ((leaves tells).each image (counts_now tells image (leaves tells).later is)));
      }
