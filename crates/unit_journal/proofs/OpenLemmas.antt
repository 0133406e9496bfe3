-- What the opening of a system's journal leaves, from what the opening of its volume gives.
use Rattle.std.specs.Option.{unwrap_or}
use Rattle.std.proofs.Common.{◌≡◌, ℕ, Option, Some, List, [], ◌∷◌, length, refl, sym, ap, ◌∙◌, subst, arith, length-append}
use Rattle.ale_base.proofs.ListLemmas.{slice_get-front}
use Rattle.ale_base.proofs.SnocLemmas.{slice_get-last}
use Rattle.ale_volumes.specs.Disk.{Disk}
use Rattle.unit_core.specs.declared.records.Record.{Record}
use Rattle.unit_codec.specs.declared.entry.Entry.{Entry}
use Rattle.unit_journal.specs.declared.journal.UnitJournal.{UnitJournal}
use Rattle.unit_journal.specs.Settled.{IsOn, IsSettled}
use Rattle.unit_journal.specs.declared.journals.SystemJournals.{SystemJournals}
use Rattle.unit_journal.specs.OnDisk.{count_of, HaveMoments, moments_at, entries_of, entries_at, IsOnDisk}
use Rattle.unit_journal.specs.Changes.{with_system, IsNext}

-- one system more leaves all others as they are
pub IsNext-with_system : (all after : SystemJournals) (journal : UnitJournal) (moments : List (Option ℕ)) → after ≡ with_system all journal moments
    → HaveMoments all → IsNext all after
IsNext-with_system all after journal moments is have = subst (λ (a : SystemJournals). IsNext all a) (sym is) (record {
  count = length-append all.journals (journal ∷ []);
  moments = omega (arith, have, length-append all.journals (journal ∷ []), length-append all.moments (moments ∷ []));
  others = λ other before. record {
    journal = slice_get-front all.journals (journal ∷ []) other before;
    moments = slice_get-front all.moments (moments ∷ []) other (omega (arith, have, before));
    rest = refl;
  };
  moment = refl;
})

-- a system that was opened is on disk with the records of its entries
pub IsOnDisk-opened : {D : Type 0} (disk : Disk D) (vols : D) (all after : SystemJournals) (journal : UnitJournal)
    (moments : List (Option ℕ)) (log : List Record) (entries : List Entry)
    → after ≡ with_system all journal moments → HaveMoments all → length moments ≡ length log → entries_of moments log ≡ entries
    → IsOn journal (count_of all) entries → (disk.told → IsSettled disk vols journal entries)
    → IsOnDisk disk vols (count_of all) after log
IsOnDisk-opened disk vols all after journal moments log entries is have each are on settled =
    let there = slice_get-last all.moments (count_of all) moments (sym have) in
    let here : moments_at (with_system all journal moments) (count_of all) ≡ moments = ap (λ (found : Option (List (Option ℕ))). unwrap_or found []) there in
    let same : entries_at (with_system all journal moments) (count_of all) log ≡ entries = ap (λ (l : List (Option ℕ)). entries_of l log) here ∙ are in
    subst (λ (a : SystemJournals). IsOnDisk disk vols (count_of all) a log) (sym is) (record {
      journal = journal;
      here = slice_get-last all.journals (count_of all) journal refl;
      noted = there ∙ ap (λ (l : List (Option ℕ)). Some l) (sym here);
      each = ap (λ (l : List (Option ℕ)). length l) here ∙ each;
      on = subst (λ (l : List Entry). IsOn journal (count_of all) l) (sym same) on;
      settled = λ tells. subst (λ (l : List Entry). IsSettled disk vols journal l) (sym same) (settled tells);
    })
