-- What a call on the journals of systems leaves as it was.
use Rattle.std.specs.Prelude.{◌≡◌, ◌≢◌, ℕ, ◌+◌, ◌<◌, Option, List, [], ◌∷◌, ◌++◌, length, slice_get, slice_set, ⊤, Result, Ok, Err}
use Rattle.unit_journal.specs.declared.journal.UnitJournal.{UnitJournal}
use Rattle.unit_journal.specs.declared.journals.SystemJournals.{SystemJournals}
use Rattle.unit_journal.specs.OnDisk.{count_of, next_moment, rest_at, HaveMoments}
use Rattle.byte_journal.specs.declared.fault.AppendFault.{AppendFault}
use Rattle.byte_journal.specs.declared.fault.AppendFault.TheVariants.{Volume, Full, OutOfMemory}

-- the same journals and moments, with this moment for what is written next
abbrev pub with_moment : Option ℕ → SystemJournals → SystemJournals
with_moment moment all = record all { moment = moment }

-- the same journals and moments, with this moment of a record whose write failed at a place
abbrev pub with_rest : ℕ → Option ℕ → SystemJournals → SystemJournals
with_rest place moment all = record all { rests = slice_set all.rests place moment }

-- one system more, behind all others
abbrev pub with_system : SystemJournals → UnitJournal → List (Option ℕ) → SystemJournals
with_system all journal moments = record all { journals = all.journals ++ journal ∷ []; moments = all.moments ++ moments ∷ [] }

-- the journal and the moments at a place are as before, and so is that of a record whose write failed
pub record SameAt (place : ℕ) (old new : SystemJournals) : Type 0 where
  pub journal : slice_get new.journals place ≡ slice_get old.journals place
  pub moments : slice_get new.moments place ≡ slice_get old.moments place
  pub rest : rest_at new place ≡ rest_at old place

-- all but the journal and the moments at this place is as before, and there are as many of both
pub record OnlyAt (place : ℕ) (old new : SystemJournals) : Type 0 where
  pub journals : length new.journals ≡ length old.journals
  pub moments : length new.moments ≡ length old.moments
  pub others : (other : ℕ) → other ≢ place → SameAt other old new
  pub moment : new.moment ≡ old.moment

-- one system more has a journal, and all others are as before
pub record IsNext (old new : SystemJournals) : Type 0 where
  pub count : count_of new ≡ count_of old + 1
  pub moments : HaveMoments new
  pub others : (other : ℕ) → other < count_of old → SameAt other old new
  pub moment : new.moment ≡ old.moment

-- what a write that failed leaves of the journals: where the volume failed, the moment of the record; and nothing else
abbrev pub LeftBy : {T : Type 0} → ℕ → SystemJournals → SystemJournals → Result T AppendFault → Type 0
LeftBy place before after (Ok done) = ⊤
LeftBy place before after (Err Volume) = after ≡ with_rest place (next_moment before place) before
LeftBy place before after (Err (Full size)) = after ≡ before
LeftBy place before after (Err OutOfMemory) = after ≡ before
