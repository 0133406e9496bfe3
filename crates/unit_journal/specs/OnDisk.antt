-- What the volumes of systems hold: of one that is up its log, of one that is down perhaps one record more.
use Rattle.std.specs.Prelude.{◌≡◌, ◌⊎◌, ℕ, ◌+◌, ◌-◌, ◌≤◌, max, Option, Some, None, List, [], ◌∷◌, ◌++◌, length, map, slice_get, slice_index_or}
use Rattle.std.specs.List.{AllByRecursion}
use Rattle.std.specs.Option.{unwrap_or}
use Rattle.ale_volumes.specs.Disk.{Disk}
use Rattle.ale_volumes.specs.Volume.{IsImage}
use Rattle.unit_core.specs.declared.records.Record.{Record}
use Rattle.unit_codec.specs.declared.entry.Entry.{Entry}
use Rattle.unit_codec.specs.Condition.{IsWritable}
use Rattle.unit_codec.specs.Entries.{entry_with, entry_spelling}
use Rattle.unit_journal.specs.declared.journal.UnitJournal.{UnitJournal}
use Rattle.byte_journal.specs.Log.{records}
use Rattle.unit_journal.specs.Log.{AreEntries, Stands, bodies_of}
use Rattle.unit_journal.specs.Settled.{IsAtEnd, IsOn, IsSettled}
use Rattle.unit_journal.specs.declared.journals.SystemJournals.{SystemJournals}

-- how many systems have a journal
abbrev pub count_of : SystemJournals → ℕ
count_of all = length all.journals

-- each journal has its moments, and no others are kept
abbrev pub HaveMoments : SystemJournals → Type 0
HaveMoments all = length all.moments ≡ length all.journals

-- the moment that is set for what is written next
abbrev pub moment_of : SystemJournals → Option ℕ
moment_of all = all.moment

-- the moments of the entries of the log at a place; none of them where there is no such place
abbrev pub moments_at : SystemJournals → ℕ → List (Option ℕ)
moments_at all place = unwrap_or (slice_get all.moments place) []

-- the last of moments, and none where there are none
abbrev pub last_moment : List (Option ℕ) → Option ℕ
last_moment moments = unwrap_or (slice_get moments (length moments - 1)) None

-- of two moments the larger; where only one is there, that one
abbrev pub later : Option ℕ → Option ℕ → Option ℕ
later None other = other
later (Some one) None = Some one
later (Some one) (Some other) = Some (max one other)

-- the moment of the record whose write failed last at a place
abbrev pub rest_at : SystemJournals → ℕ → Option ℕ
rest_at all place = slice_index_or all.rests place None

-- the moment of the next record of the log at a place: the larger of the one that is set and the last of that log
abbrev pub next_moment : SystemJournals → ℕ → Option ℕ
next_moment all place = later (moment_of all) (last_moment (moments_at all place))

-- the second moment may follow the first: it is not below it, and is there where the first is
abbrev pub MayFollow : Option ℕ → Option ℕ → Type 0
MayFollow None moment = Unit {0}
MayFollow (Some before) None = ⊥
MayFollow (Some before) (Some moment) = before ≤ moment

-- no moment is below one before it, and none without a moment follows one with a moment
abbrev pub AreInOrder : List (Option ℕ) → Type 0
AreInOrder [] = Unit {0}
AreInOrder (moment ∷ moments) = AllByRecursion (MayFollow moment) moments × AreInOrder moments

-- each record with its moment, as many as there are of both
abbrev pub entries_of : List (Option ℕ) → List Record → List Entry
entries_of [] log = []
entries_of (moment ∷ moments) [] = []
entries_of (moment ∷ moments) (what ∷ log) = entry_with moment what ∷ entries_of moments log

-- the moments of entries
abbrev pub moments_of : List Entry → List (Option ℕ)
moments_of entries = map (λ (entry : Entry). entry.moment) entries

-- the entries of the log at a place
abbrev pub entries_at : SystemJournals → ℕ → List Record → List Entry
entries_at all place log = entries_of (moments_at all place) log

-- the length that a volume has with these entries and one more, up to the gate behind it
abbrev pub length_with : List Entry → Entry → ℕ
length_with entries entry = length (records (bodies_of entries)) + 6 + length (entry_spelling entry)

-- a journal is at a place, at the end of this log
pub record IsAtEndOf (place : ℕ) (all : SystemJournals) (log : List Record) : Type 0 where
  pub journal : UnitJournal
  pub here : slice_get all.journals place ≡ Some journal
  pub at_end : IsAtEnd journal (entries_at all place log)

-- Of a system that is up: a journal and moments are at its place, one for each record; the journal is at the end of the
-- log, and where the disk tells what it holds, all of that log is on the disk for good.
pub record IsOnDisk {D : Type 0} (disk : Disk D) (vols : D) (place : ℕ) (all : SystemJournals) (log : List Record) : Type 0 where
  pub journal : UnitJournal
  pub here : slice_get all.journals place ≡ Some journal
  pub noted : slice_get all.moments place ≡ Some (moments_at all place)
  pub each : length (moments_at all place) ≡ length log
  pub on : IsOn journal place (entries_at all place log)
  pub settled : disk.told → IsSettled disk vols journal (entries_at all place log)

-- the bytes stand for these entries, or for them and one of this record with this moment, which may follow the last of theirs
abbrev pub StandsFound : List ℕ → List Entry → Option ℕ → Option Record → Type 0
StandsFound image entries moment None = Stands image entries
StandsFound image entries moment (Some next) =
    Stands image entries ⊎ (MayFollow (last_moment (moments_of entries)) moment × Stands image (entries ++ entry_with moment next ∷ []))

-- a record that a crash may have left behind these entries can be written, and its moment may follow the last of theirs
abbrev pub MayBeLeft : List Entry → Option ℕ → Option Record → Type 0
MayBeLeft entries moment None = Unit {0}
MayBeLeft entries moment (Some next) = IsWritable next × MayFollow (last_moment (moments_of entries)) moment

-- What is kept of a system that is down: moments are at its place, one for each record, whose entry has a spelling; and the
-- record that a crash may have left behind them may be there.
pub record IsKept (place : ℕ) (all : SystemJournals) (log : List Record) (rest : Option Record) : Type 0 where
  pub noted : slice_get all.moments place ≡ Some (moments_at all place)
  pub each : length (moments_at all place) ≡ length log
  pub entries : AreEntries (entries_at all place log)
  pub behind : MayBeLeft (entries_at all place log) (rest_at all place) rest

-- Of a system that is down: its log is kept, and where the disk tells what it holds, each crash leaves that log, perhaps with
-- this record more, with the moment that is kept of it.
pub record IsLeftOnDisk {D : Type 0} (disk : Disk D) (vols : D) (place : ℕ) (all : SystemJournals) (log : List Record)
    (rest : Option Record) : Type 0 where
  pub kept : IsKept place all log rest
  pub left : disk.told → (image : List ℕ) → IsImage (disk.volume vols place) image → StandsFound image (entries_at all place log) (rest_at all place) rest
