-- (a step of `Looking`) What comparing the entries that a volume gave with those that are kept gives.
use Rattle.std.specs.Prelude.{◌≡◌, ◌≢◌, ℕ, Bool, Option, List, [], ◌∷◌, ◌++◌, length, Result, Ok, Err}
use Rattle.unit_core.specs.declared.records.Record.{Record}
use Rattle.unit_codec.specs.declared.entry.Entry.{Entry}
use Rattle.unit_journal.specs.declared.journal.UnitJournal.{UnitJournal}
use Rattle.unit_journal.specs.declared.fault.LookFault.{LookFault}
use Rattle.unit_journal.specs.declared.fault.LookFault.TheVariants.{Volume, Changed, OutOfMemory}
use Rattle.unit_journal.specs.declared.looked.Looked.{Looked}
use Rattle.unit_journal.specs.OnDisk.{moments_of}
use Rattle.unit_journal.specs.Looking.{WasWritten, with_left, entries_found, IsFirstApart, is_found}

-- one of these lists has no entry, or their first entries differ
abbrev pub EndsHere : List Entry → List Entry → Type 0
EndsHere [] others = Unit {0}
EndsHere (entry ∷ entries) [] = Unit {0}
EndsHere (entry ∷ entries) (other ∷ others) = entry ≢ other

-- the longest front that both lists share has so many entries
pub record Shares (found kept : List Entry) (count : ℕ) : Type 0 where
  pub front : List Entry
  pub behind : List Entry
  pub other : List Entry
  pub found_whole : found ≡ front ++ behind
  pub kept_whole : kept ≡ front ++ other
  pub ends : EndsHere behind other
  pub here : count ≡ length front

-- whether the entries are those of the log and the record, or those of the log; or the first that differs
abbrev pub Finds : List Entry → List Entry → Option ℕ → Option Record → Result Bool LookFault → Type 0
Finds found entries moment rest (Ok is) = WasWritten is rest × (found ≡ entries_found is entries moment rest)
Finds found entries moment rest (Err (Changed number)) = (found ≢ entries) × IsFirstApart found (with_left entries moment rest) number
Finds found entries moment rest (Err Volume) = ⊥
Finds found entries moment rest (Err OutOfMemory) = Unit {0}

-- a system's journal and the moments of the entries that its volume gave, with whether the record is among them
pub record IsLookOf (system : ℕ) (journal : UnitJournal) (found entries : List Entry) (moment : Option ℕ) (rest : Option Record)
    (looked : Looked) : Type 0 where
  pub is_of : looked.system ≡ system
  pub opened : looked.journal ≡ journal
  pub moments : looked.moments ≡ moments_of found
  pub written : WasWritten (is_found looked) rest
  pub same : found ≡ entries_found (is_found looked) entries moment rest

-- the same of a system of which a journal was opened
abbrev pub Compares : ℕ → UnitJournal → List Entry → List Entry → Option ℕ → Option Record → Result Looked LookFault → Type 0
Compares system journal found entries moment rest (Ok looked) = IsLookOf system journal found entries moment rest looked
Compares system journal found entries moment rest (Err fault) = Finds found entries moment rest (Err fault)
