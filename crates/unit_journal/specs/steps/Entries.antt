-- (a step of `Answers`) What reading the bodies of a log as entries gives.
use Rattle.std.specs.Prelude.{◌≡◌, ℕ, List, Result, Ok, Err}
use Rattle.unit_codec.specs.declared.entry.Entry.{Entry}
use Rattle.unit_journal.specs.declared.fault.LogFault.{LogFault}
use Rattle.unit_journal.specs.declared.fault.LogFault.TheVariants.{Volume, Damaged, Unread, OutOfMemory}
use Rattle.unit_journal.specs.Log.{AreEntries, bodies_of, IsFirstUnread}

-- the entries whose spellings the bodies are, or the first body that spells none; memory may run out
abbrev pub Reads : List (List ℕ) → Result (List Entry) LogFault → Type 0
Reads bodies (Ok entries) = (bodies ≡ bodies_of entries) × AreEntries entries
Reads bodies (Err (Unread number)) = IsFirstUnread bodies number
Reads bodies (Err OutOfMemory) = Unit {0}
Reads bodies (Err (Damaged place)) = ⊥
Reads bodies (Err Volume) = ⊥
