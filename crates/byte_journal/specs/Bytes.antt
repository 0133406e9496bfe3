-- What an opening and an append leave of the bytes of their volume.
use Rattle.std.specs.Prelude.{◌≡◌, ◌⊎◌, ℕ, ◌+◌, List, [], ◌∷◌, ◌++◌, length, take, drop, Result, Ok, Err}
use Rattle.ale_volumes.specs.declared.volume.Volume.{Volume}
use Rattle.ale_volumes.specs.Volume.{settled, overwritten, Torn}
use Rattle.byte_journal.specs.declared.journal.Journal.{Journal}
use Rattle.byte_journal.specs.declared.fault.OpenFault.{OpenFault}
use Rattle.byte_journal.specs.declared.fault.OpenFault.TheVariants.{Damaged, Volume as OpenVolume, OutOfMemory as OpenMemory}
use Rattle.byte_journal.specs.declared.fault.AppendFault.{AppendFault}
use Rattle.byte_journal.specs.declared.fault.AppendFault.TheVariants.{Full, Volume as AppendVolume, OutOfMemory as AppendMemory}
use Rattle.byte_journal.specs.Log.{open_gate, closed_gate, framed, records, Stands}

-- The old bytes lack a closed gate at the end of their log: there are none, or the log's last gate is open and the last
-- byte. The new ones have this byte for that gate, and are as the old ones before it.
pub record WritesGate (old : List ℕ) (byte : ℕ) (new : List ℕ) : Type 0 where
  pub log : List (List ℕ)
  pub stands : Stands old log
  pub lacks : (old ≡ []) ⊎ (old ≡ records log ++ open_gate ∷ [])
  pub now : new ≡ records log ++ byte ∷ []

-- the bytes are as before, but for the gate of a volume of no bytes or of a last open gate, which is closed now
abbrev pub IsAsBeforeButForTheGate : List ℕ → List ℕ → Type 0
IsAsBeforeButForTheGate old new = (new ≡ old) ⊎ WritesGate old closed_gate new

-- the same where the write of that gate was torn: any byte may be there
abbrev pub IsAsBeforeButForATornGate : List ℕ → List ℕ → Type 0
IsAsBeforeButForATornGate old new = (new ≡ old) ⊎ ((byte : ℕ) × WritesGate old byte new)

-- What an opening leaves of its volume, by its answer. Where it finds damage or memory runs out, nothing was written.
abbrev pub LeavesOpened : Volume → Volume → Result (Journal × List (List ℕ)) OpenFault → Type 0
LeavesOpened old new (Ok opened) = IsAsBeforeButForTheGate old.contents new.contents
LeavesOpened old new (Err (Damaged place)) = new ≡ settled old.contents
LeavesOpened old new (Err OpenMemory) = new ≡ settled old.contents
LeavesOpened old new (Err OpenVolume) = IsAsBeforeButForATornGate old.contents new.contents

-- bytes with the length, the body and a closed gate behind the gate at this place, over what was there
abbrev pub staged : List ℕ → ℕ → List ℕ → List ℕ
staged bytes gate body = overwritten bytes (gate + 1) (framed body ++ closed_gate ∷ [])

-- bytes after an append behind the gate at this place: what came before the gate, the gate open, the length, the body, a
-- closed gate, and what lay further back
abbrev pub appended : List ℕ → ℕ → List ℕ → List ℕ
appended bytes gate body = take gate bytes ++ open_gate ∷ (framed body ++ closed_gate ∷ drop (gate + 6 + length body) bytes)

-- What a read gives after an append, by its answer. Where memory runs out the record may have been written behind its
-- closed gate. Where the volume fails a write may be torn: that of the record, or then that of the gate.
abbrev pub LeavesAppended : List ℕ → ℕ → List ℕ → List ℕ → Result (Unit {0}) AppendFault → Type 0
LeavesAppended old gate body new (Ok done) = new ≡ appended old gate body
LeavesAppended old gate body new (Err (Full place)) = new ≡ old
LeavesAppended old gate body new (Err AppendMemory) = (new ≡ old) ⊎ (new ≡ staged old gate body)
LeavesAppended old gate body new (Err AppendVolume) = Torn (gate + 1) (length body + 5) old new ⊎ Torn gate 1 (staged old gate body) new
