-- (a step of `Answers`) What reading the bytes of a journal gives.
use Rattle.std.specs.Prelude.{◌≡◌, ℕ, List, length, Result, Ok, Err}
use Rattle.byte_journal.specs.declared.fault.OpenFault.{OpenFault}
use Rattle.byte_journal.specs.declared.fault.OpenFault.TheVariants.{Damaged, Volume as VolumeFault, OutOfMemory}
use Rattle.byte_journal.specs.Log.{records, Stands, DamagedAt}

-- the log that the bytes stand for, and the place of its last gate
pub record ReadsTo (bytes : List ℕ) (log : List (List ℕ)) (gate : ℕ) : Type 0 where
  pub stands : Stands bytes log
  pub place : gate ≡ length (records log)

-- a log, or the place of the damage; memory may run out
abbrev pub Reads : List ℕ → Result (List (List ℕ) × ℕ) OpenFault → Type 0
Reads bytes (Ok found) = ReadsTo bytes found.0 found.1
Reads bytes (Err (Damaged place)) = DamagedAt bytes place
Reads bytes (Err VolumeFault) = ⊥
Reads bytes (Err OutOfMemory) = Unit {0}
