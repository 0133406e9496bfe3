-- A journal that is ready for appends, and what opening one answers.
use Rattle.std.specs.Prelude.{◌≡◌, ◌≢◌, ◌⊎◌, ℕ, ◌<◌, ◌≤◌, List, [], ◌∷◌, ◌++◌, length, Result, Ok, Err}
use Rattle.ale_volumes.specs.Disk.{Disk, LeftSince}
use Rattle.ale_volumes.specs.declared.volume.Volume.{Volume}
use Rattle.ale_volumes.specs.Volume.{IsImage, settled}
use Rattle.byte_journal.specs.declared.journal.Journal.{Journal}
use Rattle.byte_journal.specs.declared.fault.OpenFault.{OpenFault}
use Rattle.byte_journal.specs.declared.fault.OpenFault.TheVariants.{Damaged, Volume as VolumeFault, OutOfMemory}
use Rattle.byte_journal.specs.declared.fault.AppendFault.{AppendFault}
use Rattle.byte_journal.specs.Log.{open_gate, most_bytes, records, AreBodies, Stands, DamagedAt, ReadsAs}

-- the bytes are the records of this log and a closed gate, behind which anything may lie
pub record IsClosed (bytes : List ℕ) (log : List (List ℕ)) : Type 0 where
  pub gate : ℕ
  pub behind : List ℕ
  pub whole : bytes ≡ records log ++ gate ∷ behind
  pub closed : gate ≢ open_gate
  pub bodies : AreBodies log
  pub within : length (records log) < most_bytes

-- the journal's gate is the one behind the records of this log
abbrev pub IsAtEnd : Journal → List (List ℕ) → Type 0
IsAtEnd journal log = journal.gate ≡ length (records log)

-- the journal is on volume n, at the end of this log
pub record IsOn (journal : Journal) (n : ℕ) (log : List (List ℕ)) : Type 0 where
  pub volume : journal.volume ≡ n
  pub at_end : IsAtEnd journal log

-- Where an append succeeded the journal is on the same volume, at the end of the log with the body; otherwise it is as before.
abbrev pub MovesOn : Journal → Journal → List ℕ → Result (Unit {0}) AppendFault → Type 0
MovesOn old new body (Ok done) = (new.volume ≡ old.volume) × ((log : List (List ℕ)) → IsAtEnd old log → IsAtEnd new (log ++ body ∷ []))
MovesOn old new body (Err fault) = new ≡ old

-- The journal stands at the end of this log, whose last gate is closed, and all of it is on the disk for good.
pub record IsSettled {D : Type 0} (disk : Disk D) (vols : D) (journal : Journal) (log : List (List ℕ)) : Type 0 where
  pub closed : IsClosed (disk.volume vols journal.volume).contents log
  pub place : IsAtEnd journal log
  pub durable : disk.volume vols journal.volume ≡ settled (disk.volume vols journal.volume).contents

-- What opening these bytes answers: the log that they stand for, or the place where they are damaged. The volume may
-- fail, and memory may run out.
abbrev pub Answers : List ℕ → Result (Journal × List (List ℕ)) OpenFault → Type 0
Answers bytes (Ok opened) = Stands bytes opened.1
Answers bytes (Err (Damaged place)) = DamagedAt bytes place
Answers bytes (Err VolumeFault) = Unit {0}
Answers bytes (Err OutOfMemory) = Unit {0}

-- the bytes stand for the log from before an append, or for that log and the new body
abbrev pub IsBeforeOrAfter : List (List ℕ) → List ℕ → List ℕ → Type 0
IsBeforeOrAfter log body bytes = Stands bytes log ⊎ Stands bytes (log ++ body ∷ [])

-- from some moment between old and new on, a crash leaves of volume n only what has P; until then it leaves an image of the volume as it was
pub record LeavesOnlyLater {D : Type 0} (disk : Disk D) (old new : D) (n : ℕ) (P : List ℕ → Type 0) : Type 0 where
  pub from : ℕ
  pub not_before : disk.moment old ≤ from
  pub not_after : from ≤ disk.moment new
  pub each : (image : List ℕ) → LeftSince disk new n from image → P image
  pub earlier : (image : List ℕ) (moment : ℕ) → disk.moment old ≤ moment → moment < from → disk.left_at new n moment image
      → IsImage (disk.volume old n) image

-- The first call failed, and volume n is as before; or from some moment on a crash leaves of it only what has P.
abbrev pub LeavesOnlyFromSync : {D : Type 0} → Disk D → D → D → ℕ → Type 0 → (List ℕ → Type 0) → Type 0
LeavesOnlyFromSync disk old new n failed P = (failed × (disk.volume new n ≡ disk.volume old n)) ⊎ LeavesOnlyLater disk old new n P

-- while a volume is opened, a crash leaves what it left of it before, or what reads as it
abbrev pub IsLeftByOpening : Volume → List ℕ → Type 0
IsLeftByOpening volume image = IsImage volume image ⊎ ReadsAs volume.contents image
