-- What the log of a system is read as.
use Rattle.std.specs.Prelude.{◌≡◌, ◌+◌, ◌<◌, ℕ, Some, Option, List, length, take, slice_get, Result, Ok, Err}
use Rattle.unit_core.specs.declared.records.Record.{Record}
use Rattle.trfc_protocol.specs.Meaning.{Meaning}
use Rattle.log_tables.specs.OfLog.{LogTablesOf, IsRead}
use Rattle.log_reading.specs.declared.bad.BadRecord.{BadRecord}
use Rattle.log_reading.specs.Bad.{IsGood, IsBadBy, moment_at, moment_before}

-- each of the first records, as many as this, is good
abbrev pub AreGoodTo : Meaning → ℕ → List ℕ → List (Option ℕ) → List Record → ℕ → Type 0
AreGoodTo rules system text moments log count =
    (place : ℕ) (next : Record) → place < count → slice_get log place ≡ Some next
    → IsGood rules system text (moment_before moments place) (moment_at moments place) (take place log) next

-- the record of this number is bad by this cause, and each one before it is good
pub record IsFirstBad (rules : Meaning) (system : ℕ) (text : List ℕ) (moments : List (Option ℕ)) (log : List Record) (bad : BadRecord) : Type 0 where
  pub place : ℕ
  pub number : bad.number ≡ place + 1
  pub next : Record
  pub stands : slice_get log place ≡ Some next
  pub before : AreGoodTo rules system text moments log place
  pub is : IsBadBy rules system text (moment_before moments place) (moment_at moments place) (take place log) next bad.cause

-- the tables of a log of which each record is good, or the first bad one
abbrev pub IsReadAs : {A : Type 0} → Meaning → (A → List Record → Type 0) → ℕ → List ℕ → List (Option ℕ) → List Record → Result (LogTablesOf A) BadRecord
    → Type 0
IsReadAs rules stands system text moments log (Ok its) = AreGoodTo rules system text moments log (length log) × IsRead rules stands system log its
IsReadAs rules stands system text moments log (Err bad) = IsFirstBad rules system text moments log bad
