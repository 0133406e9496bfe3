-- Which records of a log gave the statuses of a document: a law, for any log and whatever its records may give.
use Rattle.std.specs.Prelude.{◌≡◌, ◌≤◌, ℕ, zero, suc, nat_le, AllPairs, Contains, Option, Some, None, List, filter, slice_get}
use Rattle.std.specs.List.{AllByRecursion}
use Rattle.status_log.specs.declared.status_at.StatusAt.{StatusAt}

-- the record of a number, from 1; none where the log has no such record
abbrev pub record_numbered : {R : Type 0} → List R → ℕ → Option R
record_numbered log zero = None
record_numbered log (suc place) = slice_get log place

-- the record of the number of a status is in the log, and has the code of the status among those that it may give
abbrev pub IsGivenIn : {R : Type 0} → (R → List ℕ) → List R → StatusAt → Type 0
IsGivenIn {R} codes log one = (next : R) × (record_numbered log one.number ≡ Some next) × Contains (codes next) one.status.code

-- what statuses of a document of a log keep: they are in the order of its records, and each is of a record that may give it
pub record AreGivenIn {R : Type 0} (codes : R → List ℕ) (log : List R) (statuses : List StatusAt) : Type 0 where
  pub in_order : AllPairs (λ one later. one.number ≤ later.number) statuses
  pub each : AllByRecursion (IsGivenIn codes log) statuses

-- the statuses that the first records gave
abbrev pub up_to : ℕ → List StatusAt → List StatusAt
up_to count statuses = filter (λ one. nat_le one.number count) statuses
