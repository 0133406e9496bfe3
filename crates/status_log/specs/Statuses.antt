-- The statuses of documents, each with the number of the record that gave it, as a table of them is seen.
use Rattle.std.specs.Prelude.{◌≡◌, ℕ, ◌==◌, List, [], ◌∷◌, ◌++◌, map, slice_get, if◌then◌else◌}
use Rattle.std.specs.Option.{unwrap_or}
use Rattle.status_log.specs.declared.status.Status.{Status}
use Rattle.status_log.specs.declared.status_at.StatusAt.{StatusAt}

-- the statuses of a document, in the order in which it got them; none before the first. A table has those of the document of a
-- number at the place of that number
abbrev pub statuses_of : ℕ → List (List StatusAt) → List StatusAt
statuses_of doc table = unwrap_or (slice_get table doc) []

-- a document got a status behind those that it had; all others have what they had
pub record Adds (doc : ℕ) (one : StatusAt) (before after : List (List StatusAt)) : Type 0 where
  pub added : (other : ℕ) → statuses_of other after ≡ (if other == doc then statuses_of other before ++ one ∷ [] else statuses_of other before)

-- each document has what it had
pub record Keeps (before after : List (List StatusAt)) : Type 0 where
  pub kept : (other : ℕ) → statuses_of other after ≡ statuses_of other before

-- a status that has no reason
abbrev pub plain : ℕ → Status
plain code = record { code = code; reason = 0 }

-- a status that the record of a number gives
abbrev pub given : ℕ → Status → StatusAt
given number status = record { status = status; number = number }

-- the statuses that the record of a number gives
abbrev pub given_by : ℕ → List Status → List StatusAt
given_by number statuses = map (given number) statuses

-- the statuses alone
abbrev pub bare : List StatusAt → List Status
bare statuses = map (λ one. one.status) statuses

-- a document got statuses behind those that it had; all others have what they had
pub record AddsAll (doc : ℕ) (more : List StatusAt) (before after : List (List StatusAt)) : Type 0 where
  pub added : (other : ℕ) → statuses_of other after ≡ (if other == doc then statuses_of other before ++ more else statuses_of other before)
