-- Which log the bytes of a volume stand for, and where they are damaged.
use Rattle.std.specs.Prelude.{◌≡◌, ◌≢◌, ◌⊎◌, ℕ, ◌+◌, ◌<◌, List, [], ◌∷◌, ◌++◌, length, take}
use Rattle.std.specs.Int.{w32, to_be_bytes}
use Rattle.std.specs.List.{AllByRecursion, flat_map}

-- the byte of an open gate; each other byte is a closed one
abbrev pub open_gate : ℕ
open_gate = 79

-- the byte that is written for a closed gate
abbrev pub closed_gate : ℕ
closed_gate = 0

-- each closing gate lies within this many bytes
abbrev pub most_bytes : ℕ
most_bytes = 67108864

-- the length of a body in four bytes, the highest first, and the body
abbrev pub framed : List ℕ → List ℕ
framed body = to_be_bytes w32 (length body) ++ body

-- the records of a log, each behind an open gate
abbrev pub records : List (List ℕ) → List ℕ
records log = flat_map (λ body. open_gate ∷ framed body) log

-- each body has a byte at least
abbrev pub AreBodies : List (List ℕ) → Type 0
AreBodies log = AllByRecursion (λ body. 0 < length body) log

-- These bytes begin with a gate that ends the log: it is closed, or it is the last byte.
abbrev pub BeginsWithLastGate : List ℕ → Type 0
BeginsWithLastGate [] = ⊥
BeginsWithLastGate (gate ∷ []) = Unit {0}
BeginsWithLastGate (gate ∷ next ∷ rest) = gate ≢ open_gate

-- The bytes are those of this log: its records, each behind an open gate, and the last gate, behind which anything may
-- lie. No bytes at all are the empty log.
pub record Stands (bytes : List ℕ) (log : List (List ℕ)) : Type 0 where
  pub rest : List ℕ
  pub whole : bytes ≡ records log ++ rest
  pub bodies : AreBodies log
  pub ends : (bytes ≡ []) ⊎ BeginsWithLastGate rest
  pub within : length (records log) < most_bytes

-- behind an open gate at this place come a whole record of this body and a gate that lies within the most bytes
pub record BeginsWithRecord (place : ℕ) (behind body : List ℕ) : Type 0 where
  pub gate : ℕ
  pub rest : List ℕ
  pub whole : behind ≡ framed body ++ gate ∷ rest
  pub some : 0 < length body
  pub within : place + 5 + length body < most_bytes

-- The bytes are damaged at this place: behind the records of a log an open gate stands there that is not the last byte,
-- and no record follows it.
pub record DamagedAt (bytes : List ℕ) (place : ℕ) : Type 0 where
  pub log : List (List ℕ)
  pub behind : List ℕ
  pub whole : bytes ≡ records log ++ open_gate ∷ behind
  pub bodies : AreBodies log
  pub here : place ≡ length (records log)
  pub within : place < most_bytes
  pub not_last : behind ≢ []
  pub no_record : (body : List ℕ) → BeginsWithRecord place behind body → ⊥

-- bytes stand for one log at most, or are damaged at one place at most, and not both
pub record HasOneAnswer (bytes : List ℕ) : Type 0 where
  pub one_log : (log other : List (List ℕ)) → Stands bytes log → Stands bytes other → log ≡ other
  pub not_both : (log : List (List ℕ)) (place : ℕ) → Stands bytes log → DamagedAt bytes place → ⊥
  pub one_place : (place other : ℕ) → DamagedAt bytes place → DamagedAt bytes other → place ≡ other

-- both are the same bytes, or stand for the same log
abbrev pub ReadsAs : List ℕ → List ℕ → Type 0
ReadsAs bytes other = (other ≡ bytes) ⊎ ((log : List (List ℕ)) × Stands bytes log × Stands other log)

-- The bytes of a volume that decide its log: those in which gates may lie, and one more, since a gate may be the last byte.
unfoldable pub front_of : List ℕ → List ℕ
front_of bytes = take (most_bytes + 1) bytes
