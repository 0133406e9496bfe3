-- Which log of entries the bytes of a volume stand for.
use Rattle.std.specs.Prelude.{◌≡◌, ℕ, ◌+◌, List, ◌∷◌, ◌++◌, length, map}
use Rattle.std.specs.List.{AllByRecursion}
use Rattle.byte_journal.specs.Log.{Stands as StandsForBodies, DamagedAt}
use Rattle.unit_codec.specs.declared.entry.Entry.{Entry}
use Rattle.unit_codec.specs.Entries.{EntryHasSpelling, entry_spelling}

-- each entry has a spelling
abbrev pub AreEntries : List Entry → Type 0
AreEntries entries = AllByRecursion EntryHasSpelling entries

-- the bodies of a log: the spelling of each entry
abbrev pub bodies_of : List Entry → List (List ℕ)
bodies_of entries = map entry_spelling entries

-- The bytes stand for this log of entries: for a log of bodies, each of which is the one spelling of its entry.
pub record Stands (bytes : List ℕ) (log : List Entry) : Type 0 where
  pub bodies : StandsForBodies bytes (bodies_of log)
  pub entries : AreEntries log

-- these bytes spell no entry
abbrev pub IsNoEntry : List ℕ → Type 0
IsNoEntry body = (entry : Entry) → EntryHasSpelling entry → body ≡ entry_spelling entry → ⊥

-- Among these bodies the one of this number, counted from 1, is the first that spells no entry.
pub record IsFirstUnread (bodies : List (List ℕ)) (number : ℕ) : Type 0 where
  pub front : List Entry
  pub body : List ℕ
  pub rest : List (List ℕ)
  pub whole : bodies ≡ bodies_of front ++ body ∷ rest
  pub read : AreEntries front
  pub here : number ≡ length front + 1
  pub unread : IsNoEntry body

-- The bytes stand for a log of bodies, and the one of this number is the first that spells no entry.
pub record UnreadAt (bytes : List ℕ) (number : ℕ) : Type 0 where
  pub bodies : List (List ℕ)
  pub stands : StandsForBodies bytes bodies
  pub first : IsFirstUnread bodies number

-- Bytes stand for one log of entries at most, or are damaged at one place at most, or one body at most is the first that
-- spells no entry.
pub record HasOneAnswer (bytes : List ℕ) : Type 0 where
  pub one_log : (log other : List Entry) → Stands bytes log → Stands bytes other → log ≡ other
  pub not_damaged : (log : List Entry) (place : ℕ) → Stands bytes log → DamagedAt bytes place → ⊥
  pub not_unread : (log : List Entry) (number : ℕ) → Stands bytes log → UnreadAt bytes number → ⊥
  pub one_place : (place other : ℕ) → DamagedAt bytes place → DamagedAt bytes other → place ≡ other
  pub one_fault : (place number : ℕ) → DamagedAt bytes place → UnreadAt bytes number → ⊥
  pub one_number : (number other : ℕ) → UnreadAt bytes number → UnreadAt bytes other → number ≡ other
