-- What is wrong with a record of a log: it is the Genesis of another system or another model, or it may not follow those before it.
use Rattle.std.specs.Prelude.{◌≡◌, ◌≢◌, ◌⊎◌, ℕ, zero, suc, true, false, Option, None, List, ⊤, take, slice_get, slice_index_or}
use Rattle.unit_core.specs.declared.records.Record.{Record}
use Rattle.unit_core.specs.declared.records.Record.TheVariants.{Genesis}
use Rattle.unit_journal.specs.OnDisk.{MayFollow}
use Rattle.trfc_protocol.specs.Meaning.{Meaning}
use Rattle.trfc_protocol.specs.Legal.{may_follow}
use Rattle.log_reading.specs.declared.bad.Cause.{Cause}
use Rattle.log_reading.specs.declared.bad.Cause.TheVariants.{System, Model, Illegal}

-- two texts are the same before this place, and not at it: there the bytes differ, or one text ends
pub record DifferAt (one other : List ℕ) (place : ℕ) : Type 0 where
  pub before : take place one ≡ take place other
  pub here : slice_get one place ≢ slice_get other place

-- a record is no Genesis, or it is that of this system and of this text of the model
abbrev pub Matches : ℕ → List ℕ → Record → Type 0
Matches system text (Genesis kept its) = (kept ≡ system) × (its ≡ text)
Matches system text next = ⊤

-- the moment of the record at a place
abbrev pub moment_at : List (Option ℕ) → ℕ → Option ℕ
moment_at moments place = slice_index_or moments place None

-- the moment of the record before a place, and none at the first one
abbrev pub moment_before : List (Option ℕ) → ℕ → Option ℕ
moment_before moments zero = None
moment_before moments (suc place) = moment_at moments place

-- a record of this moment is good behind a log and its last moment: it matches, and may follow, by its moment and by the law
pub record IsGood (rules : Meaning) (system : ℕ) (text : List ℕ) (before moment : Option ℕ) (log : List Record) (next : Record) : Type 0 where
  pub matches : Matches system text next
  pub in_time : MayFollow before moment
  pub legal : may_follow rules system log next ≡ true

-- a record is the Genesis of another system, or, where the system is this one, of another text
abbrev pub IsMismatch : ℕ → List ℕ → Record → Cause → Type 0
IsMismatch system text (Genesis its_system its_text) (System kept expected) = (its_system ≢ system) × (kept ≡ its_system) × (expected ≡ system)
IsMismatch system text (Genesis its_system its_text) (Model differs) = (its_system ≡ system) × DifferAt its_text text differs
IsMismatch system text next cause = ⊥

-- a record of this moment is bad behind a log and its last moment, by a cause: it does not match, or it does and may not follow, by its
-- moment or by the law
abbrev pub IsBadBy : Meaning → ℕ → List ℕ → Option ℕ → Option ℕ → List Record → Record → Cause → Type 0
IsBadBy rules system text before moment log next Illegal =
    Matches system text next × ((MayFollow before moment → ⊥) ⊎ (may_follow rules system log next ≡ false))
IsBadBy rules system text before moment log next cause = IsMismatch system text next cause
