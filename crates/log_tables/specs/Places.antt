-- Where a log has the units that it received.
use Rattle.std.specs.Prelude.{◌≡◌, ℕ, ◌<◌, Option, Some, None, List, length, slice_get, cond}
use Rattle.std.specs.Option.{option_and_then}
use Rattle.std.specs.BTreeMap.{is_at}
use Rattle.std.specs.Map.{lookup}
use Rattle.ale_base.specs.Tid.{TidOf, is_tid}
use Rattle.tid_table.proofs.NumberLemmas.{numbers_cmp}
use Rattle.unit_core.specs.declared.ale_unit.AleUnit.{AleUnit}
use Rattle.unit_core.specs.declared.records.Record.{Record}
use Rattle.unit_core.specs.Filters.{taken_by, received}
use Rattle.unit_core.specs.Queues.{unit_named}

-- the unit that the record at a place takes in
abbrev pub unit_at : List Record → Option ℕ → Option AleUnit
unit_at log place = option_and_then (λ p. option_and_then taken_by (slice_get log p)) place

-- places are those of a log: the unit of an id that the log received first is the one that the record at the id's place takes in, none where
-- none was; and each place is one of the log
pub record ArePlaces (log : List Record) (places : TidOf → Option ℕ) : Type 0 where
  pub there : (tid : TidOf) → unit_named tid (received log) ≡ unit_at log (places tid)
  pub within : (tid : TidOf) (p : ℕ) → places tid ≡ Some p → p < length log

-- an id has this place from now on; every other one has the one before
pub record Names (tid : TidOf) (place : ℕ) (before after : TidOf → Option ℕ) : Type 0 where
  pub each : (other : TidOf) → after other ≡ cond (is_tid tid other) (Some place) (before other)

-- what a record at a place does to the places: the id of the unit that it takes in has this place
abbrev pub Placed : Option AleUnit → ℕ → (TidOf → Option ℕ) → (TidOf → Option ℕ) → Type 0
Placed None place before after = after ≡ before
Placed (Some unit) place before after = Names unit.tid place before after

-- how an id is looked up
abbrev pub number_of : TidOf → ℕ × ℕ
number_of tid = (tid.system, tid.unit)

-- the place of an id, in a table by the numbers of ids
abbrev pub place_of : List ((ℕ × ℕ) × ℕ) → TidOf → Option ℕ
place_of entries tid = lookup (is_at (numbers_cmp (number_of tid))) entries
