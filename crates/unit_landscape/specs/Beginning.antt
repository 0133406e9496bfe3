-- The first record of each system.
use Rattle.std.specs.Prelude.{◌≡◌, ◌≢◌, ◌⊎◌, ℕ, ◌-◌, ◌≤◌, ◌<◌, Some, None, List, [], ◌∷◌, length, slice_get, Result, Ok, Err}
use Rattle.unit_core.specs.declared.records.Record.{Record}
use Rattle.unit_core.specs.declared.records.Record.TheVariants.{Genesis}
use Rattle.trfc_protocol.specs.declared.world.World.{World}
use Rattle.trfc_protocol.specs.Meaning.{Meaning}
use Rattle.trfc_protocol.specs.Worlds.{log_of, with_record, with_fall}
use Rattle.trfc_protocol.specs.Start.{first_state, genesis_log}
use Rattle.system_tables.specs.Tables.{TablesOf}
use Rattle.unit_journal.specs.declared.journals.SystemJournals.{SystemJournals}
use Rattle.unit_journal.specs.OnDisk.{moment_of, moments_at, next_moment}
use Rattle.unit_journal.specs.Changes.{with_rest, OnlyAt}
use Rattle.unit_landscape.specs.KeptWorlds.{KeptOf}
use Rattle.unit_landscape.specs.declared.cause.Cause.TheVariants.{Faulted, Short}
use Rattle.unit_landscape.specs.Causes.{with_cause}
use Rattle.unit_landscape.specs.declared.beginning.TheConstants.{MOST_TEXT}
use Rattle.unit_landscape.specs.declared.beginning.BeginEnd.{BeginEnd}
use Rattle.unit_landscape.specs.declared.beginning.BeginEnd.TheVariants.{Volume, OutOfMemory}
use Rattle.unit_landscape.specs.Opening.{BeginsLegal}
use Rattle.unit_landscape.specs.Breaches.{KeepsOnce}

-- a system is up with an empty log, no unit is claimed, and its Genesis has this text; this was made of it for the application
pub record IsToBegin {R A E V : Type 0} (stands : A → List Record → Type 0) (goes_with : A → List Record → Record → E → Type 0) (kept : KeptOf R A V)
    (system : ℕ)
    (text : List ℕ) (extra : E) : Type 0 where
  pub empty : slice_get kept.world.systems (system - 1) ≡ Some (first_state [])
  pub no_claims : kept.world.claims ≡ []
  pub text_most : length text ≤ MOST_TEXT
  pub goes : (its : TablesOf A) → slice_get kept.tables (system - 1) ≡ Some its → stands its.application [] →
      goes_with its.application [] (Genesis system text) extra

-- the log at a place has one moment, the one that was set, and all other journals are as before
pub record HasFirst (place : ℕ) (before after : SystemJournals) : Type 0 where
  pub one : OnlyAt place before after
  pub first : moments_at after place ≡ moment_of before ∷ []

-- the world, the tables and the journals are as before, and so is why systems are down
pub record Stayed {R A V : Type 0} (before after : KeptOf R A V) : Type 0 where
  pub world : after.world ≡ before.world
  pub tables : after.tables ≡ before.tables
  pub journals : after.journals ≡ before.journals
  pub causes : after.causes ≡ before.causes

-- A system has begun; or its volume failed, and it is down, with its Genesis perhaps on it, whose moment is kept; or memory was wanting:
-- nothing has changed, or the system is down behind its Genesis.
abbrev pub BegunAs : {R A V T : Type 0} → KeptOf R A V → KeptOf R A V → ℕ → List ℕ → Result T BeginEnd → Type 0
BegunAs before after system text (Ok done) =
    (after.world ≡ with_record before.world system (Genesis system text)) × HasFirst (system - 1) before.journals after.journals
    × (after.causes ≡ before.causes)
BegunAs before after system text (Err Volume) =
    (after.world ≡ with_fall before.world system (Some (Genesis system text)))
    × (after.journals ≡ with_rest (system - 1) (next_moment before.journals (system - 1)) before.journals)
    × (after.causes ≡ with_cause before.causes system Faulted)
BegunAs before after system text (Err OutOfMemory) =
    Stayed before after
    ⊎ ((after.world ≡ with_fall (with_record before.world system (Genesis system text)) system None) × HasFirst (system - 1) before.journals after.journals
    × (after.causes ≡ with_cause before.causes system Short))

-- All systems are up, their logs are legal and keep the exactly-once law, and the first of them, so many, have begun: their logs are not
-- empty.
pub record HaveBegun {R : Type 0} (meaning : R → Meaning) (count : ℕ) (world : World R) : Type 0 where
  pub all : length world.systems ≡ (meaning world.rules).systems
  pub begins : BeginsLegal meaning world
  pub once : KeepsOnce (meaning world.rules) world
  pub begun : (system : ℕ) → 1 ≤ system → system ≤ count → log_of world system ≢ []

-- the log of a system that begins: its Genesis in place of the empty one
abbrev pub begun_log : List ℕ → ℕ → List Record → List Record
begun_log text system [] = genesis_log text system
begun_log text system (first ∷ rest) = first ∷ rest

-- the first systems, so many, have begun with this text where their logs were empty, and all other logs are as before
pub record AreBegunFrom (text : List ℕ) (count : ℕ) (before after : ℕ → List Record) : Type 0 where
  pub begun : (system : ℕ) → 1 ≤ system → system ≤ count → after system ≡ begun_log text system (before system)
  pub others : (system : ℕ) → count < system → after system ≡ before system
