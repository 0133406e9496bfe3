-- The documents and the units that a log stands for. Each record is taken under the model in force there, which is that of
-- the last Genesis or Model record before it. This project's own.
use Rattle.std.specs.Prelude.{◌≡◌, ℕ, ◌+◌, ◌<◌, ◌≤◌, ⊤, List, [], ◌∷◌, ◌++◌, length, map, fold, take}
use Rattle.std.specs.Option.{option_map_or}
use Rattle.dist_model.specs.declared.lists.Lists.{Lists}
use Rattle.unit_core.specs.declared.ale_unit.AleUnit.{AleUnit}
use Rattle.unit_core.specs.declared.records.Record.{Record}
use Rattle.unit_core.specs.declared.records.Record.TheVariants.{Genesis}
use Rattle.log_models.specs.InForce.{in_force, models_after, system_after}
use Rattle.outbound_build.specs.declared.added.Added.{Added}
use Rattle.outbound_build.specs.declared.added.OutDocument.{OutDocument}
use Rattle.outbound_build.specs.declared.added.OutUnit.{OutUnit}
use Rattle.outbound_build.specs.declared.outbox.Outbox.{Outbox}
use Rattle.outbound_build.specs.Added.{added_by, after}

-- what is known behind some records of a log: how many models there were, the system of the first, the outbox, and all
-- documents and units so far
pub record Past : Type 0 where
  pub models : ℕ
  pub system : ℕ
  pub outbox : Outbox
  pub documents : List OutDocument
  pub units : List OutUnit

-- the outbox of a log of no records
abbrev pub empty_outbox : Outbox
empty_outbox = record { documents = 0; waiting = []; units = 0 }

-- nothing is known
abbrev pub no_past : Past
no_past = record { models = 0; system = 0; outbox = empty_outbox; documents = []; units = [] }

-- nothing is added
abbrev pub no_more : Added
no_more = record { documents = []; units = [] }

-- what one more record adds under the model in force; nothing where there is none
abbrev pub adds : List Lists → Past → Record → Added
adds models past next =
    option_map_or (λ model. added_by model past.system past.outbox next) (in_force models past.models) no_more

-- what is known behind one more record that adds this
abbrev pub past_with : Past → Record → Added → Past
past_with past next added =
    record {
      models = models_after past.models next;
      system = system_after past.models past.system next;
      outbox = after next added past.outbox;
      documents = past.documents ++ added.documents;
      units = past.units ++ added.units;
    }

-- what is known behind one more record
abbrev pub past_after : List Lists → Past → Record → Past
past_after models past next = past_with past next (adds models past next)

-- what is known behind a log whose models these are, in order
unfoldable pub past_of : List Lists → List Record → Past
past_of models log = fold (past_after models) no_past log

-- the outbound documents of a log
abbrev pub documents_of : List Lists → List Record → List OutDocument
documents_of models log = (past_of models log).documents

-- the units of a log, with the numbers of their documents
abbrev pub units_of : List Lists → List Record → List OutUnit
units_of models log = (past_of models log).units

-- the units that a log commits
abbrev pub committed_of : List Lists → List Record → List AleUnit
committed_of models log = map (λ one. one.unit) (units_of models log)

-- how many units there are with those that are added
abbrev pub units_behind : Outbox → Added → ℕ
units_behind outbox more = outbox.units + length more.units

-- the first count of units above 65,536 as a log grows: its first so many records have it, and no fewer have too many
pub record IsFirstAbove (models : List Lists) (log : List Record) (count : ℕ) : Type 0 where
  pub records : ℕ
  pub within : records ≤ length log
  pub units : length (units_of models (take records log)) ≡ count
  pub above : 65536 < count
  pub before : (fewer : ℕ) → fewer < records → length (units_of models (take fewer log)) ≤ 65536

-- a log is of a system where it has no records, or begins with a Genesis that names the system
abbrev pub IsLogOf : ℕ → List Record → Type 0
IsLogOf system [] = ⊤
IsLogOf system (Genesis number text ∷ rest) = number ≡ system
IsLogOf system (first ∷ rest) = ⊥
