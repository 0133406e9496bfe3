-- Filters of message types.
use Rattle.std.specs.Prelude.{ℕ, ◌<◌, ◌≤◌, ◌&&◌, Bool, List, length, nat_eq}
use Rattle.std.specs.List.{AllByRecursion, IsDistinct}
use Rattle.ale_base.specs.Text.{is_text}
use Rattle.segment_defs.specs.declared.definitions.Definitions.{Definitions}
use Rattle.segment_defs.specs.declared.idoc_type.IdocType.{IdocType}
use Rattle.segment_defs.specs.Name.{IsName}
use Rattle.dist_model.specs.declared.limits.TheConstants.{MOST_FILTERS}
use Rattle.dist_model.specs.declared.filter.Filter.{Filter}
use Rattle.dist_model.specs.declared.message.Message.{Message}
use Rattle.dist_model.specs.Field.{IsFieldAmong}
use Rattle.dist_model.specs.Message.{message_entries}

-- a filter has a name, and is on a field of a segment type of a message type
pub record IsFilter (definitions : Definitions) (types : List IdocType) (messages : List Message) (filter : Filter) : Type 0 where
  pub named : IsName filter.name
  pub known : filter.message < length messages
  pub place : IsFieldAmong definitions (message_entries types messages filter.message) filter.segment filter.field

-- whether a filter is the one of a message type that has a name
abbrev pub is_filter : ℕ → List ℕ → Filter → Bool
is_filter message name filter = nat_eq message filter.message && is_text name filter.name

-- whether two filters have the same name and message type
abbrev pub same_filter : Filter → Filter → Bool
same_filter filter other = is_filter filter.message filter.name other

-- not too many filters, each with a name of its own among those of its message type
pub record AreFilters (definitions : Definitions) (types : List IdocType) (messages : List Message) (filters : List Filter) : Type 0 where
  pub few : length filters ≤ MOST_FILTERS
  pub each : AllByRecursion (IsFilter definitions types messages) filters
  pub apart : IsDistinct same_filter filters
