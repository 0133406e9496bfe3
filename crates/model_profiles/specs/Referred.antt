-- What entries of a section refer to: parts of a model that keep their limits.
use Rattle.std.specs.Prelude.{◌≡◌, ◌≤◌, ℕ, List, length}
use Rattle.segment_defs.specs.declared.definitions.Definitions.{Definitions}
use Rattle.segment_defs.specs.Definitions.{AreDefinitions}
use Rattle.dist_model.specs.declared.filter.Filter.{Filter}
use Rattle.dist_model.specs.declared.limits.TheConstants.{MOST_FILTERS, MOST_MESSAGES, MOST_SYSTEMS}

-- segment types, and their names
pub record Segments : Type 0 where
  pub types : List (List ℕ)
  pub definitions : Definitions

-- definitions that keep their rules, and a name for each segment type
pub record AreSegments (segments : Segments) : Type 0 where
  pub definitions : AreDefinitions segments.definitions
  pub typed : length segments.types ≡ length segments.definitions.types

-- what rows refer to: names of systems and of message types, segment types, and filters
pub record Referred : Type 0 where
  pub systems : List (List ℕ)
  pub definitions : Definitions
  pub messages : List (List ℕ)
  pub filters : List Filter

-- not more of each than a model has, and definitions that keep their rules
pub record IsReferred (referred : Referred) : Type 0 where
  pub systems : length referred.systems ≤ MOST_SYSTEMS
  pub definitions : AreDefinitions referred.definitions
  pub messages : length referred.messages ≤ MOST_MESSAGES
  pub filters : length referred.filters ≤ MOST_FILTERS
