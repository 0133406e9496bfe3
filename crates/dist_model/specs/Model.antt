-- The distribution model of a landscape: the rules that its lists keep, and what its names stand for.
use Rattle.std.specs.Prelude.{◌≡◌, ℕ, suc, ◌-◌, ◌<◌, ◌≤◌, ◌&&◌, ◌⊎◌, Bool, List, [], ◌∷◌, ◌++◌, length, map, nat_eq, nat_lt, position, Option, Some}
use Rattle.std.specs.Prelude.{option_and_then, slice_get, Contains, IsTrue, if◌then◌else◌}
use Rattle.std.specs.List.{AllByRecursion, IsDistinct, list_any}
use Rattle.std.specs.Option.{option_map}
use Rattle.ale_base.specs.Text.{is_text}
use Rattle.segment_defs.specs.declared.definitions.Definitions.{Definitions}
use Rattle.segment_defs.specs.declared.idoc_type.IdocType.{IdocType}
use Rattle.segment_defs.specs.declared.idoc_type.TypePlace.{TypePlace}
use Rattle.segment_defs.specs.declared.segment_type.SegmentType.{SegmentType}
use Rattle.segment_defs.specs.Name.{is_name_within}
use Rattle.segment_defs.specs.Definitions.{AreDefinitions}
use Rattle.segment_defs.specs.IdocType.{IsIdocType}
use Rattle.dist_model.specs.declared.limits.TheConstants.{LONGEST_RELEASE, MOST_ENTRIES, MOST_IDOC_TYPES, MOST_RELEASES, MOST_SYSTEMS}
use Rattle.dist_model.specs.declared.system.System.{System}
use Rattle.dist_model.specs.declared.message.Reduced.{Reduced}
use Rattle.dist_model.specs.declared.row.Row.{Row}
use Rattle.dist_model.specs.declared.outbound.Outbound.{Outbound}
use Rattle.dist_model.specs.declared.lists.Lists.{Lists}
use Rattle.dist_model.specs.System.{IsSystem}
use Rattle.dist_model.specs.Kind.{AreKinds}
use Rattle.dist_model.specs.Message.{AreMessages, AreReduced, message_entries, message_names, reduced_names}
use Rattle.dist_model.specs.Filter.{AreFilters}
use Rattle.dist_model.specs.Way.{outbound_ways, row_way, same_way}
use Rattle.dist_model.specs.Row.{AreRows}
use Rattle.dist_model.specs.Outbound.{AreOutbound, LeavesWhole}
use Rattle.dist_model.specs.Inbound.{AreInbound}

-- one or more releases, not too many, each with a short name of its own
pub record AreReleases (releases : List (List ℕ)) : Type 0 where
  pub some : 1 ≤ length releases
  pub few : length releases ≤ MOST_RELEASES
  pub each : AllByRecursion (λ name. IsTrue (is_name_within LONGEST_RELEASE name)) releases
  pub apart : IsDistinct is_text releases

-- the names of the systems, in order
abbrev pub system_names : List System → List (List ℕ)
system_names systems = map (λ system. system.name) systems

-- one or more systems, not too many, each with a name of its own
pub record AreSystems (systems : List System) : Type 0 where
  pub some : 1 ≤ length systems
  pub few : length systems ≤ MOST_SYSTEMS
  pub each : AllByRecursion IsSystem systems
  pub apart : IsDistinct is_text (system_names systems)

-- the names of the segment types, in order
abbrev pub type_names : List SegmentType → List (List ℕ)
type_names types = map (λ type. type.name) types

-- each definition of a segment type is of one of so many releases
abbrev pub IsReleased : ℕ → SegmentType → Type 0
IsReleased releases type = AllByRecursion (λ version. version.release < releases) type.versions

-- the names of the IDoc types, in order
abbrev pub idoc_type_names : List IdocType → List (List ℕ)
idoc_type_names types = map (λ type. type.name) types

-- IDoc types over these segment types, not too many of them nor of their entries, each with a name of its own
pub record AreIdocTypes (definitions : Definitions) (types : List IdocType) : Type 0 where
  pub few : length types ≤ MOST_IDOC_TYPES
  pub each : AllByRecursion (IsIdocType definitions) types
  pub short : AllByRecursion (λ type. length type.segments ≤ MOST_ENTRIES) types
  pub apart : IsDistinct is_text (idoc_type_names types)

-- what may be sent as a message: the names of the message types, and behind them those of the reduced ones
abbrev pub all_names : Lists → List (List ℕ)
all_names model = message_names model.messages ++ reduced_names model.reduced

-- each row has a profile of what is sent
abbrev pub HasProfile : List Outbound → Row → Type 0
HasProfile profiles row = IsTrue (list_any (same_way (row_way row)) (outbound_ways profiles))

-- what a model keeps: the rules of each list, and of the lists together
pub record IsModel (model : Lists) : Type 0 where
  pub releases : AreReleases model.releases
  pub systems : AreSystems model.systems
  pub definitions : AreDefinitions model.definitions
  pub released : AllByRecursion (IsReleased (length model.releases)) model.definitions.types
  pub types : AreIdocTypes model.definitions model.types
  pub kinds : AreKinds model.definitions model.kinds
  pub messages : AreMessages model.definitions model.types model.kinds model.messages
  pub reduced : AreReduced model.definitions model.types model.messages model.reduced
  pub filters : AreFilters model.definitions model.types model.messages model.filters
  pub rows : AreRows (length model.systems) (length model.messages) model.definitions model.filters model.rows
  pub outbound : AreOutbound (length model.releases) (length model.systems) model.definitions model.types model.messages model.reduced model.outbound
  pub inbound : AreInbound (length model.systems) (all_names model) model.inbound
  pub profiled : AllByRecursion (HasProfile model.outbound) model.rows
  pub whole : AllByRecursion (λ profile. LeavesWhole model.definitions profile (message_entries model.types model.messages profile.message)) model.outbound

-- the system of this number, counted from 1, has the name
pub record HasSystem (model : Lists) (name : List ℕ) (number : ℕ) : Type 0 where
  pub place : ℕ
  pub counted : suc place ≡ number
  pub named : slice_get (system_names model.systems) place ≡ Some name

-- the number of the system of a name
abbrev pub system_named : List ℕ → Lists → Option ℕ
system_named name model = option_map suc (position (is_text name) (system_names model.systems))

-- a reduced message type of a message type has the name
pub record IsReducedName (model : Lists) (name : List ℕ) (message : ℕ) : Type 0 where
  pub one : Reduced
  pub among : Contains model.reduced one
  pub named : one.name ≡ name
  pub basic : one.message ≡ message

-- a name stands for a message type: it is the type's own name, or that of a reduced message type of it
abbrev pub StandsForMessage : Lists → List ℕ → ℕ → Type 0
StandsForMessage model name message = (slice_get (message_names model.messages) message ≡ Some name) ⊎ IsReducedName model name message

-- the message type of the name at a place: that name's own, or the one that is reduced
abbrev pub basic_at : Lists → ℕ → Option ℕ
basic_at model place =
    if nat_lt place (length model.messages) then Some place
    else option_map (λ one. one.message) (slice_get model.reduced (place - length model.messages))

-- the message type that a name stands for
abbrev pub message_named : List ℕ → Lists → Option ℕ
message_named name model = option_and_then (basic_at model) (position (is_text name) (all_names model))

-- The entries by which a document of a message type is read that has this control record: those of the message type's IDoc type.
abbrev pub entries_for : Lists → ℕ → List ℕ → List TypePlace
entries_for model message control = message_entries model.types model.messages message

-- the places of the elements that pass a test, where the first stands at this place
abbrev pub places_from : {A : Type 0} → (A → Bool) → ℕ → List A → List ℕ
places_from test place [] = []
places_from test place (a ∷ rest) = if test a then place ∷ places_from test (suc place) rest else places_from test (suc place) rest

-- whether a row is of a sender and a message type
abbrev pub goes_from : ℕ → ℕ → Row → Bool
goes_from sender message row = nat_eq sender row.sender && nat_eq message row.message

-- the rows of a sender and a message type, by their places, in order
abbrev pub receivers_of : ℕ → ℕ → Lists → List ℕ
receivers_of sender message model = places_from (goes_from sender message) 0 model.rows

-- the profile of the row at a place
abbrev pub outbound_of : Lists → ℕ → Option Outbound
outbound_of model place =
    option_and_then (λ row. option_and_then (slice_get model.outbound) (position (same_way (row_way row)) (outbound_ways model.outbound)))
    (slice_get model.rows place)
