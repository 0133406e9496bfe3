-- What the index of a model holds: steps of the type `Model`, which contracts do not see.
use Rattle.std.specs.Prelude.{◌≡◌, ℕ, ◌<◌, Bool, false, List, length, map, nat_eq, position, Some, slice_get}
use Rattle.std.specs.Option.{option_map_or}
use Rattle.ale_base.specs.Text.{is_text}
use Rattle.dist_model.specs.declared.inbound.Inbound.{Inbound}
use Rattle.dist_model.specs.declared.index.Index.{Index}
use Rattle.dist_model.specs.declared.lists.Lists.{Lists}
use Rattle.dist_model.specs.declared.outbound.Outbound.{Outbound}
use Rattle.dist_model.specs.declared.row.Row.{Row}
use Rattle.dist_model.specs.Way.{outbound_ways, row_way, same_way, Way}
use Rattle.dist_model.specs.Model.{all_names, places_from}

-- whether a row is of a message type
abbrev pub is_of : ℕ → Row → Bool
is_of message row = nat_eq message row.message

-- for each of so many message types the places of its rows, in order
abbrev pub AreRowsOf : ℕ → List Row → List (List ℕ) → Type 0
AreRowsOf messages rows lists = (message : ℕ) → message < messages → slice_get lists message ≡ Some (places_from (is_of message) 0 rows)

-- for each row the place of its profile
abbrev pub AreProfilesOf : List Row → List Outbound → List ℕ → Type 0
AreProfilesOf rows profiles places = map (λ row. position (same_way (row_way row)) (outbound_ways profiles)) rows ≡ map (λ place. Some place) places

-- the place of a name that stands among some
abbrev pub name_place : List (List ℕ) → List ℕ → ℕ
name_place names name = option_map_or (λ place. place) (position (is_text name) names) 0

-- receiver, sender and name of a profile, the name by its place
abbrev pub inbound_triple : List (List ℕ) → Inbound → Way
inbound_triple names profile = (profile.receiver, profile.sender, name_place names profile.message)

-- whether a place is that of a row of a sender
abbrev pub is_from : List Row → ℕ → ℕ → Bool
is_from rows sender place = option_map_or (λ row. nat_eq sender row.sender) (slice_get rows place) false

-- an index knows the places of the names, of the rows of each message type, of the profile of each row, and of the profiles
-- of what is received
pub record IsIndexOf (model : Lists) (index : Index) : Type 0 where
  pub names : index.names ≡ all_names model
  pub rows : AreRowsOf (length model.messages) model.rows index.rows
  pub profiles : AreProfilesOf model.rows model.outbound index.profiles
  pub inbound : index.inbound ≡ map (inbound_triple (all_names model)) model.inbound
