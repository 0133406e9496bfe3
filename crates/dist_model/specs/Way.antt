-- Ways: from which system to which a message type goes.
use Rattle.std.specs.Prelude.{◌≡◌, ℕ, ◌<◌, ◌≤◌, Bool, List, map}
use Rattle.dist_model.specs.Triple.{same_triple}
use Rattle.dist_model.specs.declared.row.Row.{Row}
use Rattle.dist_model.specs.declared.outbound.Outbound.{Outbound}

-- sender, receiver and message type
abbrev pub Way : Type 0
Way = ℕ × ℕ × ℕ

-- the way of a row
abbrev pub row_way : Row → Way
row_way row = (row.sender, row.receiver, row.message)

-- the way of a profile of what is sent
abbrev pub outbound_way : Outbound → Way
outbound_way profile = (profile.sender, profile.receiver, profile.message)

-- the ways of some profiles, in order
abbrev pub outbound_ways : List Outbound → List Way
outbound_ways profiles = map (λ profile. outbound_way profile) profiles

-- whether two ways are the same
abbrev pub same_way : Way → Way → Bool
same_way way other = same_triple way other

-- two systems that differ, out of so many, counted from 1
pub record AreTwoSystems (systems sender receiver : ℕ) : Type 0 where
  pub sender_from : 1 ≤ sender
  pub sender_to : sender ≤ systems
  pub receiver_from : 1 ≤ receiver
  pub receiver_to : receiver ≤ systems
  pub differ : sender ≡ receiver → ⊥

-- a way between two of so many systems, of one of so many message types
pub record IsWay (systems messages : ℕ) (way : Way) : Type 0 where
  pub ends : AreTwoSystems systems way.0 way.1
  pub message : way.2 < messages
