-- Profiles of what is received.
use Rattle.std.specs.Prelude.{ℕ, ◌≤◌, ◌&&◌, Bool, List, length, nat_eq, Contains}
use Rattle.std.specs.List.{AllByRecursion, IsDistinct}
use Rattle.ale_base.specs.Text.{is_text}
use Rattle.dist_model.specs.declared.limits.TheConstants.{MOST_INBOUND}
use Rattle.dist_model.specs.declared.inbound.Inbound.{Inbound}
use Rattle.dist_model.specs.Way.{AreTwoSystems}

-- a profile is of two systems and one of these names of message types and reduced ones
pub record IsInbound (systems : ℕ) (names : List (List ℕ)) (profile : Inbound) : Type 0 where
  pub ends : AreTwoSystems systems profile.sender profile.receiver
  pub named : Contains names profile.message

-- whether a profile is of this receiver, this sender and this name
abbrev pub is_inbound : ℕ → ℕ → List ℕ → Inbound → Bool
is_inbound receiver sender name profile =
    nat_eq receiver profile.receiver && (nat_eq sender profile.sender && is_text name profile.message)

-- whether two profiles are of the same
abbrev pub same_inbound : Inbound → Inbound → Bool
same_inbound profile other = is_inbound profile.receiver profile.sender profile.message other

-- not too many profiles, each of its own receiver, sender and name
pub record AreInbound (systems : ℕ) (names : List (List ℕ)) (profiles : List Inbound) : Type 0 where
  pub few : length profiles ≤ MOST_INBOUND
  pub each : AllByRecursion (IsInbound systems names) profiles
  pub apart : IsDistinct same_inbound profiles
