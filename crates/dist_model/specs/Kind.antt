-- Kinds of business objects.
use Rattle.std.specs.Prelude.{ℕ, ◌<◌, ◌≤◌, List, length, map}
use Rattle.std.specs.List.{AllByRecursion, IsDistinct}
use Rattle.ale_base.specs.Text.{is_text}
use Rattle.segment_defs.specs.declared.definitions.Definitions.{Definitions}
use Rattle.segment_defs.specs.Definitions.{versions_of}
use Rattle.segment_defs.specs.Name.{IsName}
use Rattle.dist_model.specs.declared.limits.TheConstants.{MOST_KINDS}
use Rattle.dist_model.specs.declared.kind.Kind.{Kind}
use Rattle.dist_model.specs.Field.{first_fields}

-- a kind has a name, and a key that each definition of its segment type has
pub record IsKind (definitions : Definitions) (kind : Kind) : Type 0 where
  pub named : IsName kind.name
  pub known : kind.segment < length definitions.types
  pub key : kind.key < length (first_fields (versions_of definitions kind.segment))

-- the names of the kinds, in order
abbrev pub kind_names : List Kind → List (List ℕ)
kind_names kinds = map (λ kind. kind.name) kinds

-- not too many kinds, each with a name of its own
pub record AreKinds (definitions : Definitions) (kinds : List Kind) : Type 0 where
  pub few : length kinds ≤ MOST_KINDS
  pub each : AllByRecursion (IsKind definitions) kinds
  pub apart : IsDistinct is_text (kind_names kinds)
