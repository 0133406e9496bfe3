-- The release of a receiver: what it gets is of definitions that it has. Source: SAP Library, IDoc interface, versions of
-- segments; that a segment without such a definition goes is this project's own rule.
use Rattle.std.specs.Prelude.{◌≡◌, ℕ, ◌<◌, ◌≤◌, min, Option, Some, IfSome}
use Rattle.std.specs.List.{AllByRecursion}
use Rattle.std.specs.Option.{option_map_or}
use Rattle.segment_defs.specs.declared.version.Version.{Version}
use Rattle.segment_defs.specs.declared.definitions.Definitions.{Definitions}
use Rattle.segment_defs.specs.Definitions.{versions_of, version_of}
use Rattle.segment_defs.specs.SegmentType.{newest_by}
use Rattle.segment_defs.specs.Version.{fitted}
use Rattle.dist_model.specs.declared.lists.Lists.{Lists}
use Rattle.dist_model.specs.declared.outbound.Outbound.{Outbound}
use Rattle.dist_model.specs.Outbound.{drops}
use Rattle.idoc_tree.specs.Forest.{Segment, Forest, map_nodes, without}
use Rattle.idoc_tree.specs.Spells.{fitted_by}
use Rattle.version_reduce.specs.Left.{IsLeftOf}

-- the release of the definition of a segment
abbrev pub own_release : Definitions → Segment → ℕ
own_release definitions segment = option_map_or (λ version. version.release) (version_of definitions segment.type segment.version) 0

-- the newest definition of a segment's type that is neither after a release nor after the segment's own definition
abbrev pub given_version : Definitions → ℕ → Segment → Option ℕ
given_version definitions release segment = newest_by (min release (own_release definitions segment)) (versions_of definitions segment.type)

-- a segment with another definition of its type, its data cut to it
abbrev pub with_version : Definitions → Segment → ℕ → Segment
with_version definitions segment version =
    record { type = segment.type; version = version; sdata = fitted_by (version_of definitions segment.type version) segment.sdata }

-- a segment with the definition that it is given
abbrev pub released_segment : Definitions → ℕ → Segment → Segment
released_segment definitions release segment =
    option_map_or (with_version definitions segment) (given_version definitions release segment) segment

-- what is left of a forest: the segments whose types have no definition by the profile's release go, each with all below
-- it, and each other gets the definition that it is given
abbrev pub released : Lists → Outbound → Forest → Forest
released model profile forest =
    map_nodes (released_segment model.definitions profile.release) (without (λ segment. drops model.definitions profile segment.type) forest)

-- the definition of a segment is not after a release
abbrev pub IsByRelease : Definitions → ℕ → Segment → Type 0
IsByRelease definitions release segment =
    IfSome (version_of definitions segment.type segment.version) (λ definition. definition.release ≤ release)

-- What a segment of this own definition becomes for a release: one of the same type, with the newest definition of that which is neither
-- after the release nor after its own, and with its data cut to that.
pub record IsGiven (definitions : Definitions) (release : ℕ) (old : Segment) (own : Version) (new : Segment) : Type 0 where
  pub type : new.type ≡ old.type
  pub definition : Version
  pub here : version_of definitions old.type new.version ≡ Some definition
  pub by_release : definition.release ≤ release
  pub by_own : definition.release ≤ own.release
  pub newest : (version : ℕ) (other : Version) → version_of definitions old.type version ≡ Some other → other.release ≤ release
      → other.release ≤ own.release → other.release ≤ definition.release
  pub cut : new.sdata ≡ fitted definition old.sdata

-- only segments go whose types have each definition after the profile's release, each with all below it; and each other becomes what
-- it does for that release
abbrev pub IsReleasedFrom : Lists → Outbound → Forest → Forest → Type 0
IsReleasedFrom model profile old new =
    IsLeftOf (λ segment. AllByRecursion (λ version. profile.release < version.release) (versions_of model.definitions segment.type))
    (λ segment sent. IfSome (version_of model.definitions segment.type segment.version)
    (λ own. IsGiven model.definitions profile.release segment own sent)) old new
