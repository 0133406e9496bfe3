-- Segments that a profile removes. That all below them goes too is this project's own rule.
use Rattle.std.specs.Prelude.{◌≡◌, Contains}
use Rattle.dist_model.specs.declared.outbound.Outbound.{Outbound}
use Rattle.dist_model.specs.Outbound.{removes}
use Rattle.idoc_tree.specs.Forest.{Segment, Forest, without}
use Rattle.version_reduce.specs.Left.{IsLeftOf}

-- what is left of a forest: the segments of the types that the profile removes go, each with all below it
abbrev pub removed : Outbound → Forest → Forest
removed profile forest = without (λ segment. removes profile segment.type) forest

-- a segment of a type that the profile does not remove, as it was
pub record IsKeptWhole (profile : Outbound) (old new : Segment) : Type 0 where
  pub same : new ≡ old
  pub stays : Contains profile.remove old.type → ⊥

-- only segments of types that the profile removes go, each with all below it, and all others are as they were
abbrev pub LosesRemoved : Outbound → Forest → Forest → Type 0
LosesRemoved profile old new = IsLeftOf (λ segment. Contains profile.remove segment.type) (IsKeptWhole profile) old new
