use Rattle.std.proofs.Common.{◌≡◌, ℕ, take}
use Rattle.std.specs.List.{list_any}
use Rattle.dist_model.specs.Triple.{same_triple}
use Rattle.dist_model.specs.Way.{outbound_ways}
use Rattle.model_text.proofs.profiled.ways_of.Given as goal

abbrev pub invariant-loop-profile : goal.invariant-loop-profile
invariant-loop-profile l = (way : ℕ × ℕ × ℕ) → list_any (same_triple way) l.ways ≡ list_any (same_triple way) (outbound_ways (take l.profile-index l.profiles))
