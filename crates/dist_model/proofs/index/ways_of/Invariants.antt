use Rattle.std.proofs.Common.{◌≡◌, take}
use Rattle.dist_model.specs.Way.{outbound_ways}
use Rattle.dist_model.proofs.index.ways_of.Given as goal

abbrev pub invariant-loop-profile : goal.invariant-loop-profile
invariant-loop-profile l = l.ways ≡ outbound_ways (take l.profile-index l.profiles)
