use Rattle.std.proofs.Common.{◌≡◌, map, take}
use Rattle.dist_model.specs.Index.{inbound_triple}
use Rattle.dist_model.proofs.index.inbound_triples.Given as goal

abbrev pub invariant-loop-profile : goal.invariant-loop-profile
invariant-loop-profile l = l.triples ≡ map (inbound_triple l.names) (take l.profile-index l.profiles)
