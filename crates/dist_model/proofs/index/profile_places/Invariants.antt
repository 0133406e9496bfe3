use Rattle.std.proofs.Common.{take}
use Rattle.dist_model.specs.Index.{AreProfilesOf}
use Rattle.dist_model.proofs.index.profile_places.Given as goal

abbrev pub invariant-loop-row : goal.invariant-loop-row
invariant-loop-row l = AreProfilesOf (take l.row-index l.rows) l.profiles l.places
