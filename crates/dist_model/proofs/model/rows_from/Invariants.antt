use Rattle.std.specs.Prelude.{filter}
use Rattle.std.proofs.Common.{◌≡◌, take}
use Rattle.dist_model.specs.Index.{is_from}
use Rattle.dist_model.proofs.model.rows_from.Given as goal

abbrev pub invariant-loop-place : goal.invariant-loop-place
invariant-loop-place l = l.found ≡ filter (is_from l.rows l.sender) (take l.place-index l.places)
