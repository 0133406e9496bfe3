use Rattle.std.proofs.Common.{◌≡◌, ◌++◌, suc, drop}
use Rattle.listings.specs.Places.{root_places}
use Rattle.listings.proofs.places.root_places.Given as goal

abbrev pub invariant-loop-at : goal.invariant-loop-at
invariant-loop-at l = l.places ++ root_places (suc l.at) (drop l.at l.records) ≡ root_places 1 l.records
