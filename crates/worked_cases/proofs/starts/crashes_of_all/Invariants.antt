use Rattle.std.proofs.Common.{◌≡◌, take}
use Rattle.std.specs.List.{flat_map}
use Rattle.worked_cases.specs.Starts.{images}
use Rattle.worked_cases.proofs.starts.crashes_of_all.Given as goal

abbrev pub invariant-loop-vols : goal.invariant-loop-vols
invariant-loop-vols l = l.all.items ≡ flat_map images (take l.vols-index l.before)
