use Rattle.std.proofs.Common.{◌≡◌, map, take}
use Rattle.worked_cases.specs.Starts.{contents_of}
use Rattle.worked_cases.proofs.starts.contents_of_all.Given as goal

abbrev pub invariant-loop-vols : goal.invariant-loop-vols
invariant-loop-vols l = l.all.items ≡ map contents_of (take l.vols-index l.before)
