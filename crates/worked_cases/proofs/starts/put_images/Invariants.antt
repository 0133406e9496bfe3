use Rattle.std.proofs.Common.{◌≡◌, ◌++◌}
use Rattle.std.specs.List.{flat_map, range_with_len}
use Rattle.worked_cases.specs.Starts.{images_at}
use Rattle.worked_cases.proofs.starts.put_images.Given as goal

abbrev pub invariant-loop-moment : goal.invariant-loop-moment
invariant-loop-moment l = l.all.items ≡ l.fn.all.items ++ flat_map (images_at l.vols) (range_with_len 0 l.moment)
