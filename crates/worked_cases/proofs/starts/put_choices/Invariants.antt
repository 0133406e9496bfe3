use Rattle.std.proofs.Common.{◌≡◌, ◌++◌, map}
use Rattle.std.specs.List.{range_with_len}
use Rattle.worked_cases.specs.Starts.{image_of}
use Rattle.worked_cases.proofs.starts.put_choices.Given as goal

abbrev pub invariant-loop-choice : goal.invariant-loop-choice
invariant-loop-choice l = l.all.items ≡ l.fn.all.items ++ map (image_of l.vols l.moment) (range_with_len 0 l.choice)
