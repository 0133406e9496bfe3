use Rattle.std.proofs.Common.{◌≡◌, map}
use Rattle.listings.specs.ObjectLines.{object_line}
use Rattle.listings.proofs.object_lines.lines_of.Given as goal

abbrev pub invariant-loop-object : goal.invariant-loop-object
invariant-loop-object l = l.lines ≡ map object_line l.yielded
