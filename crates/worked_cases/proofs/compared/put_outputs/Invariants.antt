use Rattle.std.proofs.Common.{◌≡◌, ◌++◌, map, take}
use Rattle.worked_cases.specs.Judged.{output_compared}
use Rattle.worked_cases.proofs.compared.put_outputs.Given as goal

abbrev pub invariant-loop-output : goal.invariant-loop-output
invariant-loop-output l = l.comparisons ≡ l.fn.comparisons ++ map (output_compared l.printed) (take l.output-index l.outputs)
