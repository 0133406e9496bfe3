use Rattle.std.proofs.Common.{◌≡◌, ◌++◌, map, take}
use Rattle.document_state.proofs.replay.push_units.Given as goal

abbrev pub invariant-loop-one : goal.invariant-loop-one
invariant-loop-one l = l.units ≡ l.fn.units ++ map (λ one. one.unit) (take l.one-index l.more)
