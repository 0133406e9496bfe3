use Rattle.std.proofs.Common.{take}
use Rattle.unit_codec.specs.Kind.{PutsAll}
use Rattle.unit_codec.proofs.lists.put_listed.Given as goal

-- the values so far are appended
abbrev pub invariant-loop-value : goal.invariant-loop-value
invariant-loop-value g l = PutsAll g.T.Listed.kind (take l.value-index l.values) l.fn.into.items l.into.items
