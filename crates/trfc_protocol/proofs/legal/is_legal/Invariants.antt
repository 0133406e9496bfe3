use Rattle.std.proofs.Common.{take}
use Rattle.trfc_protocol.specs.Legal.{IsLegal}
use Rattle.trfc_protocol.proofs.legal.is_legal.Given as goal

abbrev pub invariant-loop-place : goal.invariant-loop-place
invariant-loop-place g l = IsLegal (g.R.Rules.meaning l.rules) l.system (take l.place l.log)
