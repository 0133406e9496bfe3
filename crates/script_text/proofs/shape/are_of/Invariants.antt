use Rattle.std.proofs.Common.{◌≡◌, drop}
use Rattle.script_text.specs.Words.{texts}
use Rattle.script_text.specs.Forms.{are_of}
use Rattle.script_text.proofs.shape.are_of.Given as goal

abbrev pub invariant-loop-at : goal.invariant-loop-at
invariant-loop-at l = are_of l.kinds (texts l.words) ≡ are_of (drop l.at l.kinds) (texts (drop l.at l.words))
