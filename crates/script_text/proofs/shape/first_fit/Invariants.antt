use Rattle.std.specs.Prelude.{find}
use Rattle.std.proofs.Common.{◌≡◌, drop}
use Rattle.script_text.specs.declared.shape.Shape.{Shape}
use Rattle.script_text.specs.Words.{texts}
use Rattle.script_text.specs.Forms.{pattern_of, fits}
use Rattle.script_text.proofs.shape.first_fit.Given as goal

abbrev pub invariant-loop-shape : goal.invariant-loop-shape
invariant-loop-shape l =
    find (λ (shape : Shape). fits (pattern_of shape) (texts l.words)) l.shapes
    ≡ find (λ (shape : Shape). fits (pattern_of shape) (texts l.words)) (drop l.shape-index l.shapes)
