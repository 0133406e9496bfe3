use Rattle.std.proofs.Common.{◌≡◌, take}
use Rattle.model_text.proofs.segments.copy_of.Given as goal

abbrev pub invariant-loop-field : goal.invariant-loop-field
invariant-loop-field l = l.copy ≡ take l.field-index l.fields
