use Rattle.std.proofs.Common.{◌≡◌, drop}
use Rattle.version_reduce.specs.Converted.{converted_text}
use Rattle.version_reduce.proofs.conversion.converted_text.Given as goal

abbrev pub invariant-loop-row : goal.invariant-loop-row
invariant-loop-row l = converted_text (drop l.row-index l.rows) l.segment l.field l.value ≡ converted_text l.rows l.segment l.field l.value
