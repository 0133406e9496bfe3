use Rattle.std.proofs.Common.{◌↔◌, drop}
use Rattle.segment_defs.specs.Version.{AreLaidOut}
use Rattle.segment_defs.proofs.rules.are_laid_out.Given as goal

abbrev pub invariant-loop-field : goal.invariant-loop-field
invariant-loop-field l = AreLaidOut l.offset (drop l.field-index l.fields) ↔ AreLaidOut 0 l.fields
