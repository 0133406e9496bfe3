use Rattle.std.proofs.Common.{◌≡◌, take}
use Rattle.segment_defs.specs.Version.{text_in, texts_joined}
use Rattle.version_reduce.specs.Converted.{converted_text}
use Rattle.version_reduce.proofs.conversion.converted_data.Given as goal

abbrev pub invariant-loop-place : goal.invariant-loop-place
invariant-loop-place l =
    l.converted.items ≡ texts_joined (take l.place l.fields) (λ field. converted_text l.rows l.segment field (text_in l.fields l.sdata field))
