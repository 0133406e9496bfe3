use Rattle.std.specs.Prelude.{if◌then◌else◌}
use Rattle.std.proofs.Common.{◌≡◌, take}
use Rattle.segment_defs.specs.Version.{text_in, texts_joined}
use Rattle.version_reduce.specs.Reduced.{is_kept, no_data}
use Rattle.version_reduce.proofs.reduction.reduced_data.Given as goal

abbrev pub invariant-loop-place : goal.invariant-loop-place
invariant-loop-place l =
    l.reduced.items ≡ texts_joined (take l.place l.fields) (λ field. if is_kept l.keep l.segment field then text_in l.fields l.sdata field else no_data)
