use Rattle.std.proofs.Common.{◌≡◌, take}
use Rattle.std.specs.List.{filter_map}
use Rattle.unit_core.specs.steps.Facts.{told_by}
use Rattle.unit_core.proofs.filters.tids_told.Given as goal

abbrev pub invariant-loop-record : goal.invariant-loop-record
invariant-loop-record l = l.tids.items ≡ filter_map (told_by l.fact) (take l.record-index l.log)
