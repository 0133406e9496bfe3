use Rattle.std.proofs.Common.{◌≡◌, drop}
use Rattle.unit_core.specs.Queues.{are_different}
use Rattle.application_rules.specs.Puts.{field_names}
use Rattle.application_rules.proofs.puts.are_different.Given as goal

abbrev pub invariant-loop-place : goal.invariant-loop-place
invariant-loop-place l = are_different (field_names (drop l.place l.fields)) ≡ are_different (field_names l.fields)
