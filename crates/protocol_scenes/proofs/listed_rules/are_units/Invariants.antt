use Rattle.std.proofs.Common.{◌≡◌, ◌+◌, drop}
use Rattle.protocol_scenes.specs.ListedRules.{are_units}
use Rattle.protocol_scenes.proofs.listed_rules.are_units.Given as goal

abbrev pub invariant-loop-place : goal.invariant-loop-place
invariant-loop-place l = are_units l.systems l.system (l.place + 1) (drop l.place l.units) ≡ are_units l.systems l.system 1 l.units
