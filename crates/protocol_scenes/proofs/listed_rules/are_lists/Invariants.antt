use Rattle.std.proofs.Common.{◌≡◌, ◌+◌, drop}
use Rattle.protocol_scenes.specs.ListedRules.{are_lists}
use Rattle.protocol_scenes.proofs.listed_rules.are_lists.Given as goal

abbrev pub invariant-loop-place : goal.invariant-loop-place
invariant-loop-place l = are_lists l.systems (l.place + 1) (drop l.place l.lists) ≡ are_lists l.systems 1 l.lists
