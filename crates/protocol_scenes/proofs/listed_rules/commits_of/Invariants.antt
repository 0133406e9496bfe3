use Rattle.std.proofs.Common.{◌≡◌, ◌≤◌, take}
use Rattle.protocol_scenes.specs.ListedRules.{commits_of}
use Rattle.protocol_scenes.proofs.listed_rules.commits_of.Given as goal

abbrev pub invariant-loop-record : goal.invariant-loop-record
invariant-loop-record l = (l.count ≡ commits_of (take l.record-index l.log)) × (l.count ≤ l.record-index)
