use Rattle.std.proofs.Common.{◌≡◌, ◌++◌, map, filter}
use Rattle.ale_base.specs.Tid.{has_range}
use Rattle.tid_table.specs.Numbers.{tid_of}
use Rattle.landscape.proofs.ids.ids_of.Given as goal

-- with those that are left they are all
abbrev pub invariant-loop-of_one : goal.invariant-loop-of_one
invariant-loop-of_one l = l.tids ++ filter has_range (map tid_of l.of_one-iterator) ≡ filter has_range (map tid_of l.numbers.keys)
