use Rattle.std.specs.List.{filter_map}
use Rattle.std.proofs.Common.{◌≡◌, ◌++◌, drop}
use Rattle.change_pointers.specs.Renumbered.{renumbered}
use Rattle.change_pointers.proofs.pointers.Pointers.renumber.Given as goal

-- those kept so far, and what becomes of those left
abbrev pub invariant-loop-pointer : goal.invariant-loop-pointer
invariant-loop-pointer l = l.kept ++ filter_map (renumbered l.before l.after) (drop l.pointer-index l.pointers)
    ≡ filter_map (renumbered l.before l.after) l.fn.self
