use Rattle.std.specs.Prelude.{filter}
use Rattle.std.proofs.Common.{◌≡◌, ◌++◌, None, drop}
use Rattle.filter_objects.specs.FromLeaves.{is_needed}
use Rattle.filter_objects.proofs.needs.needed_roots.Given as goal

abbrev pub invariant-loop-entry : goal.invariant-loop-entry
invariant-loop-entry l =
    l.roots ++ filter (is_needed l.ty.segments None) (drop l.entry-index l.entries) ≡ filter (is_needed l.ty.segments None) l.entries
