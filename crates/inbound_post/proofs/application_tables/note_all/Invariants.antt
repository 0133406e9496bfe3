use Rattle.std.proofs.Common.{◌≡◌, ◌++◌}
use Rattle.inbound_post.proofs.application_tables.note_all.Given as goal

abbrev pub invariant-loop-pointer : goal.invariant-loop-pointer
invariant-loop-pointer l = l.pointers ≡ l.fn.pointers ++ l.yielded
