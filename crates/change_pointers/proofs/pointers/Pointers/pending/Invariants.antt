use Rattle.std.proofs.Common.{◌≡◌, take}
use Rattle.change_pointers.specs.Pointers.{pending_of}
use Rattle.change_pointers.proofs.pointers.Pointers.pending.Given as goal

abbrev pub invariant-loop-pointer : goal.invariant-loop-pointer
invariant-loop-pointer l = l.objects ≡ pending_of l.message (take l.pointer-index l.pointers)
