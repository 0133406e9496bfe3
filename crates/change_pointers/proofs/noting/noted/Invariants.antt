use Rattle.std.proofs.Common.{◌≡◌, take}
use Rattle.change_pointers.specs.Noted.{noted_by}
use Rattle.change_pointers.proofs.noting.noted.Given as goal

abbrev pub invariant-loop-field : goal.invariant-loop-field
invariant-loop-field l = l.pointers ≡ noted_by l.lists l.objects l.kind l.key (take l.field-index l.fields)
