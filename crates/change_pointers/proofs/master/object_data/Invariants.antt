use Rattle.std.proofs.Common.{◌≡◌, take}
use Rattle.segment_defs.specs.Version.{texts_joined}
use Rattle.object_store.specs.Posting.{fields_of}
use Rattle.change_pointers.specs.Master.{object_text}
use Rattle.change_pointers.proofs.master.object_data.Given as goal

abbrev pub invariant-loop-place : goal.invariant-loop-place
invariant-loop-place l =
    l.data.items ≡ texts_joined (take l.place l.fields) (object_text l.fields l.key_place l.key.key (fields_of l.key.kind l.key.key l.objects))
