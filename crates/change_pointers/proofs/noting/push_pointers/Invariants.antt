use Rattle.std.proofs.Common.{◌≡◌, ◌++◌, map, take}
use Rattle.dist_model.specs.Model.{places_from}
use Rattle.change_pointers.specs.Noted.{lists_field, pointer_to}
use Rattle.change_pointers.proofs.noting.push_pointers.Given as goal

abbrev pub invariant-loop-place : goal.invariant-loop-place
invariant-loop-place l =
    l.pointers ≡ l.initial.pointers ++ map (pointer_to l.kind l.key l.field) (places_from (lists_field l.lists l.kind l.field) 0 (take l.place l.messages))
