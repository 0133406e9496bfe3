use Rattle.std.proofs.Common.{◌≡◌, ◌++◌, map, drop}
use Rattle.change_pointers.specs.Noted.{name_at}
use Rattle.inbound_post.proofs.reading.names_at.Given as goal

abbrev pub invariant-loop-place : goal.invariant-loop-place
invariant-loop-place l = l.names ++ map (name_at l.fields) (drop l.place-index l.places) ≡ map (name_at l.fields) l.places
