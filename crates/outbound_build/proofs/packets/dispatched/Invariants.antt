use Rattle.std.specs.Prelude.{nat_eq}
use Rattle.std.specs.List.{flat_map}
use Rattle.std.proofs.Common.{◌≡◌, ◌++◌, drop}
use Rattle.dist_model.specs.Model.{places_from}
use Rattle.outbound_build.specs.Added.{dispatched, packed_for}
use Rattle.outbound_build.proofs.packets.dispatched.Given as goal

abbrev pub invariant-loop-place : goal.invariant-loop-place
invariant-loop-place l =
    l.parcels ++ flat_map (packed_for l.model l.fn.waiting) (places_from (λ row. nat_eq l.system row.sender) l.place (drop l.place l.model.rows))
    ≡ dispatched l.model l.system l.fn.waiting
