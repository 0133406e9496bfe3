use Rattle.std.proofs.Common.{◌≡◌, ◌++◌, length, map}
use Rattle.outbound_build.specs.Added.{packed, packets}
use Rattle.outbound_build.proofs.packets.add_packets.Given as goal

abbrev pub invariant-loop-rest : goal.invariant-loop-rest
invariant-loop-rest l =
    l.parcels ++ map (packed l.profile) (packets l.profile.packet l.rest) ≡ l.fn.parcels ++ map (packed l.profile) (packets l.profile.packet l.fn.waiting)

abbrev pub decreases-loop-rest : goal.decreases-loop-rest
decreases-loop-rest l = length l.rest
