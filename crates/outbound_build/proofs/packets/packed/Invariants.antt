use Rattle.std.proofs.Common.{◌≡◌, ◌++◌, drop, map}
use Rattle.outbound_build.proofs.packets.packed.Given as goal

abbrev pub invariant-loop-one : goal.invariant-loop-one
invariant-loop-one l = record {
  numbers : l.numbers ++ map (λ one. one.number) (drop l.one-index l.packet) ≡ map (λ one. one.number) l.packet;
  docs : l.docs ++ map (λ one. one.document) (drop l.one-index l.packet) ≡ map (λ one. one.document) l.packet;
}
