use Rattle.std.proofs.Common.{◌≡◌, ◌+◌, suc, length}
use Rattle.outbound_build.specs.Added.{numbered}
use Rattle.outbound_build.proofs.numbering.numbered.Given as goal

abbrev pub invariant-loop-parcel : goal.invariant-loop-parcel
invariant-loop-parcel l = record {
  counted : l.number ≡ l.fn.before + length l.yielded;
  units : l.units ≡ numbered l.fn.system (suc l.fn.before) l.yielded;
}
