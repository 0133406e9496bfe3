use Rattle.std.proofs.Common.{◌≡◌, length, take}
use Rattle.outbound_build.specs.steps.Packets.{AreWaitingFor}
use Rattle.outbound_build.proofs.packets.waiting_by_row.Given as goal

abbrev pub invariant-loop-one : goal.invariant-loop-one
invariant-loop-one l = record {
  all : length l.lists ≡ l.fn.rows;
  each : AreWaitingFor (take l.one-index l.waiting) l.lists;
}
