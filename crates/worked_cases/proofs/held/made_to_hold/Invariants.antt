use Rattle.std.proofs.Common.{◌≡◌, length, take}
use Rattle.worked_cases.specs.Held.{AreHeld}
use Rattle.worked_cases.proofs.held.made_to_hold.Given as goal

abbrev pub invariant-loop-holding : goal.invariant-loop-holding
invariant-loop-holding l = record {
  volumes : length l.contents ≡ 16;
  held : AreHeld l.start (take l.holding-index l.holds) l.contents;
}
