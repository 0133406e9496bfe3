use Rattle.std.specs.BTreeMap.{get}
use Rattle.std.proofs.Common.{take}
use Rattle.multi_queue.specs.Counted.{Grows}
use Rattle.multi_queue.specs.Seen.{names_cmp, IsNamed, AreNumbersOf}
use Rattle.multi_queue.proofs.numbering.numbers_in.Given as goal

-- the keys so far have their numbers
abbrev pub invariant-loop-key : goal.invariant-loop-key
invariant-loop-key l = record {
  named : IsNamed l.lanes (get names_cmp l.names);
  grows : Grows l.initial.lanes l.lanes;
  numbers : AreNumbersOf (take l.key-index l.keys) l.lanes l.numbers.items;
}
