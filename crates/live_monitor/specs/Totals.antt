-- Three totals: when they are in order, when each is at least another, and the larger of two.
use Rattle.std.specs.Prelude.{◌≤◌, max}
use Rattle.live_monitor.specs.declared.totals.Totals.{Totals}

-- executed at most accepted, and accepted at most committed
abbrev pub AreInOrder : Totals → Type 0
AreInOrder now = (now.executed ≤ now.accepted) × (now.accepted ≤ now.committed)

-- each of the three is at least what it was
abbrev pub AreAtLeast : Totals → Totals → Type 0
AreAtLeast now was = (was.committed ≤ now.committed) × (was.accepted ≤ now.accepted) × (was.executed ≤ now.executed)

-- of each of the three the larger one
abbrev pub larger : Totals → Totals → Totals
larger one other = record {
  committed = max one.committed other.committed;
  accepted = max one.accepted other.accepted;
  executed = max one.executed other.executed;
}
