use Rattle.std.proofs.Common.{◌≡◌, List, ℕ, take}
use Rattle.byte_journal.specs.Log.{records}
use Rattle.worked_cases.specs.Held.{AreGiven}
use Rattle.worked_cases.proofs.held.journal_of.Given as goal

abbrev pub invariant-loop-record : goal.invariant-loop-record
invariant-loop-record l =
    (bodies : List (List ℕ)) × AreGiven l.contents (take l.record-index l.given) bodies × (l.bytes.items ≡ records bodies)
