use Rattle.std.proofs.Common.{rules, ◌≡◌, ◌∙◌, ℕ, List, [], length, take, ap, sym}
use Rattle.byte_journal.specs.Log.{front_of}
use Rattle.byte_journal.proofs.read_durable.read_front.Goals as goal

-- no bytes are a part of the front
pub returns-clause-read : goal.returns-clause-read
returns-clause-read g c = λ told.
    let none : c.new-bytes.result.items ≡ [] = search rules in
    let front = front_of (g.V.Volumes.disk.volume c.args.vols.now c.args.n).contents in
    c.in_ok-read_on.ensures.read told (none ∙ ap (λ (l : List ℕ). take (length l) front) (sym none))
