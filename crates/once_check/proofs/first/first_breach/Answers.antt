use Rattle.std.specs.Prelude.{None, MatchOption}
use Rattle.std.proofs.Common.{◌≡◌, ◌↔◌, ℕ}
use Rattle.std.proofs.lemmas.Result.{IfOk-weaker}
use Rattle.unit_core.specs.Once.{Once}
use Rattle.unit_core.specs.Systems.{lent, of_system}
use Rattle.once_check.specs.Breaches.{IsUnbroken, IsFirstBreach}
use Rattle.unit_core.specs.Inside.{IsLegalInside}
use Rattle.once_check.proofs.FirstLemmas.{none-exactly}
use Rattle.unit_core.proofs.InsideLemmas.{IsOnceInside-legal}
use Rattle.once_check.proofs.first.first_breach.Goals as goal

pub returns-clause-once : goal.returns-clause-once
returns-clause-once c =
    IfOk-weaker c.find_breach.result
    (λ found. MatchOption found (IsUnbroken (of_system (lent c.args.committed.now)) (of_system (lent c.args.logs.now)))
    (IsFirstBreach (of_system (lent c.args.committed.now)) (of_system (lent c.args.logs.now))))
    (λ found. ((system : ℕ) → IsLegalInside (of_system (lent c.args.logs.now) system)) → (found ≡ None) ↔ Once (of_system (lent c.args.committed.now)) (of_system (lent c.args.logs.now)))
    (λ found first legal. none-exactly (of_system (lent c.args.committed.now)) (of_system (lent c.args.logs.now)) found c.requires.numbered first
    (IsOnceInside-legal (of_system (lent c.args.logs.now)) legal))
    c.find_breach.ensures
