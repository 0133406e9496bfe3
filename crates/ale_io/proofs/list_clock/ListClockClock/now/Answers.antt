use Rattle.std.proofs.Common.{◌≡◌, ◌+◌, [], ◌∷◌, ◌++◌, sym, ap, ◌∙◌, arith}
use Rattle.ale_io.specs.Moments.{given_by}
use Rattle.ale_io.proofs.MomentLemmas.{given_by-more}
use Rattle.ale_io.proofs.list_clock.ListClockClock.now.Goals as goal

pub returns-clause-given : goal.returns-clause-given
returns-clause-given c = λ told.
    let moments = c.args.self.now.moments in
    let calls = c.args.self.now.calls in
    let one_more : c.saturating_add-self.result ≡ calls + 1 = omega (arith, told) in
    ap (given_by moments) one_more
    ∙ given_by-more moments calls
    ∙ ap (λ moment. given_by moments calls ++ moment ∷ []) (sym c.next_moment-moment.ensures)
