-- The last status of a document that has two.
use Rattle.std.specs.Prelude.{◌==◌}
use Rattle.std.proofs.Common.{◌≡◌, ℕ, List, [], ◌∷◌, ap}
use Rattle.status_log.specs.declared.status.Status.{Status}
use Rattle.status_log.specs.declared.status_at.StatusAt.{StatusAt}
use Rattle.status_log.specs.Statuses.{bare}
use Rattle.application_rules.specs.Last.{last_is}

-- whichever records gave them, the second is the last
pub last_is-second : (code : ℕ) (statuses : List StatusAt) (first second : Status) → bare statuses ≡ first ∷ second ∷ [] →
    last_is code statuses ≡ (second.code == code)
last_is-second code [] first second is = absurd (cc)
last_is-second code (one ∷ []) first second is = absurd (cc)
last_is-second code (one ∷ last ∷ []) first second is = let same : last.status ≡ second = cc is in ap (λ (status : Status). status.code == code) same
last_is-second code (one ∷ other ∷ third ∷ more) first second is = absurd (cc)
