-- What documents get, one after the other, as `Statuses` counts it.
use Rattle.std.specs.Prelude.{◌≡◌, ℕ, List, ◌++◌}
use Rattle.status_log.specs.declared.status.Status.{Status}
use Rattle.status_log.specs.declared.status_at.StatusAt.{StatusAt}
use Rattle.status_log.specs.Statuses.{given_by, statuses_of}

-- each document got its own of these statuses behind those that it had, by the record of a number
pub record Gets (by : ℕ) (more : ℕ → List Status) (before after : List (List StatusAt)) : Type 0 where
  pub got : (doc : ℕ) → statuses_of doc after ≡ statuses_of doc before ++ given_by by (more doc)
