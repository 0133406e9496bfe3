-- One more record of a log, and the statuses of its outbound documents.
use Rattle.std.specs.Prelude.{fold}
use Rattle.std.proofs.Common.{◌≡◌, List, [], ◌∷◌, ◌++◌, refl}
use Rattle.std.proofs.lemmas.List.Sums.{fold_push}
use Rattle.dist_model.specs.declared.lists.Lists.{Lists}
use Rattle.unit_core.specs.declared.records.Record.{Record}
use Rattle.outbound_build.specs.Committed.{past_after, past_of}
use Rattle.outbound_build.specs.Statuses.{Tracked, nothing_tracked, tracked_after, tracked_of}

-- what is known behind a log with one more record
pub tracked_of-push : (models : List Lists) (log : List Record) (next : Record) →
    tracked_of models (log ++ next ∷ []) ≡ tracked_after models (tracked_of models log) next
unfolding tracked_of
tracked_of-push models log next = fold_push (tracked_after models) nothing_tracked log next

same_past : (models : List Lists) (log : List Record) (tracked : Tracked) → (fold (tracked_after models) tracked log).past
    ≡ fold (past_after models) tracked.past log
same_past models [] tracked = refl
same_past models (next ∷ log) tracked = same_past models log (tracked_after models tracked next)

-- the documents and units are those that the log stands for
pub tracked-past : (models : List Lists) (log : List Record) → (tracked_of models log).past ≡ past_of models log
unfolding tracked_of past_of
tracked-past models log = same_past models log nothing_tracked
