-- The statuses of outbound documents, as a log makes them. The codes are SAP's (SAP Library, IDoc statuses): 01 generated, 29 error in
-- the ALE service, 30 ready for dispatch, 03 passed to the port, 12 dispatched; when each comes is this project's own.
use Rattle.std.specs.Prelude.{ℕ, zero, suc, ◌==◌, List, [], ◌∷◌, ◌++◌, fold, map, slice_get, if◌then◌else◌}
use Rattle.std.specs.List.{flat_map}
use Rattle.std.specs.Option.{unwrap_or}
use Rattle.ale_base.specs.declared.doc_num.DocNum.{DocNum}
use Rattle.dist_model.specs.declared.lists.Lists.{Lists}
use Rattle.unit_core.specs.declared.records.Record.{Record}
use Rattle.unit_core.specs.declared.records.Record.TheVariants.{Commit, Dispatch, Done}
use Rattle.outbound_build.specs.declared.added.Added.{Added}
use Rattle.outbound_build.specs.declared.added.Fate.{Fate}
use Rattle.outbound_build.specs.declared.added.Fate.TheVariants.{Sent, Waits, Refused}
use Rattle.outbound_build.specs.declared.added.OutDocument.{OutDocument}
use Rattle.outbound_build.specs.declared.added.OutUnit.{OutUnit}
use Rattle.outbound_build.specs.Committed.{Past, adds, no_past, past_with}
use Rattle.status_log.specs.declared.status.Status.{Status}
use Rattle.status_log.specs.declared.status_at.StatusAt.{StatusAt}
use Rattle.status_log.specs.Statuses.{given_by, plain}

-- the statuses of a document as it is made: 01 and 30, and 03 where a unit carries it at once; 01 and 29 where the name of a queue is
-- refused
abbrev pub made_statuses : Fate → List Status
made_statuses Sent = plain 1 ∷ plain 30 ∷ plain 3 ∷ []
made_statuses Waits = plain 1 ∷ plain 30 ∷ []
made_statuses (Refused fault) = plain 1 ∷ plain 29 ∷ []

-- these statuses where a document has this number
abbrev pub if_of : ℕ → ℕ → List Status → List Status
if_of doc number statuses = if doc == number then statuses else []

-- what the document of a number gets as documents are made
abbrev pub made_for : List OutDocument → ℕ → List Status
made_for documents doc = flat_map (λ one. if_of doc one.number.0 (made_statuses one.fate)) documents

-- what it gets as the documents of these numbers go on with this status
abbrev pub passed_for : Status → List DocNum → ℕ → List Status
passed_for status numbers doc = flat_map (λ number. if_of doc number.0 (status ∷ [])) numbers

-- the documents that the unit of a number carries, by their numbers; none where there is no such unit
abbrev pub carried_by : List (List DocNum) → ℕ → List DocNum
carried_by carried zero = []
carried_by carried (suc place) = unwrap_or (slice_get carried place) []

-- the documents that each unit carries
abbrev pub carried_in : List OutUnit → List (List DocNum)
carried_in units = map (λ one. one.documents) units

-- what the document of a number gets as documents go on: 03 where a Dispatch makes a unit of it, 12 where its unit is done. A Done
-- names a unit of its own system in a legal log, so the number tells which
abbrev pub passed_in : List (List DocNum) → Added → Record → ℕ → List Status
passed_in carried added Dispatch doc = flat_map (λ one. passed_for (plain 3) one.documents doc) added.units
passed_in carried added (Done tid) doc = passed_for (plain 12) (carried_by carried tid.unit) doc
passed_in carried added _ doc = []

-- what the document of a number gets by a record that adds this to the log, before which the units carry these documents
abbrev pub gets : List (List DocNum) → Added → Record → ℕ → List Status
gets carried added next doc = made_for added.documents doc ++ passed_in carried added next doc

-- what is known behind some records, how many these are, and the statuses of each document, with the numbers of their records
pub record Tracked : Type 0 where
  pub past : Past
  pub records : ℕ
  pub statuses : ℕ → List StatusAt

-- the same behind one more record that adds this
abbrev pub tracked_with : Tracked → Record → Added → Tracked
tracked_with tracked next added =
    record {
      past = past_with tracked.past next added;
      records = suc tracked.records;
      statuses = λ doc. tracked.statuses doc ++ given_by (suc tracked.records) (gets (carried_in tracked.past.units) added next doc);
    }

-- the same behind one more record
abbrev pub tracked_after : List Lists → Tracked → Record → Tracked
tracked_after models tracked next = tracked_with tracked next (adds models tracked.past next)

-- no records, and no statuses
abbrev pub nothing_tracked : Tracked
nothing_tracked = record { past = no_past; records = 0; statuses = λ doc. [] }

-- what is known behind a log whose models these are, and the statuses of its outbound documents
unfoldable pub tracked_of : List Lists → List Record → Tracked
tracked_of models log = fold (tracked_after models) nothing_tracked log

-- the codes of the statuses that a record may give to outbound documents
abbrev pub codes_of : Record → List ℕ
codes_of (Commit origin docs) = 1 ∷ 30 ∷ 29 ∷ 3 ∷ []
codes_of Dispatch = 3 ∷ []
codes_of (Done tid) = 12 ∷ []
codes_of _ = []
