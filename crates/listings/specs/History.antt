-- What an operator is shown of what became of a document of a log. This project's own.
use Rattle.std.specs.Prelude.{◌≡◌, ℕ, zero, suc, List, map, Option, None, slice_get}
use Rattle.std.specs.Option.{option_map, unwrap_or}
use Rattle.ale_base.specs.declared.way.Way.{Way}
use Rattle.ale_base.specs.declared.way.Way.TheVariants.{Outgoing, Incoming}
use Rattle.status_log.specs.Given.{AreGivenIn}
use Rattle.status_log.specs.declared.line.HistoryLine.{HistoryLine}
use Rattle.status_log.specs.declared.status_at.StatusAt.{StatusAt}
use Rattle.unit_core.specs.declared.records.Record.{Record}
use Rattle.outbound_build.specs.Statuses.{codes_of as codes_sent}
use Rattle.inbound_post.specs.Application.{codes_of as codes_applied}
use Rattle.document_state.specs.OfLog.{sent_by, applied_by}

-- what has a number, from 1, in a list; none where there is none
abbrev pub numbered_in : {A : Type 0} → List A → ℕ → Option A
numbered_in items zero = None
numbered_in items (suc place) = slice_get items place

-- a status with the moment of the record that gave it, by the moments of the records of a log
abbrev pub history_line : List (Option ℕ) → StatusAt → HistoryLine
history_line moments one = record { status = one.status; moment = unwrap_or (numbered_in moments one.number) None }

-- the statuses of the document of a number that goes this way, in the order in which it got them; none where there is no such document
abbrev pub statuses_in : List Record → Way → ℕ → Option (List StatusAt)
statuses_in log Outgoing number = option_map (λ one. (sent_by log).statuses number) (numbered_in (sent_by log).past.documents number)
statuses_in log Incoming number = option_map (λ one. one.statuses) (numbered_in (applied_by log).application.documents number)

-- what became of a document of a log whose records have these moments; none where there is no such document
abbrev pub history_of : List Record → List (Option ℕ) → Way → ℕ → Option (List HistoryLine)
history_of log moments way number = option_map (map (history_line moments)) (statuses_in log way number)

-- the codes of the statuses that a record may give to the document of a number that goes this way
abbrev pub codes_given : Way → ℕ → Record → List ℕ
codes_given Outgoing number = codes_sent
codes_given Incoming number = codes_applied number

-- the lines are those of statuses that are in the order of the records of the log, and each of a record that may give it
abbrev pub AreGivenLines : List Record → List (Option ℕ) → Way → ℕ → List HistoryLine → Type 0
AreGivenLines log moments way number lines =
    (statuses : List StatusAt) × (lines ≡ map (history_line moments) statuses) × AreGivenIn (codes_given way number) log statuses
