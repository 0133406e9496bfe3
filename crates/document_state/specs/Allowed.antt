-- Which records of the application may follow a log, by the model in force behind it, and which model may replace that one. This
-- project's own.
use Rattle.std.specs.Prelude.{ℕ, ◌+◌, ◌==◌, ◌&&◌, Bool, false, not, List, length, is_none, nat_le, nat_lt}
use Rattle.std.specs.Option.{option_map_or}
use Rattle.ale_base.specs.declared.tid.TheConstants.Tid.{MAX_UNIT}
use Rattle.dist_model.specs.declared.lists.Lists.{Lists}
use Rattle.model_growth.specs.Growth.{first_unkept}
use Rattle.unit_core.specs.declared.records.Record.{Record}
use Rattle.unit_core.specs.declared.records.Record.TheVariants.{Commit, Dispatch, Put, App, Repost, Model}
use Rattle.said_models.specs.Said.{said}
use Rattle.said_models.specs.OfLog.{model_of}
use Rattle.inbound_post.specs.Application.{statuses_at}
use Rattle.application_rules.specs.Commits.{may_commit}
use Rattle.application_rules.specs.Puts.{may_put}
use Rattle.application_rules.specs.Last.{last_is}
use Rattle.document_state.specs.OfLog.{sent_by, applied_by, added_behind}

-- whether a text says a model that keeps what this one says
abbrev pub may_replace : Lists → List ℕ → Bool
may_replace model text = option_map_or (λ new. is_none (first_unkept model new)) (said text) false

module _ (log : List Record) where
  -- whether the log with one more record has at most 65,536 units
  abbrev pub has_room : Record → Bool
  has_room next = nat_le (length (sent_by log).past.units + length (added_behind log next).units) MAX_UNIT

  -- whether a document waits to be dispatched
  abbrev pub waits_any : Bool
  waits_any = nat_lt 0 (length (sent_by log).past.outbox.waiting)

  -- whether the last status of the inbound document of a number has this code
  abbrev pub stands_at : ℕ → ℕ → Bool
  stands_at code doc = last_is code (statuses_at (applied_by log).application.documents doc)

  -- whether the documents of a Commit are a master, or what a gathering makes, and whether a document waits for a Dispatch
  abbrev pub is_ready : Lists → Record → Bool
  is_ready model (Commit origin docs) = may_commit model (applied_by log).application.objects (applied_by log).application.pointers origin docs
  is_ready model Dispatch = waits_any
  is_ready model _ = false

  -- whether a record may follow the log, under the model in force behind it: a Commit of a master, or of what a gathering makes, and a
  -- Dispatch where a document waits, with room for their units; a Put of what the model has; an App of a document whose last status is
  -- 64, and a Repost of one whose last status is 51; a Model that keeps what runs, where no document waits
  abbrev pub allowed_under : Lists → Record → Bool
  allowed_under model (Commit origin docs) = is_ready model (Commit origin docs) && has_room (Commit origin docs)
  allowed_under model Dispatch = is_ready model Dispatch && has_room Dispatch
  allowed_under model (Put kind key fields) = may_put model kind key fields
  allowed_under model (App doc) = stands_at 64 doc.0
  allowed_under model (Repost doc) = stands_at 51 doc.0
  allowed_under model (Model text) = not waits_any && may_replace model text
  allowed_under model _ = false

-- whether a record may follow the log of a landscape of so many systems: the model in force is one of so many, and allows it
abbrev pub allowed : ℕ → List Record → Record → Bool
allowed systems log next = option_map_or (λ model. (length model.systems == systems) && allowed_under log model next) (model_of log) false
