-- What a record adds under the model in force, and how many units there are with it.
use Rattle.std.specs.Option.{option_map_or}
use Rattle.std.proofs.Common.{◌≡◌, ◌∙◌, ℕ, ◌+◌, Option, Some, None, List, length, sym, ap}
use Rattle.dist_model.specs.declared.lists.Lists.{Lists}
use Rattle.unit_core.specs.declared.records.Record.{Record}
use Rattle.log_models.specs.InForce.{in_force}
use Rattle.said_models.specs.OfLog.{models_of, model_of}
use Rattle.outbound_build.specs.declared.added.Added.{Added}
use Rattle.outbound_build.specs.Added.{added_by, units_with}
use Rattle.outbound_build.specs.Committed.{Past, no_more, past_of}
use Rattle.outbound_build.proofs.CommitLemmas.{added-count}
use Rattle.outbound_build.proofs.LogLemmas.{counted}
use Rattle.outbound_build.proofs.TrackedLemmas.{tracked-past}
use Rattle.document_state.specs.OfLog.{sent_by, added_behind}
use Rattle.document_state.specs.SentLemmas.{sent-counts}

adds-by : (log : List Record) (found : Option Lists) (next : Record) → model_of log ≡ found
    → added_behind log next ≡ option_map_or (λ model. added_by model (sent_by log).past.system (sent_by log).past.outbox next) found no_more
adds-by log found next is =
    ap (λ one. option_map_or (λ model. added_by model (sent_by log).past.system (sent_by log).past.outbox next) one no_more)
    (ap (in_force (models_of log)) (sent-counts log) ∙ is)

-- where no model is in force, a record adds nothing
pub adds-none : (log : List Record) (next : Record) → model_of log ≡ None → added_behind log next ≡ no_more
adds-none log next none = adds-by log None next none

-- the outbox of a log counts its units
units-counted : (log : List Record) → (sent_by log).past.outbox.units ≡ length (sent_by log).past.units
units-counted log =
    let same : (sent_by log).past ≡ past_of (models_of log) log = tracked-past (models_of log) log in
    ap (λ (p : Past). p.outbox.units) same ∙ (counted (models_of log) log).units ∙ sym (ap (λ (p : Past). length p.units) same)

-- under the model in force, and for the system of the log
module _ (log : List Record) (model : Lists) (system : ℕ) (next : Record) (is : model_of log ≡ Some model) (same : (sent_by log).past.system ≡ system) where
  -- a record adds what it adds by that model
  pub adds-under : added_by model system (sent_by log).past.outbox next ≡ added_behind log next
  adds-under = sym (adds-by log (Some model) next is ∙ ap (λ (s : ℕ). added_by model s (sent_by log).past.outbox next) same)

  -- and there are as many units as with those that it adds
  pub units-under : units_with model system (sent_by log).past.outbox next ≡ length (sent_by log).past.units + length (added_behind log next).units
  units-under =
      sym (added-count model system (sent_by log).past.outbox next)
      ∙ ap (λ (n : ℕ). n + length (added_by model system (sent_by log).past.outbox next).units) (units-counted log)
      ∙ ap (λ (more : Added). length (sent_by log).past.units + length more.units) adds-under
