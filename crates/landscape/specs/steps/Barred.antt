-- What keeps a model from coming into force at a system, as each system is asked in turn.
use Rattle.std.specs.Prelude.{ℕ, List, Option}
use Rattle.dist_model.specs.declared.lists.Lists.{Lists}
use Rattle.status_log.specs.declared.refusal.Refusal.{Refusal}
use Rattle.unit_landscape.specs.KeptWorlds.{KeptOf}
use Rattle.document_state.specs.declared.document_tables.DocumentTables.{DocumentTables}
use Rattle.document_state.specs.declared.model_rules.ModelRules.{ModelRules}
use Rattle.landscape.specs.declared.bar.Bar.{Bar}
use Rattle.landscape.specs.declared.bar.Bar.TheVariants.{Unkept, Waiting, Full}
use Rattle.landscape.specs.Remodelled.{first_to_refuse, full_at, unkept_at, waiting_at}

module _ {V : Type 0} (kept : KeptOf ModelRules DocumentTables V) (new : Lists) (text : List ℕ) where
  -- why a system refuses, by what bars the model there
  abbrev pub barred_at : Bar → ℕ → Option Refusal
  barred_at Unkept = unkept_at kept new text
  barred_at Waiting = waiting_at kept new text
  barred_at Full = full_at kept new text

  -- the first refusal by a bar
  abbrev pub first_barred : Bar → Option Refusal
  first_barred bar = first_to_refuse kept new text (barred_at bar)
