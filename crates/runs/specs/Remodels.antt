-- A model comes into force at all systems by one command: each at which another text is in force appends the record that brings it, one after
-- the other. This project's own.
use Rattle.std.specs.Prelude.{◌≡◌, ◌⊎◌, ℕ, List, [], ◌∷◌, ◌++◌, None, Some, Result, Ok, Err, length}
use Rattle.ale_volumes.specs.Disk.{Disk}
use Rattle.dist_model.specs.declared.lists.Lists.{Lists}
use Rattle.unit_core.specs.declared.records.Record.TheVariants.{Model}
use Rattle.status_log.specs.declared.refusal.Refusal.{Refusal}
use Rattle.status_log.specs.declared.refusal.Refusal.TheVariants.{Volume, OutOfMemory}
use Rattle.trfc_protocol.specs.Meaning.{Meaning}
use Rattle.unit_landscape.specs.KeptWorlds.{KeptOf}
use Rattle.unit_landscape.specs.Ends.{Failed, FellBehind, Happened, Stays}
use Rattle.unit_landscape.specs.Appending.{at}
use Rattle.document_state.specs.declared.document_tables.DocumentTables.{DocumentTables}
use Rattle.document_state.specs.declared.model_rules.ModelRules.{ModelRules}
use Rattle.document_state.specs.Meaning.{model_meaning}
use Rattle.landscape.specs.Carried.{operator_event}
use Rattle.landscape.specs.Remodelled.{refused_model, to_remodel}

module _ {V : Type 0} (disk : Disk V) (text : List ℕ) where
  abbrev Kept : Type 0
  Kept = KeptOf ModelRules DocumentTables V

  abbrev rules_of : Kept → Meaning
  rules_of kept = model_meaning kept.world.rules.systems

  -- a system appends the record that brings the text
  abbrev pub Takes : ℕ → KeptOf ModelRules DocumentTables V → KeptOf ModelRules DocumentTables V → Type 0
  Takes system before after = Happened (rules_of before) disk before after (operator_event system (Model text))

  -- each of these systems does, one after the other
  abbrev pub TakeAll : List ℕ → KeptOf ModelRules DocumentTables V → KeptOf ModelRules DocumentTables V → Type 0
  TakeAll [] before after = after ≡ before
  TakeAll (system ∷ systems) before after = (next : Kept) × Takes system before next × TakeAll systems next after

  -- the first of these systems do, and with those that are left it ends so
  pub record TakesFront (systems : List ℕ) (before : KeptOf ModelRules DocumentTables V) (Ends : List ℕ → KeptOf ModelRules DocumentTables V → Type 0) :
      Type 0 where
    pub done : List ℕ
    pub left : List ℕ
    pub these : systems ≡ done ++ left
    pub between : KeptOf ModelRules DocumentTables V
    pub took : TakeAll done before between
    pub ends : Ends left between

  -- the volume of the first that is left failed
  abbrev pub FailsAt : KeptOf ModelRules DocumentTables V → List ℕ → KeptOf ModelRules DocumentTables V → Type 0
  FailsAt after [] between = ⊥
  FailsAt after (system ∷ left) between = Failed (rules_of between) disk between after (at system (Model text))

  -- memory ran out at the first that is left: before its record, or behind it
  abbrev pub RunsShort : KeptOf ModelRules DocumentTables V → List ℕ → KeptOf ModelRules DocumentTables V → Type 0
  RunsShort after [] between = Stays (rules_of between) disk between after
  RunsShort after (system ∷ left) between =
      Stays (rules_of between) disk between after
      ⊎ FellBehind (rules_of between) disk between after (operator_event system (Model text)) (at system (Model text))

  -- A model comes into force, and this is answered: how many systems took it; that the volume of one of them failed, those before it having
  -- taken it and none after it; or why it may not, and then nothing has changed. Memory may run out before any takes it, or at one of them.
  abbrev pub RemodelledAs : Lists → KeptOf ModelRules DocumentTables V → KeptOf ModelRules DocumentTables V → Result ℕ Refusal → Type 0
  RemodelledAs new before after (Ok count) =
      (refused_model before new text ≡ None) × (count ≡ length (to_remodel before.world text)) × TakeAll (to_remodel before.world text) before after
  RemodelledAs new before after (Err Volume) =
      (refused_model before new text ≡ None) × TakesFront (to_remodel before.world text) before (FailsAt after)
  RemodelledAs new before after (Err OutOfMemory) =
      (after ≡ before)
      ⊎ ((refused_model before new text ≡ None) × TakesFront (to_remodel before.world text) before (RunsShort after))
  RemodelledAs new before after (Err why) = (refused_model before new text ≡ Some why) × (after ≡ before)
