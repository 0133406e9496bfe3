-- A model that is to come into force at all systems of a landscape at which the text in force is another one: why it may not. This
-- project's own.
use Rattle.std.specs.Prelude.{◌≡◌, ⊤, ℕ, Bool, true, false, List, [], ◌∷◌, Option, Some, None, Result, Ok, Err, filter, if◌then◌else◌, nat_lt}
use Rattle.std.specs.List.{list_all, range_with_len}
use Rattle.std.specs.Option.{option_and_then, option_map, option_or}
use Rattle.dist_model.specs.declared.lists.Lists.{Lists}
use Rattle.model_growth.specs.Growth.{first_unkept}
use Rattle.model_growth.specs.Paths.{path_of}
use Rattle.unit_core.specs.declared.records.Record.TheVariants.{Model}
use Rattle.said_models.specs.OfLog.{differs, model_of}
use Rattle.status_log.specs.declared.refusal.Refusal.{Refusal}
use Rattle.status_log.specs.declared.refusal.Refusal.TheVariants.{N2, N10, N13, N15, OutOfMemory}
use Rattle.byte_journal.specs.Log.{most_bytes}
use Rattle.trfc_protocol.specs.declared.world.World.{World}
use Rattle.trfc_protocol.specs.Worlds.{is_up, log_of}
use Rattle.unit_landscape.specs.KeptWorlds.{KeptOf}
use Rattle.unit_landscape.specs.Writes.{size_with}
use Rattle.document_state.specs.Allowed.{waits_any}
use Rattle.document_state.specs.declared.document_tables.DocumentTables.{DocumentTables}
use Rattle.document_state.specs.declared.model_rules.ModelRules.{ModelRules}
use Rattle.landscape.specs.Asked.{Asked, waiting_in}

-- the numbers of the systems of a world, in order
abbrev pub numbers_of : World ModelRules → List ℕ
numbers_of world = range_with_len 1 world.rules.systems

-- the systems at which another text is in force, in order
abbrev pub to_remodel : World ModelRules → List ℕ → List ℕ
to_remodel world text = filter (λ system. differs text (log_of world system)) (numbers_of world)

-- the first of these systems that refuses
abbrev pub first_refusal : (ℕ → Option Refusal) → List ℕ → Option Refusal
first_refusal why [] = None
first_refusal why (system ∷ systems) = option_or (why system) (first_refusal why systems)

module _ {V : Type 0} (kept : KeptOf ModelRules DocumentTables V) (new : Lists) (text : List ℕ) where
  -- what of the model in force at a system this model does not keep
  abbrev pub unkept_at : ℕ → Option Refusal
  unkept_at system = option_map (λ part. N15 (path_of part)) (option_and_then (λ old. first_unkept old new) (model_of (log_of kept.world system)))

  -- how many documents wait at a system to be dispatched, if any does
  abbrev pub waiting_at : ℕ → Option Refusal
  waiting_at system = if waits_any (log_of kept.world system) then Some (N13 (waiting_in (log_of kept.world system))) else None

  -- how long the volume of a system would be with the record that brings the text, if that is more than it may be
  abbrev pub full_at : ℕ → Option Refusal
  full_at system = if nat_lt most_bytes (size_with kept system (Model text)) then Some (N10 (size_with kept system (Model text))) else None

  -- the first refusal of the systems at which another text is in force; the others are not asked
  abbrev pub first_to_refuse : (ℕ → Option Refusal) → Option Refusal
  first_to_refuse why = first_refusal why (to_remodel kept.world text)

  -- Why the model may not come into force: 2 where a system is down; else what of a model in force it does not keep; else that documents
  -- wait; else that a volume has no room for its record: each as the first system says it at which another text is in force.
  abbrev pub refused_model : Option Refusal
  refused_model =
      if list_all (is_up kept.world) (numbers_of kept.world)
      then option_or (first_to_refuse unkept_at) (option_or (first_to_refuse waiting_at) (first_to_refuse full_at))
      else Some N2

-- whether something may be done was answered: it may exactly where nothing is against it; memory may have been wanting
abbrev pub MayAs : {T : Type 0} → Option Refusal → Result T Refusal → Type 0
MayAs why (Ok done) = why ≡ None
MayAs why (Err OutOfMemory) = ⊤
MayAs why (Err refusal) = why ≡ Some refusal

-- whether a record is asked for
abbrev pub asks_any : Asked → Bool
asks_any (Ok (Some next)) = true
asks_any _ = false
