-- A work of a drain is done.
use Rattle.std.specs.Prelude.{◌≡◌, ℕ, Bool, true, false}
use Rattle.ale_volumes.specs.Disk.{Disk}
use Rattle.trfc_protocol.specs.declared.held.Held.{Held}
use Rattle.unit_landscape.specs.KeptWorlds.{KeptOf}
use Rattle.document_state.specs.declared.document_tables.DocumentTables.{DocumentTables}
use Rattle.document_state.specs.declared.model_rules.ModelRules.{ModelRules}
use Rattle.unit_landscape.specs.Appending.{HoldsIn}
use Rattle.unit_landscape.specs.Calls.{stands_in, stands_out}
use Rattle.unit_works.specs.Wires.{letters_left, next_letter}
use Rattle.unit_works.specs.Acts.{HasExecuted, HasShipped}
use Rattle.unit_works.specs.Worked.{Lines}
use Rattle.drain_desk.specs.declared.work.Task.{Task}
use Rattle.drain_desk.specs.declared.work.Task.TheVariants.{Ship, Execute}

module _ {V : Type 0} (disk : Disk V) (before after : KeptOf ModelRules DocumentTables V) (lines lines_after : Lines) where
  -- The unit of a claim that stood was shipped under its next letter, or executed, whole or cut; where it did not stand nothing has changed.
  -- Afterwards it does not stand.
  abbrev pub HasDone : Task → Type 0
  HasDone (Ship claim) =
      (stands_out before.world claim ≡ true
      → (whole : Bool) × HasShipped disk before after lines lines_after claim.tid (next_letter (letters_left lines claim.tid)) whole)
      × (stands_out before.world claim ≡ false → (after ≡ before) × (lines_after ≡ lines))
      × (stands_out after.world claim ≡ false)
  HasDone (Execute claim) =
      ((held : Held) → HoldsIn before.world claim held → (whole : Bool) × HasExecuted disk before after held.system held.tid whole)
      × (stands_in before.world claim ≡ false → (after ≡ before) × (lines_after ≡ lines))
      × (stands_in after.world claim ≡ false)
