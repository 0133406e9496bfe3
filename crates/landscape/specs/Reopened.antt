-- A system that is down is opened again: how that ends.
use Rattle.std.specs.Prelude.{◌≡◌, ◌⊎◌, ℕ, true, Result, Ok, Err}
use Rattle.ale_volumes.specs.Disk.{Disk}
use Rattle.unit_journal.specs.declared.fault.LookFault.{LookFault}
use Rattle.unit_journal.specs.declared.fault.LookFault.TheVariants as look
use Rattle.unit_journal.specs.declared.looked.Looked.{Looked}
use Rattle.unit_journal.specs.Looking.{system_of}
use Rattle.trfc_protocol.specs.Worlds.{is_up}
use Rattle.system_tables.specs.Tables.{TablesOf}
use Rattle.unit_landscape.specs.KeptWorlds.{KeptOf}
use Rattle.unit_landscape.specs.Reopening.{HasReopened, IsDown, KeepsAll, Looks}
use Rattle.document_state.specs.Meaning.{model_meaning}
use Rattle.document_state.specs.declared.document_tables.DocumentTables.{DocumentTables}
use Rattle.document_state.specs.declared.model_rules.ModelRules.{ModelRules}
use Rattle.landscape.specs.declared.reopen_end.ReopenEnd.{ReopenEnd}
use Rattle.landscape.specs.declared.reopen_end.ReopenEnd.TheVariants.{Refused, Volume, Changed, OutOfMemory}

-- why a system was not opened, by why its log was not found
abbrev pub end_of : LookFault → ReopenEnd
end_of look.Volume = Volume
end_of (look.Changed number) = Changed number
end_of look.OutOfMemory = OutOfMemory

-- a look that found no log, and why
abbrev pub failed : LookFault → Result Looked LookFault
failed fault = Err fault

-- a system is up with what was found, and with tables, which are those of its log by what a landscape keeps
abbrev pub HasReopenedWith : {V : Type 0} → KeptOf ModelRules DocumentTables V → KeptOf ModelRules DocumentTables V → Looked → Type 0
HasReopenedWith before after looked =
    (its : TablesOf DocumentTables) × HasReopened (λ (rules : ModelRules). model_meaning rules.systems) before after looked its

module _ {V : Type 0} (disk : Disk V) (before after : KeptOf ModelRules DocumentTables V) (system : ℕ) where
  -- How an opening ends by what a look at the system's volume answered. What was found is entered, with the tables of the log that was
  -- found, unless memory was wanting; where nothing was found, nothing is entered.
  abbrev pub EndsBy : {T : Type 0} → Result Looked LookFault → Result T ReopenEnd → Type 0
  EndsBy (Ok looked) (Ok done) = (system_of looked ≡ system) × HasReopenedWith before after looked
  EndsBy (Ok looked) (Err end) = (end ≡ OutOfMemory) × KeepsAll disk before after system (Ok looked)
  EndsBy (Err fault) (Ok done) = ⊥
  EndsBy (Err fault) (Err end) = (end ≡ end_of fault) × KeepsAll disk before after system (failed fault)

  -- a system that is down is opened again: its volume is looked at, and what that answers says how it ends
  pub record IsOpening {T : Type 0} (result : Result T ReopenEnd) : Type 0 where
    pub down : IsDown before.world system
    pub answer : Result Looked LookFault
    pub looks : Looks disk before after system answer
    pub ends : EndsBy answer result

  -- a system that is up is refused, and nothing has changed
  pub record IsRefused {T : Type 0} (result : Result T ReopenEnd) : Type 0 where
    pub up : is_up before.world system ≡ true
    pub refused : result ≡ Err Refused
    pub same : after ≡ before

  -- how an opening ends
  abbrev pub OpensAs : {T : Type 0} → Result T ReopenEnd → Type 0
  OpensAs result = IsRefused result ⊎ IsOpening result
