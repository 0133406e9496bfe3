-- Workers have ended, and what is still offered is shipped and executed.
use Rattle.std.specs.Prelude.{◌≡◌, ◌+◌, ⊤, ℕ, Result, Ok, Err}
use Rattle.ale_base.specs.declared.out_of_memory.OutOfMemory.{OutOfMemory}
use Rattle.ale_volumes.specs.Disk.{Disk}
use Rattle.unit_landscape.specs.KeptWorlds.{KeptOf}
use Rattle.document_state.specs.declared.document_tables.DocumentTables.{DocumentTables}
use Rattle.document_state.specs.declared.model_rules.ModelRules.{ModelRules}
use Rattle.unit_works.specs.Worked.{Lines}
use Rattle.unit_works.specs.Rounds.{RoundsAs}
use Rattle.drain_desk.specs.Desk.{AreGoingOn}

-- works that were going on until now, of which so many runs and executions had ended, went on until no unit was offered
abbrev pub ClosedAs : {V : Type 0} → Disk V → KeptOf ModelRules DocumentTables V → Lines → ℕ → KeptOf ModelRules DocumentTables V → Lines
    → Result ℕ OutOfMemory → Type 0
ClosedAs {V} disk now lines_now finished after lines_after result = (began : KeptOf ModelRules DocumentTables V) (lines : Lines)
    → AreGoingOn disk began now lines lines_now finished → RoundsAs disk began lines after lines_after result

-- so many were counted behind those before; or memory was wanting
abbrev pub IsAdded : ℕ → Result ℕ OutOfMemory → Result ℕ OutOfMemory → Type 0
IsAdded finished (Ok more) (Ok sum) = sum ≡ finished + more
IsAdded finished (Err short) (Ok sum) = ⊥
IsAdded finished more (Err short) = ⊤
