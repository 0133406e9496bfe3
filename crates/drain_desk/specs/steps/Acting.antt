-- Works are done.
use Rattle.std.specs.Prelude.{◌≡◌, ◌+◌, ℕ, true, false, List, Result, Ok, Err}
use Rattle.std.specs.List.{list_all}
use Rattle.ale_volumes.specs.Disk.{Disk}
use Rattle.ale_base.specs.Tid.{TidOf}
use Rattle.ale_base.specs.declared.out_of_memory.OutOfMemory.{OutOfMemory}
use Rattle.unit_landscape.specs.KeptWorlds.{KeptOf}
use Rattle.document_state.specs.declared.document_tables.DocumentTables.{DocumentTables}
use Rattle.document_state.specs.declared.model_rules.ModelRules.{ModelRules}
use Rattle.unit_works.specs.Acts.{Act, HaveActed}
use Rattle.unit_works.specs.Claims.{NoneRuns}
use Rattle.unit_works.specs.Drained.{TakesOnce, is_round}
use Rattle.unit_works.specs.Events.{is_work}
use Rattle.unit_works.specs.Finished.{finished_in}
use Rattle.unit_works.specs.Worked.{HaveTaken, Lines, Worked}

module _ {V : Type 0} (disk : Disk V) (before after : KeptOf ModelRules DocumentTables V) (lines lines_after : Lines) where
  -- a unit was shipped or executed, or nothing was done; so many runs and executions ended, and no run is claimed that was not
  pub record HasActed (n : ℕ) : Type 0 where
    pub went : Worked disk before after is_work true
    pub taken : HaveTaken lines lines_after
    pub count : finished_in after.world ≡ finished_in before.world + n
    pub runs : NoneRuns before.world.claims → NoneRuns after.world.claims
    pub acts : List Act
    pub did : HaveActed disk before lines acts after lines_after
    pub ships : list_all is_round acts ≡ true
    pub once : NoneRuns before.world.claims → (tid : TidOf) → TakesOnce disk before lines after lines_after acts tid

  -- the same of a call; where memory is wanting, works were done
  abbrev pub ActedAs : Result ℕ OutOfMemory → Type 0
  ActedAs (Ok n) = HasActed n
  ActedAs (Err short) = Worked disk before after is_work false
