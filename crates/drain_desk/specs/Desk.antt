-- What a desk keeps true between two of its calls: works were done since the drain began, and it knows which.
use Rattle.std.specs.Prelude.{◌≡◌, ℕ, ◌+◌, Bool, true, false, List}
use Rattle.std.specs.List.{list_all}
use Rattle.ale_volumes.specs.Disk.{Disk}
use Rattle.ale_base.specs.Tid.{TidOf}
use Rattle.unit_landscape.specs.KeptWorlds.{KeptOf}
use Rattle.document_state.specs.declared.document_tables.DocumentTables.{DocumentTables}
use Rattle.document_state.specs.declared.model_rules.ModelRules.{ModelRules}
use Rattle.unit_works.specs.Acts.{Act, HaveActed}
use Rattle.unit_works.specs.Claims.{NoneRuns}
use Rattle.unit_works.specs.Drained.{TakesOnce, is_round}
use Rattle.unit_works.specs.Events.{is_work}
use Rattle.unit_works.specs.Finished.{finished_in}
use Rattle.unit_works.specs.Worked.{HaveTaken, Lines, Worked}
use Rattle.drain_desk.specs.declared.began.Began.{Began}

-- a desk as it is seen
pub record SeenDesk (V : Type 0) : Type 0 where
  pub origin : Began V
  pub landscape : KeptOf ModelRules DocumentTables V
  pub lines : Lines
  pub finished : ℕ
  pub is_short : Bool

module _ {V : Type 0} (disk : Disk V) (began now : KeptOf ModelRules DocumentTables V) (lines lines_now : Lines) where
  -- Units were shipped and executed since the workers began, and nothing else; so many runs and executions ended; each unit took one letter
  -- at most, and more only where a system fell.
  pub record AreGoingOn (finished : ℕ) : Type 0 where
    pub went : Worked disk began now is_work true
    pub taken : HaveTaken lines lines_now
    pub count : finished_in now.world ≡ finished_in began.world + finished
    pub runs : NoneRuns now.world.claims
    pub acts : List Act
    pub did : HaveActed disk began lines acts now lines_now
    pub ships : list_all is_round acts ≡ true
    pub once : (tid : TidOf) → TakesOnce disk began lines now lines_now acts tid

  -- what a desk keeps: once memory was wanting, that works were done
  abbrev pub Keeps : Bool → ℕ → Type 0
  Keeps false finished = AreGoingOn finished
  Keeps true finished = Worked disk began now is_work false

-- what a desk keeps of what is seen of it
abbrev pub IsKeeping : {V : Type 0} → Disk V → SeenDesk V → Type 0
IsKeeping disk desk =
    Keeps disk desk.origin.landscape.value desk.landscape desk.origin.wires.value desk.lines desk.is_short desk.finished
