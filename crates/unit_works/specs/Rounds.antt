-- The two parts of a drain: confirmations that are due are sent, and rounds of all systems go until nothing is offered.
use Rattle.std.specs.Prelude.{◌≡◌, ◌≤◌, ◌⊎◌, ℕ, true, false, List, [], ◌∷◌, Some, Result, Ok, Err, filter, not}
use Rattle.std.specs.List.{list_all, list_any}
use Rattle.ale_volumes.specs.Disk.{Disk}
use Rattle.ale_base.specs.Tid.{IsTid, TidOf}
use Rattle.ale_base.specs.declared.out_of_memory.OutOfMemory.{OutOfMemory}
use Rattle.unit_core.specs.declared.ale_unit.AleUnit.{AleUnit}
use Rattle.unit_core.specs.Filters.{done_in}
use Rattle.unit_core.specs.Queues.{is_listed}
use Rattle.trfc_protocol.specs.Worlds.{committed_unit, is_up, log_of}
use Rattle.unit_landscape.specs.KeptWorlds.{KeptOf}
use Rattle.document_state.specs.declared.document_tables.DocumentTables.{DocumentTables}
use Rattle.document_state.specs.Meaning.{model_meaning}
use Rattle.unit_works.specs.Acts.{Act, takes}
use Rattle.unit_works.specs.Drained.{HasGone, HasWorked, IsIdle, is_round}
use Rattle.unit_works.specs.Events.{is_work}
use Rattle.unit_works.specs.Trips.{is_due}
use Rattle.document_state.specs.declared.model_rules.ModelRules.{ModelRules}
use Rattle.unit_works.specs.Worked.{Lines, Worked}

-- an id is of one of the first systems
abbrev pub IsTo : ℕ → TidOf → Type 0
IsTo number tid = (1 ≤ tid.system) × (tid.system ≤ number)

module _ {V : Type 0} (disk : Disk V) (before : KeptOf ModelRules DocumentTables V) (lines : Lines) (after : KeptOf ModelRules DocumentTables V)
    (lines_after : Lines) where
  -- a unit took one letter in one of these acts: it is of these ids, whose numbers are in their ranges, and done; or it took none
  abbrev pub TakesFew : (TidOf → Type 0) → List Act → TidOf → Type 0
  TakesFew These acts tid =
      (filter (takes tid) acts ≡ [])
      ⊎ ((act : Act) × (filter (takes tid) acts ≡ act ∷ []) × These tid × IsTid tid × (is_listed tid (done_in (log_of after.world tid.system)) ≡ true))

  -- Works were done: each act confirms a unit, so no run or execution ended. Each unit of these ids whose confirmation was due was visited, if
  -- its systems are up at the end; and each took one letter at most.
  pub record HasVisited (These : TidOf → Type 0) : Type 0 where
    pub worked : HasWorked disk before lines after lines_after 0
    pub confirms : list_all (λ (act : Act). not (is_round act)) worked.acts ≡ true
    pub visited : (unit : AleUnit) → These unit.tid
        → committed_unit (model_meaning before.world.rules.systems) before.world unit.tid ≡ Some unit → is_due before.world unit ≡ true
        → is_up after.world unit.tid.system ≡ true → is_up after.world unit.receiver ≡ true → list_any (takes unit.tid) worked.acts ≡ true
    pub few : (tid : TidOf) → TakesFew These worked.acts tid

  -- the same of a call; where memory is wanting, works were done
  abbrev pub VisitedSo : {T : Type 0} → (TidOf → Type 0) → Result T OutOfMemory → Type 0
  VisitedSo These (Ok done) = HasVisited These
  VisitedSo These (Err short) = Worked disk before after is_work false

  -- works were done until no unit is offered at any system in either direction; where memory is wanting, works were done
  abbrev pub RoundsAs : Result ℕ OutOfMemory → Type 0
  RoundsAs (Ok n) = HasGone disk before lines after lines_after n × IsIdle after.world
  RoundsAs (Err short) = Worked disk before after is_work false
