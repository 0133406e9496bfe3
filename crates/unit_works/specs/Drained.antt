-- A drain: works are done until none is left.
use Rattle.std.specs.Prelude.{◌≡◌, ◌≤◌, ◌+◌, ◌⊎◌, ℕ, Bool, false, Option, Some, None, List, [], Result, Ok, Err, true, filter}
use Rattle.std.specs.List.{list_all, list_any}
use Rattle.ale_volumes.specs.Disk.{Disk}
use Rattle.ale_base.specs.Tid.{TidOf}
use Rattle.ale_base.specs.declared.way.Way.TheVariants.{Outgoing}
use Rattle.unit_core.specs.Filters.{done_in, is_marked}
use Rattle.unit_core.specs.Queues.{is_listed}
use Rattle.ale_base.specs.declared.out_of_memory.OutOfMemory.{OutOfMemory}
use Rattle.unit_core.specs.declared.ale_unit.AleUnit.{AleUnit}
use Rattle.trfc_protocol.specs.declared.world.World.{World}
use Rattle.trfc_protocol.specs.Worlds.{committed_unit, is_up, log_of}
use Rattle.trfc_protocol.specs.Offered.{is_offered_outbound, is_offered_inbound}
use Rattle.unit_landscape.specs.declared.cause.Cause.TheVariants.{Crashed}
use Rattle.unit_landscape.specs.KeptWorlds.{KeptOf, cause_at}
use Rattle.document_state.specs.declared.document_tables.DocumentTables.{DocumentTables}
use Rattle.document_state.specs.declared.model_rules.ModelRules.{ModelRules}
use Rattle.document_state.specs.Meaning.{model_meaning}
use Rattle.unit_works.specs.Claims.{AreOrNone, NoneRuns}
use Rattle.unit_works.specs.Events.{is_work}
use Rattle.unit_works.specs.Finished.{finished_in}
use Rattle.unit_works.specs.Worked.{HaveTaken, Lines, Worked}
use Rattle.unit_works.specs.Acts.{Act, HaveActed, confirm, each_but_last_cut, execute, fells_it, is_cut, loses, ship, takes}
use Rattle.unit_works.specs.Through.{AreOffered, AreThrough, AreUp, IsClear, NoneLeft}
use Rattle.unit_works.specs.Trips.{is_due}

-- no unit is offered at any system in either direction
pub record IsIdle (world : World ModelRules) : Type 0 where
  pub outbound : (tid : TidOf) → is_offered_outbound (model_meaning world.rules.systems) world tid ≡ false
  pub inbound : (system : ℕ) (tid : TidOf) → is_offered_inbound world system tid ≡ false

-- its sender says of a unit that it is done, or it marked it: it is not shipped any more
abbrev pub IsSettled : World ModelRules → TidOf → Type 0
IsSettled world tid =
    (is_listed tid (done_in (log_of world tid.system)) ≡ true) ⊎ (is_marked Outgoing tid (log_of world tid.system) ≡ true)

module _ {V : Type 0} (disk : Disk V) (before : KeptOf ModelRules DocumentTables V) (lines : Lines) (after : KeptOf ModelRules DocumentTables V)
    (lines_after : Lines) where
  -- Acts were done one after the other, and nothing else but that claims were made or given up between them; so many runs and executions
  -- ended; and the claims are those before, or there are none.
  pub record HasWorked (n : ℕ) : Type 0 where
    pub went : Worked disk before after is_work true
    pub taken : HaveTaken lines lines_after
    pub finished : finished_in after.world ≡ finished_in before.world + n
    pub claims : AreOrNone after.world.claims before.world.claims
    pub acts : List Act
    pub did : HaveActed disk before lines acts after lines_after

  -- Each unit whose confirmation is due at the end lost it in one of these acts.
  abbrev pub AreLost : List Act → Type 0
  AreLost acts = (unit : AleUnit)
      → committed_unit (model_meaning after.world.rules.systems) after.world unit.tid ≡ Some unit → is_due after.world unit ≡ true
      → list_any (loses unit.tid) acts ≡ true

  -- a system fell in each of these acts in which a unit took a letter; or in each but the last, and its sender says that it is done or
  -- marked
  abbrev pub TakesOnce : List Act → TidOf → Type 0
  TakesOnce acts tid =
      (list_all is_cut (filter (takes tid) acts) ≡ true) ⊎ ((each_but_last_cut (filter (takes tid) acts) ≡ true) × IsSettled after.world tid)

  -- so of each unit: it takes a second letter only where a system fell in its act before
  abbrev pub AreOnce : List Act → Type 0
  AreOnce acts = (tid : TidOf) → TakesOnce acts tid

  -- Each system that fell in these acts, and is told to have been felled, was felled by one of them.
  abbrev pub AreFelled : List Act → Type 0
  AreFelled acts = (system : ℕ) → is_up before.world system ≡ true → is_up after.world system ≡ false → cause_at after system ≡ Crashed
      → list_any (fells_it after.world system) acts ≡ true

  -- Where no queue was stopped before, no unit was marked and none had a letter left, and all systems are up at the end, and offer the functions
  -- of the units that were committed for them, each of these units went its whole way; and again none is held up.
  abbrev pub GoThrough : Type 0
  GoThrough =
      IsClear before.world → NoneLeft lines → AreUp after.world → AreOffered after.world → IsClear after.world × NoneLeft lines_after × AreThrough after.world

  -- Acts were done until no unit is offered at any system in either direction, and so many runs and executions ended. No claim is left; no
  -- confirmation is due but those that were lost; each unit took one letter at most, and more only where a system fell; each system that was
  -- felled was by one of the acts; and where nothing held them up, all units went their whole way.
  pub record HasDrained (n : ℕ) : Type 0 where
    pub worked : HasWorked n
    pub idle : IsIdle after.world
    pub unclaimed : after.world.claims ≡ []
    pub lost : AreLost worked.acts
    pub once : AreOnce worked.acts
    pub felled : AreFelled worked.acts
    pub through : GoThrough

  -- A drain was done; where memory is wanting, works were.
  abbrev pub DrainedAs : Result ℕ OutOfMemory → Type 0
  DrainedAs (Ok n) = HasDrained n
  DrainedAs (Err short) = Worked disk before after is_work false

-- an act ships a unit, or executes one
abbrev pub is_round : Act → Bool
is_round (ship tid letter whole) = true
is_round (execute system tid whole) = true
is_round (confirm tid letter whole) = false

module _ {V : Type 0} (disk : Disk V) (before : KeptOf ModelRules DocumentTables V) (lines : Lines) (after : KeptOf ModelRules DocumentTables V)
    (lines_after : Lines) where
  -- Works were done, and each act ships a unit or executes one. Where no run was claimed before, each unit took one letter at most, and one
  -- more only where a system fell.
  pub record HasGone (n : ℕ) : Type 0 where
    pub worked : HasWorked disk before lines after lines_after n
    pub ships : list_all is_round worked.acts ≡ true
    pub once : NoneRuns before.world.claims → (tid : TidOf) → TakesOnce disk before lines after lines_after worked.acts tid

  -- ---- what only private functions cite

  -- Works were found, and at most so many runs and executions ended. Where none was found, nothing has changed, and this holds.
  abbrev pub Found : ℕ → Type 0 → Option ℕ → Type 0
  Found most nothing None = (after ≡ before) × (lines_after ≡ lines) × nothing
  Found most nothing (Some n) = HasGone n × (n ≤ most)

  -- the same of a call; where memory is wanting, works were done
  abbrev pub FoundAs : ℕ → Type 0 → Result (Option ℕ) OutOfMemory → Type 0
  FoundAs most nothing (Ok found) = Found most nothing found
  FoundAs most nothing (Err short) = Worked disk before after is_work false
