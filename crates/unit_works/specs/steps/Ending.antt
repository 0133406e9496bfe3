-- The work of a claim ends.
use Rattle.std.specs.Prelude.{◌≡◌, ◌⊎◌, ◌==◌, ⊤, ℕ, false, not, filter, Some, Result, Ok, Err}
use Rattle.ale_base.specs.Tid.{TidOf}
use Rattle.ale_base.specs.declared.out_of_memory.OutOfMemory.{OutOfMemory}
use Rattle.unit_core.specs.declared.ale_unit.AleUnit.{AleUnit}
use Rattle.trfc_protocol.specs.declared.held.Held.{Held}
use Rattle.trfc_protocol.specs.declared.held.HeldKind.{HeldKind}
use Rattle.trfc_protocol.specs.declared.held.HeldKind.TheVariants as kind
use Rattle.trfc_protocol.specs.declared.world.World.{World}
use Rattle.unit_landscape.specs.KeptWorlds.{KeptOf}
use Rattle.unit_landscape.specs.declared.claims.InClaim.{InClaim}
use Rattle.unit_works.specs.Trips.{Wholly, worked_by}
use Rattle.unit_works.specs.steps.Claims.{WasCut}
use Rattle.trfc_protocol.specs.Meaning.{Meaning}
use Rattle.trfc_protocol.specs.Worlds.{committed_unit, is_up}
use Rattle.unit_landscape.specs.declared.answers.Finished.{Finished}
use Rattle.unit_landscape.specs.declared.answers.Finished.TheVariants as finished
use Rattle.unit_landscape.specs.declared.answers.WorkEnd.{WorkEnd}
use Rattle.unit_landscape.specs.declared.answers.WorkEnd.TheVariants as end

-- how many works have ended by how one did: one, unless its system is down
abbrev pub ended_by : Finished → ℕ
ended_by (finished.Executed receipt) = 1
ended_by finished.Failed = 1
ended_by finished.Down = 0

-- how a work ended, by how its claim did: a claim that does not stand is of a system that fell
abbrev pub ended_of : Result Finished WorkEnd → Result Finished OutOfMemory
ended_of (Ok given) = Ok given
ended_of (Err end.Stale) = Ok finished.Down
ended_of (Err end.OutOfMemory) = Err (record {})

-- the receiver of the unit of an id is down
abbrev pub IsDownFor : {R : Type 0} → Meaning → World R → TidOf → Type 0
IsDownFor rules world tid = (unit : AleUnit) → committed_unit rules world tid ≡ Some unit → is_up world unit.receiver ≡ false

-- a run is done
abbrev pub IsRun : HeldKind → TidOf → Finished → Type 0
IsRun kind.Direct tid (finished.Executed receipt) = receipt.tid ≡ tid
IsRun kind.Direct tid _ = ⊥
IsRun _ tid _ = ⊤

-- the work of a claim ended, and no system fell
pub record HasFinished {R : Type 0} (rules : Meaning) (before after : World R) (claim : InClaim) (held : Held) (given : Finished) : Type 0 where
  pub grew : Wholly before after (worked_by rules before held held.kind)
  pub claims : after.claims ≡ filter (λ (h : Held). not (h.number == claim.number)) before.claims
  pub run : IsRun held.kind claim.tid given
  pub ended : ended_by given ≡ 1

-- the same, or its system fell as it was to append that it did
abbrev pub FinishedSo : {R A V : Type 0} → Meaning → KeptOf R A V → KeptOf R A V → InClaim → Held → Finished → Type 0
FinishedSo rules before after claim held given =
    HasFinished rules before.world after.world claim held given
    ⊎ (WasCut before after (worked_by rules before.world held held.kind) × (ended_by given ≡ 0))
