-- Works of a drain that are still to be done.
use Rattle.std.specs.Prelude.{◌≡◌, ◌≢◌, ◌⊎◌, ℕ, true}
use Rattle.trfc_protocol.specs.declared.world.World.{World}
use Rattle.document_state.specs.declared.model_rules.ModelRules.{ModelRules}
use Rattle.unit_landscape.specs.Calls.{stands_in, stands_out}
use Rattle.unit_works.specs.Claims.{OneFell}
use Rattle.drain_desk.specs.declared.work.Task.{Task}
use Rattle.drain_desk.specs.declared.work.Task.TheVariants.{Ship, Execute}

-- the number of the claim of a task
abbrev pub number_of : Task → ℕ
number_of (Ship claim) = claim.number
number_of (Execute claim) = claim.number

-- a task is still to be done: its claim stands
abbrev pub IsToDo : World ModelRules → Task → Type 0
IsToDo world (Ship claim) = stands_out world claim ≡ true
IsToDo world (Execute claim) = stands_in world claim ≡ true

-- each task that was to be done still is
abbrev pub StayToDo : World ModelRules → World ModelRules → Type 0
StayToDo before after = (other : Task) → IsToDo before other → IsToDo after other

-- each task of another claim still is, or a system fell, and with it all claims
abbrev pub OthersStay : World ModelRules → World ModelRules → Task → Type 0
OthersStay before after task =
    (other : Task) → IsToDo before other → (number_of task ≡ number_of other) ⊎ (IsToDo after other ⊎ OneFell before after)
