-- How many runs and executions have ended.
use Rattle.std.specs.Prelude.{ℕ, Bool, true, false, List}
use Rattle.std.specs.List.{sum_by, count_by}
use Rattle.unit_core.specs.declared.records.Record.{Record}
use Rattle.unit_core.specs.declared.records.Record.TheVariants.{Execute, Direct, Fail}
use Rattle.trfc_protocol.specs.declared.world.World.{World}
use Rattle.trfc_protocol.specs.declared.world.SystemState.{SystemState}

-- the records that end a run or an execution, whether it was done or failed
abbrev pub is_ending : Record → Bool
is_ending (Execute tid) = true
is_ending (Direct unit) = true
is_ending (Fail tid) = true
is_ending _ = false

-- how many a log has of them
abbrev pub endings_in : List Record → ℕ
endings_in log = count_by is_ending log

-- how many all logs together
abbrev pub finished_in : {R : Type 0} → World R → ℕ
finished_in world = sum_by (λ (state : SystemState). endings_in state.log) world.systems
