-- A unit is shipped, or executed.
use Rattle.std.specs.Prelude.{◌≡◌, ◌≤◌, ◌+◌, ℕ, Bool, Option, Some, None, Result, Ok, Err, true, false, if◌then◌else◌}
use Rattle.ale_volumes.specs.Disk.{Disk}
use Rattle.ale_base.specs.Tid.{TidOf}
use Rattle.ale_base.specs.declared.out_of_memory.OutOfMemory.{OutOfMemory}
use Rattle.ale_base.specs.declared.way.Way.TheVariants.{Outgoing, Incoming}
use Rattle.unit_core.specs.Filters.{received}
use Rattle.unit_core.specs.Queues.{unit_named}
use Rattle.trfc_protocol.specs.declared.held.Held.{Held}
use Rattle.trfc_protocol.specs.declared.held.HeldKind.TheVariants.{In}
use Rattle.trfc_protocol.specs.Offered.{is_stopped_inbound, is_stopped_outbound, may_move}
use Rattle.trfc_protocol.specs.Worlds.{committed_unit, log_of, without_claim}
use Rattle.unit_landscape.specs.KeptWorlds.{KeptOf}
use Rattle.unit_landscape.specs.LogAnswers.{first_to_go}
use Rattle.document_state.specs.declared.document_tables.DocumentTables.{DocumentTables}
use Rattle.document_state.specs.declared.model_rules.ModelRules.{ModelRules}
use Rattle.document_state.specs.Meaning.{model_meaning}
use Rattle.unit_landscape.specs.declared.claims.InClaim.{InClaim}
use Rattle.unit_landscape.specs.declared.claims.OutClaim.{OutClaim}
use Rattle.unit_landscape.specs.Appending.{HoldsIn}
use Rattle.unit_landscape.specs.Calls.{stands_in, stands_out}
use Rattle.unit_works.specs.Wires.{letters_left, next_letter}
use Rattle.unit_works.specs.Claims.{AreOrGone}
use Rattle.unit_works.specs.Events.{is_execution, is_work}
use Rattle.unit_works.specs.Finished.{finished_in}
use Rattle.unit_works.specs.Worked.{HaveEnded, Lines, NothingIn, NothingOut, Worked}
use Rattle.unit_works.specs.Acts.{HasExecuted, HasShipped, WasShipped}
use Rattle.unit_works.specs.Trips.{AppendedAs, may_execute, may_ship, worked_by}

module _ {V : Type 0} (disk : Disk V) (before after : KeptOf ModelRules DocumentTables V) where
  -- The first unit that is offered outbound at a system was shipped under its next letter, whole or cut, and at most one run ended; or there
  -- is none, and nothing has changed.
  abbrev pub ShippedAs : Lines → Lines → ℕ → Result (Option ℕ) OutOfMemory → Type 0
  ShippedAs lines lines_after system (Ok None) = (after ≡ before) × (lines_after ≡ lines) × NothingOut before.world system
  ShippedAs lines lines_after system (Ok (Some n)) =
      (tid : TidOf)
      × (first_to_go (model_meaning before.world.rules.systems) before.world system Outgoing ≡ Some tid)
      × (whole : Bool)
      × HasShipped disk before after lines lines_after tid (next_letter (letters_left lines tid)) whole
      × HaveEnded disk before after n
      × (n ≤ 1)
  ShippedAs lines lines_after system (Err short) = Worked disk before after is_work false

  -- The first unit that is offered inbound at a system was executed: its execution ended, or it was cut; or there is none, and nothing has
  -- changed.
  abbrev pub ExecutedAs : ℕ → Result (Option ℕ) OutOfMemory → Type 0
  ExecutedAs system (Ok None) = (after ≡ before) × NothingIn before.world system
  ExecutedAs system (Ok (Some n)) =
      (tid : TidOf)
      × (first_to_go (model_meaning before.world.rules.systems) before.world system Incoming ≡ Some tid)
      × (whole : Bool)
      × HasExecuted disk before after system tid whole
      × HaveEnded disk before after n
      × (n ≡ (if whole then 1 else 0))
  ExecutedAs system (Err short) = Worked disk before after is_execution false

  -- The unit of a claim was shipped under its next letter, whole or cut; it may be shipped where none of its outbound queues is stopped, as
  -- none is where it was claimed. At most one run ended. Its claim is gone, and all others stand; or there are none, and a system fell. Or the
  -- claim did not stand, and nothing has changed.
  abbrev pub ClaimShippedAs : Lines → Lines → OutClaim → Result (Option ℕ) OutOfMemory → Type 0
  ClaimShippedAs lines lines_after claim (Ok None) = (after ≡ before) × (lines_after ≡ lines) × (stands_out before.world claim ≡ false)
  ClaimShippedAs lines lines_after claim (Ok (Some n)) =
      (stands_out before.world claim ≡ true)
      × (whole : Bool)
      × WasShipped disk before after lines lines_after claim.tid (next_letter (letters_left lines claim.tid)) whole
      × (may_move (is_stopped_outbound (log_of before.world claim.tid.system))
      (committed_unit (model_meaning before.world.rules.systems) before.world claim.tid) ≡ true
      → may_ship (model_meaning before.world.rules.systems) before.world claim.tid ≡ true)
      × (finished_in after.world ≡ finished_in before.world + n)
      × AreOrGone before.world after.world (without_claim before.world claim.number).claims
      × (n ≤ 1)
  ClaimShippedAs lines lines_after claim (Err short) = Worked disk before after is_work false

  -- The work of a claim that stands ended, whole or cut: of one to execute a unit, which may be executed where none of its inbound queues is
  -- stopped, as none is where it was claimed; or of one to run a unit. So many executions and runs ended. Its claim is gone, and all others
  -- stand; or there are none, and a system fell. Where the claim did not stand nothing has changed.
  abbrev pub ClaimExecutedAs : InClaim → Result ℕ OutOfMemory → Type 0
  ClaimExecutedAs claim (Ok n) =
      (stands_in before.world claim ≡ false → after ≡ before)
      × Worked disk before after is_execution true
      × ((held : Held) → HoldsIn before.world claim held
      → (whole : Bool)
      × AppendedAs before after (worked_by (model_meaning before.world.rules.systems) before.world held held.kind) whole
      × (n ≡ (if whole then 1 else 0)))
      × ((held : Held) → HoldsIn before.world claim held → held.kind ≡ In
      → may_move (is_stopped_inbound (log_of before.world held.system)) (unit_named held.tid (received (log_of before.world held.system))) ≡ true
      → may_execute before.world held.system held.tid ≡ true)
      × (finished_in after.world ≡ finished_in before.world + n)
      × (stands_in before.world claim ≡ true → AreOrGone before.world after.world (without_claim before.world claim.number).claims)
      × (n ≤ 1)
  ClaimExecutedAs claim (Err short) = Worked disk before after is_execution false
