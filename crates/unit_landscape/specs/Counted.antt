-- How many units the systems received and executed, counted beside their logs.
use Rattle.std.specs.Prelude.{◌≡◌, ℕ, zero, suc, ◌+◌, ◌-◌, ◌≤◌, ◌<◌, ◌*◌, ⊤, Option, Some, None, List, length, slice_set, slice_index_or, Result, Ok, Err}
use Rattle.unit_core.specs.declared.records.Record.{Record}
use Rattle.unit_core.specs.Filters.{received, executed, taken_by, executed_by}
use Rattle.trfc_protocol.specs.declared.world.SystemState.{SystemState}
use Rattle.trfc_protocol.specs.declared.world.World.{World}
use Rattle.trfc_protocol.specs.Meaning.{Meaning}
use Rattle.trfc_protocol.specs.Worlds.{committed_by, log_of, log_or_none, state_of}
use Rattle.unit_landscape.specs.declared.append_end.AppendEnd.{AppendEnd}
use Rattle.unit_landscape.specs.declared.append_end.AppendEnd.TheVariants.{Volume, Full, Before, After}
use Rattle.unit_landscape.specs.declared.counted.Adds.{Adds}
use Rattle.unit_landscape.specs.declared.counted.Counted.{Counted}

-- ---- of all systems together

-- a number of each of the first systems, added up
abbrev pub sum_to : (ℕ → ℕ) → ℕ → ℕ
sum_to many zero = 0
sum_to many (suc system) = sum_to many system + many (suc system)

module _ {R : Type 0} (rules : Meaning) (world : World R) where
  -- how many units all systems committed, received and executed, those that are down too
  abbrev pub committed_total : ℕ
  committed_total = sum_to (λ system. length (committed_by rules world system)) rules.systems

  abbrev pub received_total : ℕ
  received_total = sum_to (λ system. length (received (log_of world system))) rules.systems

  abbrev pub executed_total : ℕ
  executed_total = sum_to (λ system. length (executed (log_of world system))) rules.systems

  -- no more were executed than received, no more received than committed, and that is at most 65,536 of each system
  pub record AreInOrder : Type 0 where
    pub executed : executed_total ≤ received_total
    pub received : received_total ≤ committed_total
    pub most : committed_total ≤ rules.systems * 65536

-- none of the totals fell
pub record HaveNotFallen {R : Type 0} (rules : Meaning) (before after : World R) : Type 0 where
  pub committed : committed_total rules before ≤ committed_total rules after
  pub received : received_total rules before ≤ received_total rules after
  pub executed : executed_total rules before ≤ executed_total rules after

-- ---- of each system

-- 1 where there is something
abbrev pub one_if : {A : Type 0} → Option A → ℕ
one_if (Some x) = 1
one_if None = 0

-- what a record adds to the counts of its system
abbrev pub adds_of : Record → Adds
adds_of next = record { received = one_if (taken_by next); executed = one_if (executed_by next) }

-- the number at a place is so much larger
abbrev pub raised_at : List ℕ → ℕ → ℕ → List ℕ
raised_at counts place more = slice_set counts place (slice_index_or counts place 0 + more)

-- this is added to the counts at a place
abbrev pub raised : Counted → ℕ → Adds → Counted
raised counted place adds = record {
  received = raised_at counted.received place adds.received;
  executed = raised_at counted.executed place adds.executed;
}

-- the counts behind an append: what its record adds is counted where it is in the log
abbrev pub counted_by : {T : Type 0} → Counted → ℕ → Adds → Result T AppendEnd → Counted
counted_by counted place adds (Ok done) = raised counted place adds
counted_by counted place adds (Err After) = raised counted place adds
counted_by counted place adds (Err Volume) = counted
counted_by counted place adds (Err (Full size)) = counted
counted_by counted place adds (Err Before) = counted

-- the counts at a place are below the number of records there
pub record AreBelow (counted : Counted) (place records : ℕ) : Type 0 where
  pub received : slice_index_or counted.received place 0 < records
  pub executed : slice_index_or counted.executed place 0 < records

-- so they are where a record is counted
abbrev pub HasRoom : {T : Type 0} → Counted → ℕ → ℕ → Result T AppendEnd → Type 0
HasRoom counted place records (Ok done) = AreBelow counted place records
HasRoom counted place records (Err After) = AreBelow counted place records
HasRoom counted place records (Err Volume) = ⊤
HasRoom counted place records (Err (Full size)) = ⊤
HasRoom counted place records (Err Before) = ⊤

-- there are counts for each of the 16 system numbers, and they are those of the logs: nothing where there is no such system
pub record AreCounted (systems : List SystemState) (counted : Counted) : Type 0 where
  pub all_received : length counted.received ≡ 16
  pub all_executed : length counted.executed ≡ 16
  pub taken : (system : ℕ) → 1 ≤ system → system ≤ 16
      → slice_index_or counted.received (system - 1) 0 ≡ length (received (log_or_none (state_of systems system)))
  pub run : (system : ℕ) → 1 ≤ system → system ≤ 16
      → slice_index_or counted.executed (system - 1) 0 ≡ length (executed (log_or_none (state_of systems system)))
