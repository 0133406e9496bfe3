-- Counts of faults. A count stands still at the greatest number of 64 bits.
use Rattle.std.specs.Prelude.{◌≢◌, ℕ, ◌-◌, ◌^◌, ◌<◌}

-- the count rose, or it stands at its end
abbrev pub Rose : ℕ → ℕ → Type 0
Rose before after = after ≢ 2 ^ 64 - 1 → before < after
