-- (steps of `moments_at` and `rest_at`) The moments of one log, among those of all, and that of a record whose write failed.
use Rattle.std.specs.Prelude.{ℕ, Option, List, [], ◌∷◌, ◌++◌, slice_get, slice_set}
use Rattle.std.specs.Option.{unwrap_or}
use Rattle.byte_journal.specs.declared.fault.AppendFault.{AppendFault}
use Rattle.byte_journal.specs.declared.fault.AppendFault.TheVariants.{Volume}

-- the moments of all logs, after those at a place have one more
abbrev pub with_one_more : List (List (Option ℕ)) → ℕ → Option ℕ → List (List (Option ℕ))
with_one_more moments place moment = slice_set moments place (unwrap_or (slice_get moments place) [] ++ moment ∷ [])

-- the moments of records whose write failed, behind a fault at a place
abbrev pub rests_after : List (Option ℕ) → ℕ → Option ℕ → AppendFault → List (Option ℕ)
rests_after rests place moment Volume = slice_set rests place moment
rests_after rests place moment _ = rests
