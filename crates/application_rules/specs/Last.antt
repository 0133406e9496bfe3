-- The last status of a document.
use Rattle.std.specs.Prelude.{ℕ, ◌-◌, ◌==◌, Bool, false, List, length, slice_get}
use Rattle.std.specs.Option.{option_map_or}
use Rattle.status_log.specs.declared.status_at.StatusAt.{StatusAt}

-- whether the last of these statuses has this code; false where there is none
abbrev pub last_is : ℕ → List StatusAt → Bool
last_is code statuses = option_map_or (λ one. one.status.code == code) (slice_get statuses (length statuses - 1)) false
