-- The things that names at keys refer to, and the places of these.
use Rattle.std.specs.Prelude.{ℕ, List, slice_get, Result, Ok}
use Rattle.toml.specs.Data.{Members}
use Rattle.segment_defs.specs.declared.limits.TheConstants.{LONGEST_NAME}
use Rattle.model_keys.specs.declared.finding.Finding.{Finding}
use Rattle.model_keys.specs.declared.finding.Cause.TheVariants.{Unknown}
use Rattle.model_keys.specs.Finding.{◌>>=◌, required}
use Rattle.model_keys.specs.Keys.{reference_at}

-- the thing among some whose name stands at a key, and its place; the things have these names, in order
unfoldable pub thing_at : {A : Type 0} → List ℕ → List (List ℕ) → List A → Members → Result (ℕ × A) Finding
thing_at key names things table = do
  place ← reference_at LONGEST_NAME key names table
  thing ← required Unknown key (slice_get things place)
  Ok (place, thing)
