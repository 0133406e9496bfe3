-- The section `system`: systems with names of their own.
use Rattle.std.specs.Prelude.{ℕ, ◌&&◌, List, [], ◌∷◌, map, Option, Some, None, Result, Ok, if◌then◌else◌}
use Rattle.std.specs.Char.{is_ascii_digit}
use Rattle.toml.specs.Data.{Data, Items, Members, get_member, as_str}
use Rattle.segment_defs.specs.declared.limits.TheConstants.{LONGEST_NAME}
use Rattle.dist_model.specs.declared.limits.TheConstants.{LONGEST_SYSTEM, MOST_FUNCTIONS, MOST_SYSTEMS}
use Rattle.dist_model.specs.declared.system.System.{System}
use Rattle.dist_model.specs.Model.{system_names}
use Rattle.model_keys.specs.declared.finding.Finding.{Finding}
use Rattle.model_keys.specs.declared.finding.Cause.TheVariants.{Wrong}
use Rattle.model_keys.specs.Finding.{◌>>=◌, required}
use Rattle.model_keys.specs.Each.{each}
use Rattle.model_keys.specs.Keys.{entry_of, list_of, name_of, new_name_at, or_else, some_list_at}
use Rattle.model_text.specs.declared.keys.TheConstants.{CLIENT, FUNCTIONS, NAME, STANDARD_CLIENT, STANDARD_FUNCTION, SYSTEM, SYSTEM_KEYS}

-- three digits
abbrev pub client_in : List ℕ → Option (List ℕ)
client_in (a ∷ b ∷ c ∷ []) = if is_ascii_digit a && (is_ascii_digit b && is_ascii_digit c) then Some (a ∷ b ∷ c ∷ []) else None
client_in _ = None

-- the client that a text is
unfoldable pub client_of : Data → Result (List ℕ) Finding
client_of d = do
  text ← required Wrong CLIENT.now (as_str d)
  required Wrong CLIENT.now (client_in text)

-- the client of an entry, the standard one where the key is absent
unfoldable pub client_at : Members → Result (List ℕ) Finding
client_at table = or_else STANDARD_CLIENT client_of (get_member CLIENT.now table)

-- the name of a function
abbrev pub function_of : Data → Result (List ℕ) Finding
function_of d = name_of LONGEST_NAME [] d

-- the functions of a list
abbrev pub functions_of : Items → Result (List (List ℕ)) Finding
functions_of ds = each FUNCTIONS.now (λ done d. function_of d) 0 [] ds

-- the same of a list that stands there, which is not too long
abbrev pub function_list : Data → Result (List (List ℕ)) Finding
function_list d = do
  ds ← list_of MOST_FUNCTIONS FUNCTIONS.now d
  functions_of ds

-- the functions of an entry, the standard one where the key is absent
unfoldable pub functions_at : Members → Result (List (List ℕ)) Finding
functions_at table = or_else (STANDARD_FUNCTION.now ∷ []) function_list (get_member FUNCTIONS.now table)

-- a system with a name that none of the others has
unfoldable pub system_of : List (List ℕ) → Data → Result System Finding
system_of names d = do
  table ← entry_of (map (λ key. key.now) SYSTEM_KEYS) d
  name ← new_name_at LONGEST_SYSTEM NAME.now names table
  client ← client_at table
  functions ← functions_at table
  Ok (record { name = name; client = client; functions = functions })

-- the systems of a list, each behind those before it
abbrev pub systems_of : Items → Result (List System) Finding
systems_of ds = each SYSTEM.now (λ done d. system_of (system_names done) d) 0 [] ds

-- the systems of a text, of which there is one at least
unfoldable pub systems_at : Members → Result (List System) Finding
systems_at table = do
  ds ← some_list_at MOST_SYSTEMS SYSTEM.now table
  systems_of ds
