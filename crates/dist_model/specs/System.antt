-- A system of the landscape. The form of its name, client and functions is this project's own.
use Rattle.std.specs.Prelude.{◌≡◌, ℕ, ◌≤◌, List, length, IsTrue}
use Rattle.std.specs.Char.{is_ascii_digit}
use Rattle.std.specs.List.{AllByRecursion, list_all}
use Rattle.segment_defs.specs.Name.{is_name_within, IsName}
use Rattle.dist_model.specs.declared.limits.TheConstants.{LONGEST_SYSTEM, MOST_FUNCTIONS}
use Rattle.dist_model.specs.declared.system.System.{System}

-- a client has three digits
pub record IsClient (client : List ℕ) : Type 0 where
  pub three : length client ≡ 3
  pub digits : IsTrue (list_all is_ascii_digit client)

-- a system has a short name, a client, and functions that have names, not too many
pub record IsSystem (system : System) : Type 0 where
  pub named : IsTrue (is_name_within LONGEST_SYSTEM system.name)
  pub client : IsClient system.client
  pub few : length system.functions ≤ MOST_FUNCTIONS
  pub functions : AllByRecursion IsName system.functions
