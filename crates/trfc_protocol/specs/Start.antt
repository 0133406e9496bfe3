-- A world that begins with given logs.
use Rattle.std.specs.Prelude.{ℕ, true, None, List, [], ◌∷◌, map}
use Rattle.std.specs.List.{range_with_len}
use Rattle.unit_core.specs.declared.records.Record.{Record}
use Rattle.unit_core.specs.declared.records.Record.TheVariants.{Genesis}
use Rattle.trfc_protocol.specs.declared.world.World.{World}
use Rattle.trfc_protocol.specs.declared.world.SystemState.{SystemState}

-- a system that begins with a log: it is up
abbrev pub first_state : List Record → SystemState
first_state log = record { log = log; up = true; rest = None }

-- the world that begins with these logs: all systems are up, and there is no claim
abbrev pub first_world : {R : Type 0} → R → List (List Record) → World R
first_world rules logs = record { rules = rules; systems = map first_state logs; claims = []; falls = 0; next_number = 1 }

-- a log that is a Genesis alone
abbrev pub genesis_log : List ℕ → ℕ → List Record
genesis_log text system = Genesis system text ∷ []

-- each system's log is its Genesis, with the same text
abbrev pub genesis_logs : List ℕ → ℕ → List (List Record)
genesis_logs text systems = map (genesis_log text) (range_with_len 1 systems)
