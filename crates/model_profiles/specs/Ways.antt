-- The three keys of a way: from which system to which a message type goes.
use Rattle.std.specs.Prelude.{ℕ, suc, List, [], nat_eq, Result, Ok, Err, if◌then◌else◌}
use Rattle.std.specs.List.{list_any}
use Rattle.toml.specs.Data.{Members}
use Rattle.segment_defs.specs.declared.limits.TheConstants.{LONGEST_NAME}
use Rattle.dist_model.specs.declared.limits.TheConstants.{LONGEST_SYSTEM}
use Rattle.dist_model.specs.Triple.{same_triple}
use Rattle.dist_model.specs.Way.{Way}
use Rattle.model_keys.specs.declared.finding.Finding.{Finding}
use Rattle.model_keys.specs.declared.finding.Cause.TheVariants.{Twice, Wrong}
use Rattle.model_keys.specs.Finding.{◌>>=◌, at}
use Rattle.model_keys.specs.Keys.{reference_at}
use Rattle.model_profiles.specs.declared.keys.TheConstants.{MESSAGE, RECEIVER, SENDER}

-- the number of the system whose name stands at a key, among systems of these names, counted from 1
unfoldable pub system_at : List ℕ → List (List ℕ) → Members → Result ℕ Finding
system_at key systems table = do
  place ← reference_at LONGEST_SYSTEM key systems table
  Ok (suc place)

-- the same of a system that is not another one
unfoldable pub other_system_at : List ℕ → ℕ → List (List ℕ) → Members → Result ℕ Finding
other_system_at key other systems table = do
  system ← system_at key systems table
  if nat_eq other system then Err (at Wrong key) else Ok system

-- sender, receiver and message type, of systems and message types of these names
unfoldable pub way_at : List (List ℕ) → List (List ℕ) → Members → Result Way Finding
way_at systems messages table = do
  sender ← system_at SENDER.now systems table
  receiver ← other_system_at RECEIVER.now sender systems table
  message ← reference_at LONGEST_NAME MESSAGE.now messages table
  Ok (sender, receiver, message)

-- three numbers that none of some others are
unfoldable pub new_triple : List (ℕ × ℕ × ℕ) → ℕ × ℕ × ℕ → Result (ℕ × ℕ × ℕ) Finding
new_triple triples triple = if list_any (same_triple triple) triples then Err (at Twice []) else Ok triple

-- a way that none of some others is
unfoldable pub new_way_at : List (List ℕ) → List (List ℕ) → List Way → Members → Result Way Finding
new_way_at systems messages ways table = do
  way ← way_at systems messages table
  new_triple ways way
