-- Whether the logs of a world keep the exactly-once law, and else the first record that breaks it.
use Rattle.std.specs.Prelude.{Option, MatchOption}
use Rattle.unit_core.specs.Once.{Once}
use Rattle.once_check.specs.declared.breach.Breach.{Breach}
use Rattle.once_check.specs.Breaches.{IsUnbroken, IsFirstBreach}
use Rattle.trfc_protocol.specs.declared.world.World.{World}
use Rattle.trfc_protocol.specs.Meaning.{Meaning}
use Rattle.trfc_protocol.specs.Worlds.{committed_by, log_of}

-- the logs of a world keep the law, over the units that each system committed
abbrev pub KeepsOnce : {R : Type 0} → Meaning → World R → Type 0
KeepsOnce rules world = Once (committed_by rules world) (log_of world)

-- no record of the logs breaks a clause of it, or this is the first that does
abbrev pub BreaksAs : {R : Type 0} → Meaning → World R → Option Breach → Type 0
BreaksAs rules world found = MatchOption found (IsUnbroken (committed_by rules world) (log_of world)) (IsFirstBreach (committed_by rules world) (log_of world))
