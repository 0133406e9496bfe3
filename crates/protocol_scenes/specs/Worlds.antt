-- Worlds of the rules that list each system's units.
use Rattle.trfc_protocol.specs.declared.world.World.{World}
use Rattle.protocol_scenes.specs.declared.listed_rules.ListedRules.{ListedRules}
use Rattle.protocol_scenes.specs.ListedRules.{listed_meaning}
use Rattle.trfc_protocol.specs.Safe.{IsSafe}

-- the world is safe
abbrev pub IsSafeWorld : World ListedRules → Type 0
IsSafeWorld world = IsSafe (λ rules. listed_meaning rules.units) world
