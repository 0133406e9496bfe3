use Rattle.std.specs.List.{list_all}
use Rattle.std.proofs.Common.{◌≡◌}
use Rattle.trfc_protocol.specs.Worlds.{is_up}
use Rattle.landscape.specs.Remodelled.{numbers_of}
use Rattle.landscape.proofs.BarredLemmas.{left}
use Rattle.landscape.proofs.landscape.Landscape.all_up.Given as goal

-- all systems are up where those are that are left
abbrev pub invariant-loop-number : goal.invariant-loop-number
invariant-loop-number g l =
    list_all (is_up l.self.world) (left l.self.world.rules.systems l.number) ≡ list_all (is_up l.self.world) (numbers_of l.self.world)
