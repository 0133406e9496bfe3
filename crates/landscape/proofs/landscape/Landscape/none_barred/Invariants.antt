use Rattle.std.specs.Prelude.{filter, true}
use Rattle.std.specs.List.{list_all}
use Rattle.std.proofs.Common.{◌≡◌}
use Rattle.said_models.specs.OfLog.{differs}
use Rattle.trfc_protocol.specs.Worlds.{is_up, log_of}
use Rattle.landscape.specs.Remodelled.{first_refusal}
use Rattle.landscape.specs.steps.Barred.{barred_at, first_barred}
use Rattle.landscape.proofs.BarredLemmas.{left}
use Rattle.landscape.proofs.landscape.Landscape.none_barred.Given as goal

-- the systems that are left are up, and the first refusal is theirs
abbrev pub invariant-loop-number : goal.invariant-loop-number
invariant-loop-number g l = record {
  up : list_all (is_up l.self.world) (left l.self.world.rules.systems l.number) ≡ true;
  first : first_refusal (barred_at l.self l.model l.text l.bar)
      (filter (λ system. differs l.text (log_of l.self.world system)) (left l.self.world.rules.systems l.number))
      ≡ first_barred l.self l.model l.text l.bar;
}
