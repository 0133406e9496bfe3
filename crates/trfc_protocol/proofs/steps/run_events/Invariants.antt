use Rattle.std.proofs.Common.{◌≡◌, drop}
use Rattle.trfc_protocol.specs.Happens.{run}
use Rattle.trfc_protocol.specs.Safe.{IsSafe}
use Rattle.trfc_protocol.proofs.steps.run_events.Given as goal

abbrev pub invariant-loop-event : goal.invariant-loop-event
invariant-loop-event g l = record {
  rules : l.world.rules ≡ l.fn.world.rules;
  safe : IsSafe g.R.Rules.meaning l.world;
  so_far : run g.R.Rules.meaning l.world (drop l.event-index l.events) ≡ run g.R.Rules.meaning l.fn.world l.events;
}
