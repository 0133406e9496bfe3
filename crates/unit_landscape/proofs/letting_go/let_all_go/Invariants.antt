use Rattle.std.specs.Prelude.{drop}
use Rattle.trfc_protocol.specs.Safe.{AreApart}
use Rattle.unit_landscape.specs.InStep.{AreInStep}
use Rattle.unit_landscape.proofs.letting_go.let_all_go.Given as goal

abbrev pub invariant-loop-held : goal.invariant-loop-held
invariant-loop-held g l = record {
  apart : AreApart (drop l.held-index l.claims);
  in_step : AreInStep g.A.Application.stands (g.R.Rules.meaning l.world.rules) l.world.systems (drop l.held-index l.claims) l.tables;
}
