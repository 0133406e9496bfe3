use Rattle.std.proofs.Common.{◌≡◌, sym, subst}
use Rattle.trfc_protocol.specs.Worlds.{state_down, with_state}
use Rattle.trfc_protocol.specs.Safe.{AreApart}
use Rattle.unit_landscape.specs.declared.world_tables.WorldTables.{WorldTables}
use Rattle.unit_landscape.specs.InStep.{AreInStep}
use Rattle.unit_landscape.proofs.EnteringLemmas.{all_taken_back}
use Rattle.unit_landscape.proofs.BehindLemmas.{in_step-fell}
use Rattle.unit_landscape.proofs.WritingLemmas.{within-entered, fell-with}
use Rattle.unit_landscape.proofs.writing.fall_with.Goals as goal

pub leave-rest-requires : goal.leave-rest-requires
leave-rest-requires g c = record {
  within = within-entered g.R.Rules.meaning g.A.Application.stands c.args.both.now c.args.system c.args.count c.requires;
}

pub fall-requires-clause-apart : goal.fall-requires-clause-apart
fall-requires-clause-apart g c =
    let its = c.requires in
    let back : c.leave-rest.new.self ≡ its.before =
    all_taken_back its.before c.args.both.now c.leave-rest.new.self c.args.system its.next its.more c.args.count its.entered its.counts
    c.leave-rest.ensures.world c.leave-rest.ensures.left in
    subst (λ (b : WorldTables g.row.R.Denot g.row.A.Denot g.row.A-Extra.Denot). AreApart b.world.claims) (sym back) its.apart

pub fall-requires-clause-in_step : goal.fall-requires-clause-in_step
fall-requires-clause-in_step g c =
    let its = c.requires in
    let back : c.leave-rest.new.self ≡ its.before =
    all_taken_back its.before c.args.both.now c.leave-rest.new.self c.args.system its.next its.more c.args.count its.entered its.counts
    c.leave-rest.ensures.world c.leave-rest.ensures.left in
    subst (λ (b : WorldTables g.row.R.Denot g.row.A.Denot g.row.A-Extra.Denot). AreInStep g.A.Application.stands (g.R.Rules.meaning b.world.rules)
    (with_state b.world c.args.system (state_down c.leave-rest.result)).systems b.world.claims b.tables) (sym back)
    (in_step-fell g.A.Application.stands g.R.Rules.meaning its.before.world its.before.tables c.args.system c.leave-rest.result its.up its.in_step)

pub returns-clause-world : goal.returns-clause-world
returns-clause-world g c = λ before next more is counts up.
    let back : c.leave-rest.new.self ≡ before =
    all_taken_back before c.args.both.now c.leave-rest.new.self c.args.system next more c.args.count is counts c.leave-rest.ensures.world
    c.leave-rest.ensures.left in
    fell-with before c.args.both.now c.leave-rest.new.self c.fall.new.self c.args.system next more c.leave-rest.result is up back c.leave-rest.ensures.last
    c.fall.ensures.world
