use Rattle.std.specs.Option.{option_copied}
use Rattle.std.proofs.Common.{◌≡◌, Some, sym, ap, ◌∙◌}
use Rattle.trfc_protocol.specs.Worlds.{committed_unit}
use Rattle.trfc_protocol.proofs.SafeLemmas.{committed_unit-is}
use Rattle.unit_works.proofs.TripLemmas.{due-not, due-of}
use Rattle.unit_works.proofs.WorkedLemmas.{is_lawful, meaning}
use Rattle.unit_works.proofs.confirming.is_due.Goals as goal

pub returns-then-is_up-clause-due : goal.returns-then-is_up-clause-due
returns-then-is_up-clause-due g c = λ unconfirmed.
    let named : committed_unit (meaning c.args.landscape.now.world.rules) c.args.landscape.now.world c.args.tid ≡ Some c.in-Some.unit.now =
    sym c.unit.ensures ∙ ap option_copied c.in-Some.is in
    record {
      unit = c.in-Some.unit.now;
      committed = named;
      due = due-of c.args.landscape.now.world c.args.tid c.in-Some.unit.now
          (committed_unit-is (meaning c.args.landscape.now.world.rules) (is_lawful c.args.landscape.now.world.rules) c.args.landscape.now.world
          c.world.ensures.safe.safe c.args.tid c.in-Some.unit.now named).1
          (sym c.is_up.ensures ∙ c.if-is_up.true) (sym c.is_unconfirmed.ensures ∙ unconfirmed);
    }

pub returns-then-is_up-clause-other : goal.returns-then-is_up-clause-other
returns-then-is_up-clause-other g c = λ none unit named due.
    due-not c.args.landscape.now.world c.args.tid unit
    (committed_unit-is (meaning c.args.landscape.now.world.rules) (is_lawful c.args.landscape.now.world.rules) c.args.landscape.now.world
    c.world.ensures.safe.safe c.args.tid unit named).1
    due (sym c.is_unconfirmed.ensures ∙ none)
