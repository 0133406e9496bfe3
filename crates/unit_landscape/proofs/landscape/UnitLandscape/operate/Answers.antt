use Rattle.std.proofs.Common.{[], None, sym, subst}
use Rattle.trfc_protocol.specs.declared.event.Event.TheVariants as event
use Rattle.trfc_protocol.specs.declared.event.Action.TheVariants.{Append}
use Rattle.unit_landscape.specs.Kept.{IsLandscape}
use Rattle.unit_landscape.specs.Appending.{IsDue, EndsAs}
use Rattle.unit_landscape.proofs.EventLemmas.{event-none_more}
use Rattle.unit_landscape.proofs.OperatingLemmas.{operators-plain, operator-appends, operator-kind}
use Rattle.unit_landscape.proofs.landscape.UnitLandscape.operate.Goals as goal

pub record-requires-clause-due : goal.record-requires-clause-due
record-requires-clause-due g c =
    let world = c.args.self.now.world in
    let rules = g.R.Rules.meaning c.args.self.now.world.rules in
    let is = subst (λ k. IsLandscape g.R.Rules.meaning k.world) c.self.view_is c.self.invariant in
    let does = operator-appends rules world c.args.system c.args.next c.requires.possible (λ has. c.requires.writable) in
    subst (λ k. IsDue g.R.Rules.meaning g.A.Application.goes_with k c.args.system c.args.next [] None c.args.extra) (sym c.self.view_is)
    (record {
      event = event.Operator (Append c.args.system c.args.next);
      appends = does;
      commits = event-none_more rules (g.met.R.Rules.lawful c.args.self.now.world.rules) world is.safe is.writable
          (event.Operator (Append c.args.system c.args.next))
          c.args.system c.args.next None does (operators-plain c.args.next (operator-kind rules world c.args.system c.args.next c.requires.possible));
      goes = c.requires.goes;
    })

pub returns-clause-ends : goal.returns-clause-ends
returns-clause-ends g c =
    let rules = g.R.Rules.meaning c.args.self.now.world.rules in
    subst (λ k. EndsAs (g.R.Rules.meaning k.world.rules) g.V.Volumes.disk k c.record.new.kept c.args.system c.args.next None c.record.result) c.self.view_is
    c.record.ensures.ends
    (event.Operator (Append c.args.system c.args.next))
    (operator-appends rules c.args.self.now.world c.args.system c.args.next c.requires.possible (λ has. c.requires.writable))
