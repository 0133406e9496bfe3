use Rattle.std.proofs.Common.{None, sym, subst}
use Rattle.trfc_protocol.specs.declared.event.Event.TheVariants as event
use Rattle.unit_landscape.specs.Appending.{IsDue, EndsAs}
use Rattle.unit_landscape.proofs.OperatingLemmas.{commit-appends}
use Rattle.unit_landscape.proofs.landscape.UnitLandscape.commit.Goals as goal

pub record-requires-clause-due : goal.record-requires-clause-due
record-requires-clause-due g c =
    let rules = g.R.Rules.meaning c.args.self.now.world.rules in
    subst (λ k. IsDue g.R.Rules.meaning g.A.Application.goes_with k c.args.system c.args.next c.args.more.now None c.args.extra) (sym c.self.view_is)
    (record {
      event = event.Commit c.args.system c.args.next;
      appends = commit-appends rules c.args.self.now.world c.args.system c.args.next c.requires.possible c.requires.writable;
      commits = c.requires.commits;
      goes = c.requires.goes;
    })

pub returns-clause-ends : goal.returns-clause-ends
returns-clause-ends g c =
    let rules = g.R.Rules.meaning c.args.self.now.world.rules in
    subst (λ k. EndsAs (g.R.Rules.meaning k.world.rules) g.V.Volumes.disk k c.record.new.kept c.args.system c.args.next None c.record.result) c.self.view_is
    c.record.ensures.ends
    (event.Commit c.args.system c.args.next)
    (commit-appends rules c.args.self.now.world c.args.system c.args.next c.requires.possible c.requires.writable)
