use Rattle.std.proofs.Common.{◌&&◌, Some, inl, inr, sym, ap, subst, ◌∙◌}
use Rattle.unit_landscape.specs.declared.answers.Reply.TheVariants as reply
use Rattle.ale_base.specs.Tid.{is_tid}
use Rattle.unit_landscape.specs.Writes.{Appends}
use Rattle.unit_landscape.specs.Calls.{reply_event}
use Rattle.unit_landscape.proofs.ReplyingLemmas.{may-arrive, receipt-appends, refusal-appends, lost-appends}
use Rattle.unit_landscape.proofs.landscape.UnitLandscape.reply_record.Goals as goal

pub was_received-received-requires : goal.was_received-received-requires
was_received-received-requires g c =
    may-arrive (g.R.Rules.meaning c.args.self.now.world.rules) (g.met.R.Rules.lawful c.args.self.now.world.rules) c.args.self.now.world
    c.world.ensures.safe.safe c.args.claim.now
    c.args.held c.requires.holds

pub returns-in-Done-clause-appends : goal.returns-in-Done-clause-appends
returns-in-Done-clause-appends g c =
    let rules = g.R.Rules.meaning c.args.self.now.world.rules in
    subst (λ given. Appends rules c.args.self.now.world c.args.held.system c.record_of_receipt.result (Some c.args.held.number)
    (reply_event rules c.args.self.now.world c.args.claim.now given)) (sym c.in-Done.is)
    (subst (λ next. Appends rules c.args.self.now.world c.args.held.system next (Some c.args.held.number)
    (reply_event rules c.args.self.now.world c.args.claim.now (reply.Done c.in-Done.receipt))) (sym c.record_of_receipt.ensures)
    (receipt-appends rules (g.met.R.Rules.lawful c.args.self.now.world.rules) c.args.self.now.world c.world.ensures.safe.safe c.args.claim.now c.args.held
    c.requires.holds
    c.in-Done.receipt (c.eq.result && c.was_received-received.result)
    (ap (λ b. b && c.was_received-received.result) c.eq.ensures
    ∙ ap (λ b. is_tid c.in-Done.receipt.tid c.args.held.tid && b) c.was_received-received.ensures)))

pub returns-in-SysFail-clause-appends : goal.returns-in-SysFail-clause-appends
returns-in-SysFail-clause-appends g c =
    let rules = g.R.Rules.meaning c.args.self.now.world.rules in
    subst (λ given. Appends rules c.args.self.now.world c.args.held.system c.record_of_refusal.result (Some c.args.held.number)
    (reply_event rules c.args.self.now.world c.args.claim.now given)) (sym c.in-SysFail.is)
    (subst (λ next. Appends rules c.args.self.now.world c.args.held.system next (Some c.args.held.number)
    (reply_event rules c.args.self.now.world c.args.claim.now reply.SysFail)) (sym c.record_of_refusal.ensures)
    (refusal-appends rules (g.met.R.Rules.lawful c.args.self.now.world.rules) c.args.self.now.world c.world.ensures.safe.safe c.args.claim.now c.args.held
    c.requires.holds
    c.is_refused.result c.is_refused.ensures))

pub returns-in-Lost-clause-appends : goal.returns-in-Lost-clause-appends
returns-in-Lost-clause-appends g c =
    let rules = g.R.Rules.meaning c.args.self.now.world.rules in
    elim c.in-Lost.is [
      | inl is ↦ subst (λ given. Appends rules c.args.self.now.world c.args.held.system c.record_of_refusal-in-Lost.result (Some c.args.held.number)
          (reply_event rules c.args.self.now.world c.args.claim.now given)) (sym is)
          (subst (λ next. Appends rules c.args.self.now.world c.args.held.system next (Some c.args.held.number)
          (reply_event rules c.args.self.now.world c.args.claim.now reply.Lost)) (sym c.record_of_refusal-in-Lost.ensures)
          (lost-appends rules (g.met.R.Rules.lawful c.args.self.now.world.rules) c.args.self.now.world c.world.ensures.safe.safe c.args.claim.now c.args.held
          c.requires.holds))
      | inr busy ↦ absurd (c.requires.other busy)
    ]
