use Rattle.std.proofs.Common.{◌≡◌, true, false, not, refl, sym, ap, subst, ◌∙◌}
use Rattle.std.proofs.lemmas.Bool.{not-true, not-false}
use Rattle.unit_core.specs.Filters.{ended_in}
use Rattle.unit_core.specs.Queues.{is_listed}
use Rattle.system_tables.specs.OfLog.{is_unconfirmed}
use Rattle.trfc_protocol.specs.Worlds.{log_of, is_up}
use Rattle.unit_landscape.specs.Kept.{IsLandscape}
use Rattle.unit_landscape.proofs.ConfirmingLemmas.{forgotten-done, done-unconfirmed}
use Rattle.unit_landscape.proofs.landscape.UnitLandscape.ended.Goals as goal

pub returns-then-not-is_unconfirmed-clause-event : goal.returns-then-not-is_unconfirmed-clause-event
returns-then-not-is_unconfirmed-clause-event g c =
    let rules = g.R.Rules.meaning c.args.self.now.world.rules in
    let lawful = g.met.R.Rules.lawful c.args.self.now.world.rules in
    let is = subst (λ k. IsLandscape g.R.Rules.meaning k.world) c.self.view_is c.self.invariant in
    let done = forgotten-done rules lawful c.args.self.now.world is.safe c.args.tid c.requires.forgotten in
    let up : is_up c.args.self.now.world c.args.tid.system ≡ true =
    sym (c.if-not-is_up.ensures ∙ ap (λ w. is_up w c.system-sender.result) c.world-2.ensures.world
    ∙ ap (λ k. is_up k.world c.system-sender.result) c.self.view_is
    ∙ ap (is_up c.args.self.now.world) c.system-sender.ensures) in
    let lasts : false ≡ not (is_listed c.args.tid (ended_in (log_of c.args.self.now.world c.args.tid.system))) =
    c.if-not-is_unconfirmed.ensures ∙ ap (λ k. is_unconfirmed c.args.tid (log_of k.world c.system-sender.result)) c.self.view_is
    ∙ ap (λ s. is_unconfirmed c.args.tid (log_of c.args.self.now.world s)) c.system-sender.ensures
    ∙ done-unconfirmed rules lawful c.args.self.now.world is.safe c.args.tid done in
    (up, not-false (is_listed c.args.tid (ended_in (log_of c.args.self.now.world c.args.tid.system))) (sym lasts), refl)

pub end-requires : goal.end-requires
end-requires g c =
    let rules = g.R.Rules.meaning c.args.self.now.world.rules in
    let lawful = g.met.R.Rules.lawful c.args.self.now.world.rules in
    let is = subst (λ k. IsLandscape g.R.Rules.meaning k.world) c.self.view_is c.self.invariant in
    let done = forgotten-done rules lawful c.args.self.now.world is.safe c.args.tid c.requires.forgotten in
    let lasts : true ≡ not (is_listed c.args.tid (ended_in (log_of c.args.self.now.world c.args.tid.system))) =
    c.if-not-is_unconfirmed.ensures ∙ ap (λ k. is_unconfirmed c.args.tid (log_of k.world c.system-sender.result)) c.self.view_is
    ∙ ap (λ s. is_unconfirmed c.args.tid (log_of c.args.self.now.world s)) c.system-sender.ensures
    ∙ done-unconfirmed rules lawful c.args.self.now.world is.safe c.args.tid done in
    record {
      forgotten = c.requires.forgotten;
      its = c.system-sender.ensures;
      up = sym (c.if-not-is_up.ensures ∙ ap (λ w. is_up w c.system-sender.result) c.world-2.ensures.world
          ∙ ap (λ k. is_up k.world c.system-sender.result) c.self.view_is);
      lasts = subst (λ s. is_listed c.args.tid (ended_in (log_of c.args.self.now.world s)) ≡ false) (sym c.system-sender.ensures)
          (not-true (is_listed c.args.tid (ended_in (log_of c.args.self.now.world c.args.tid.system))) (sym lasts));
    }
