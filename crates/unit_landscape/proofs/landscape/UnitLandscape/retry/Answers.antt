use Rattle.std.proofs.Common.{◌≡◌, true, false, refl, ap, sym, subst, ◌∙◌}
use Rattle.unit_core.specs.declared.records.Record.TheVariants as log
use Rattle.trfc_protocol.specs.declared.event.Event.TheVariants as event
use Rattle.trfc_protocol.specs.declared.event.Action.TheVariants.{Append}
use Rattle.trfc_protocol.specs.declared.world.World.{World}
use Rattle.trfc_protocol.specs.Legal.{may_follow}
use Rattle.trfc_protocol.specs.Worlds.{log_of, is_up}
use Rattle.unit_landscape.specs.KeptWorlds.{KeptOf}
use Rattle.unit_landscape.proofs.HappenedLemmas.{disk-seen}
use Rattle.unit_landscape.proofs.OperatingLemmas.{retry-may}
use Rattle.unit_landscape.proofs.landscape.UnitLandscape.retry.Goals as goal

pub asked-requires-clause-may : goal.asked-requires-clause-may
asked-requires-clause-may g c =
    let world = c.self.inside.kept.world in
    let rules = g.R.Rules.meaning c.self.inside.kept.world.rules in
    let up : is_up world c.args.system ≡ true =
    ap (λ (w : World g.row.R.Denot). is_up w c.args.system) (sym c.world.ensures.world) ∙ sym c.is_up.ensures ∙ c.if-not-is_up.false in
    subst (λ (k : KeptOf g.row.R.Denot g.row.A.Denot g.row.V.Denot).
    may_follow (g.R.Rules.meaning k.world.rules) c.args.system (log_of k.world c.args.system) (log.Retry c.args.way c.args.tid) ≡ true) c.self.view_is
    (retry-may rules (g.met.R.Rules.lawful c.self.inside.kept.world.rules) world c.self.invariant.safe c.args.system c.args.way c.args.tid up
    ∙ sym c.is_outstanding.ensures ∙ c.if-not-is_outstanding.false)

pub returns-then-not-is_outstanding-clause-ends : goal.returns-then-not-is_outstanding-clause-ends
returns-then-not-is_outstanding-clause-ends g c =
    let world = c.self.inside.kept.world in
    let rules = g.R.Rules.meaning c.self.inside.kept.world.rules in
    let up : is_up world c.args.system ≡ true =
    ap (λ (w : World g.row.R.Denot). is_up w c.args.system) (sym c.world.ensures.world) ∙ sym c.is_up.ensures ∙ c.if-not-is_up.false in
    subst (λ (k : KeptOf g.row.R.Denot g.row.A.Denot g.row.V.Denot). (is_up k.world c.args.system ≡ true)
    × (may_follow (g.R.Rules.meaning k.world.rules) c.args.system (log_of k.world c.args.system) (log.Retry c.args.way c.args.tid) ≡ false) × (k ≡ k))
    c.self.view_is (
      up,
      retry-may rules (g.met.R.Rules.lawful c.self.inside.kept.world.rules) world c.self.invariant.safe c.args.system c.args.way c.args.tid up
          ∙ sym c.is_outstanding.ensures ∙ c.if-not-is_outstanding.true,
      refl,
    )

pub returns-then-not-is_outstanding-clause-disk : goal.returns-then-not-is_outstanding-clause-disk
returns-then-not-is_outstanding-clause-disk g c =
    disk-seen g.V.Volumes.disk g.met.V.Volumes.only_now
    g.R.Rules.meaning g.met.R.Rules.lawful c.self.inside.kept c.args.self.now c.self.view_is c.self.invariant c.world.ensures.kept.on_volumes
    (λ world. event.Operator (Append c.args.system (log.Retry c.args.way c.args.tid)))
