use Rattle.std.specs.Option.{option_map}
use Rattle.std.proofs.Common.{◌≡◌, true, false, refl, sym, ap, subst, ◌∙◌}
use Rattle.std.proofs.lemmas.Option.{none-some}
use Rattle.unit_core.specs.declared.ale_unit.AleUnit.{AleUnit}
use Rattle.trfc_protocol.specs.declared.event.Event.TheVariants as event
use Rattle.trfc_protocol.specs.Worlds.{log_of, is_up, committed_unit}
use Rattle.tid_table.specs.LogTids.{is_known}
use Rattle.unit_landscape.specs.Kept.{IsLandscape}
use Rattle.unit_landscape.specs.Calls.{receiver_of}
use Rattle.unit_landscape.proofs.HappenedLemmas.{disk-seen}
use Rattle.unit_landscape.proofs.ConfirmingLemmas.{receiver-found, done-named, forgotten-by}
use Rattle.unit_landscape.proofs.landscape.UnitLandscape.confirm.Goals as goal

pub unreachable-requires : goal.unreachable-requires
unreachable-requires g c =
    let is = subst (λ k. IsLandscape g.R.Rules.meaning k.world) c.self.view_is c.self.invariant in
    let named = done-named (g.R.Rules.meaning c.args.self.now.world.rules) (g.met.R.Rules.lawful c.args.self.now.world.rules) c.args.self.now.world is.safe
    c.args.tid c.requires.done in
    none-some named.0.receiver (sym c.in_default.is ∙ c.receiver_of.ensures ∙ ap (option_map (λ (unit : AleUnit). unit.receiver)) named.1)

pub returns-then-not-is_known-clause-event : goal.returns-then-not-is_known-clause-event
returns-then-not-is_known-clause-event g c =
    let rules = g.R.Rules.meaning c.args.self.now.world.rules in
    let is = subst (λ k. IsLandscape g.R.Rules.meaning k.world) c.self.view_is c.self.invariant in
    let its : c.in-Some.receiver ≡ receiver_of (g.R.Rules.meaning c.args.self.now.world.rules) c.args.self.now.world c.args.tid =
    receiver-found (committed_unit rules c.args.self.now.world c.args.tid) c.in-Some.receiver (sym c.receiver_of.ensures ∙ c.in-Some.is) in
    let up : is_up c.args.self.now.world c.in-Some.receiver ≡ true =
    sym (c.if-not-is_up.ensures ∙ ap (λ w. is_up w c.in-Some.receiver) c.world-2.ensures.world ∙ ap (λ k. is_up k.world c.in-Some.receiver) c.self.view_is) in
    let forgotten = forgotten-by rules (g.met.R.Rules.lawful c.args.self.now.world.rules) c.args.self.now.world is.safe c.args.tid c.requires.done
    c.in-Some.receiver false its
    (c.if-not-is_known.ensures ∙ ap (λ k. is_known c.args.tid (log_of k.world c.in-Some.receiver)) c.self.view_is) in
    (ap (is_up c.args.self.now.world) (sym its) ∙ up, forgotten, refl)

pub returns-then-not-is_known-clause-disk : goal.returns-then-not-is_known-clause-disk
returns-then-not-is_known-clause-disk g c =
    disk-seen g.V.Volumes.disk g.met.V.Volumes.only_now
    g.R.Rules.meaning g.met.R.Rules.lawful c.self.inside.kept c.args.self.now c.self.view_is c.self.invariant c.world.ensures.kept.on_volumes
    (λ world. event.Confirm c.args.tid)

pub forget-requires : goal.forget-requires
forget-requires g c =
    let rules = g.R.Rules.meaning c.args.self.now.world.rules in
    let is = subst (λ k. IsLandscape g.R.Rules.meaning k.world) c.self.view_is c.self.invariant in
    let its : c.in-Some.receiver ≡ receiver_of (g.R.Rules.meaning c.args.self.now.world.rules) c.args.self.now.world c.args.tid =
    receiver-found (committed_unit rules c.args.self.now.world c.args.tid) c.in-Some.receiver (sym c.receiver_of.ensures ∙ c.in-Some.is) in
    let up : is_up c.args.self.now.world c.in-Some.receiver ≡ true =
    sym (c.if-not-is_up.ensures ∙ ap (λ w. is_up w c.in-Some.receiver) c.world-2.ensures.world ∙ ap (λ k. is_up k.world c.in-Some.receiver) c.self.view_is) in
    let forgotten = forgotten-by rules (g.met.R.Rules.lawful c.args.self.now.world.rules) c.args.self.now.world is.safe c.args.tid c.requires.done
    c.in-Some.receiver true its
    (c.if-not-is_known.ensures ∙ ap (λ k. is_known c.args.tid (log_of k.world c.in-Some.receiver)) c.self.view_is) in
    record { done = c.requires.done; its = its; up = up; known = forgotten }
