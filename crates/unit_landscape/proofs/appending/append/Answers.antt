use Rattle.std.proofs.Common.{None, inr, sym, ap, ◌∙◌, arith}
use Rattle.trfc_protocol.specs.declared.event.Event.TheVariants.{Fall}
use Rattle.trfc_protocol.specs.Worlds.{is_up}
use Rattle.trfc_protocol.proofs.WorldLemmas.{is_up-known, state_of-most}
use Rattle.unit_landscape.specs.Appending.{at}
use Rattle.unit_landscape.proofs.EventLemmas.{event-up}
use Rattle.unit_landscape.proofs.EndsLemmas.{landscape-step, falls-up, overflowed, was-full}
use Rattle.unit_landscape.proofs.appending.append.Goals as goal

pub fall-requires-clause-up : goal.fall-requires-clause-up
fall-requires-clause-up g c =
    let world = c.args.kept.now.world in
    let rules = g.R.Rules.meaning c.args.kept.now.world.rules in
    let due = c.requires.due in
    ap (λ k. is_up k.world c.args.system) (was-full rules g.V.Volumes.disk c.args.kept.now c.record.new.kept due.event
    (at c.args.system c.args.next) c.record.result
    c.in-Err-Full.field-0 c.in-Err-Full.size c.in-Err-Full.is c.in-Err-Full.field-0-is (c.record.ensures.ends due.event due.appends)).same
    ∙ event-up rules (g.met.R.Rules.lawful c.args.kept.now.world.rules) world c.requires.landscape.safe c.requires.landscape.writable due.event c.args.system
    c.args.next
    c.args.claim due.appends

pub returns-in-Err-Full-clause-landscape : goal.returns-in-Err-Full-clause-landscape
returns-in-Err-Full-clause-landscape g c =
    let world = c.args.kept.now.world in
    let rules = g.R.Rules.meaning c.args.kept.now.world.rules in
    let due = c.requires.due in
    let up = ap (λ k. is_up k.world c.args.system)
    (was-full rules g.V.Volumes.disk c.args.kept.now c.record.new.kept due.event (at c.args.system c.args.next) c.record.result
    c.in-Err-Full.field-0 c.in-Err-Full.size c.in-Err-Full.is c.in-Err-Full.field-0-is (c.record.ensures.ends due.event due.appends)).same
    ∙ event-up rules (g.met.R.Rules.lawful c.args.kept.now.world.rules) world c.requires.landscape.safe c.requires.landscape.writable due.event c.args.system
    c.args.next
    c.args.claim due.appends in
    landscape-step g.R.Rules.meaning g.met.R.Rules.lawful c.record.new.kept.world c.fall.new.self.world (Fall c.args.system None) c.record.ensures.landscape
    (c.fall.ensures.world ∙ sym (falls-up (g.R.Rules.meaning c.record.new.kept.world.rules) c.record.new.kept.world c.args.system up))

pub returns-in-Err-Full-clause-ends : goal.returns-in-Err-Full-clause-ends
returns-in-Err-Full-clause-ends g c = λ e does.
    let world = c.args.kept.now.world in
    let rules = g.R.Rules.meaning c.args.kept.now.world.rules in
    let law = g.met.R.Rules.lawful c.args.kept.now.world.rules in
    let up = event-up rules law world c.requires.landscape.safe c.requires.landscape.writable e c.args.system c.args.next c.args.claim does in
    let known = is_up-known world c.args.system up in
    let within = state_of-most world.systems c.args.system known.0 known.1 in
    let all = c.requires.landscape.safe.systems in
    let few = law.systems_most in
    inr (overflowed rules g.V.Volumes.disk c.args.kept.now c.record.new.kept c.fall.new.self c.args.system c.args.next c.in-Err-Full.size up
    (was-full rules g.V.Volumes.disk c.args.kept.now c.record.new.kept e (at c.args.system c.args.next) c.record.result
    c.in-Err-Full.field-0 c.in-Err-Full.size c.in-Err-Full.is c.in-Err-Full.field-0-is (c.record.ensures.ends e does))
    c.fall.ensures.world c.fall.ensures.journals c.fall.ensures.vols c.fall.ensures.causes c.world.ensures.kept.causes (omega arith))
