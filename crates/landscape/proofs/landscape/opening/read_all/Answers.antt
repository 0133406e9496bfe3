use Rattle.std.proofs.Common.{◌≡◌, suc, ◌+◌, ◌∙◌, ap, arith, length, sym, subst}
use Rattle.std.proofs.lemmas.Result.{err_from_is_err_and}
use Rattle.trfc_protocol.specs.declared.world.World.{World}
use Rattle.document_state.specs.declared.model_rules.ModelRules.{ModelRules}
use Rattle.landscape.specs.steps.Opening.{AreOpened, OpensAs}
use Rattle.landscape.proofs.OpeningLemmas.{opened-none, opens-at}
use Rattle.landscape.proofs.landscape.opening.read_all.Goals as goal

pub read_next-requires-clause-next : goal.read_next-requires-clause-next
read_next-requires-clause-next g c =
    let so_far = c.loop-number.invariant in
    let all = so_far.all in let here = so_far.opened in let test = c.loop-number-test.true in omega arith

pub read_next-requires-clause-number : goal.read_next-requires-clause-number
read_next-requires-clause-number g c = let so_far = c.loop-number.invariant in c.system_at.ensures ∙ ap suc (sym so_far.opened)

pub loop-number-init : goal.loop-number-init
loop-number-init g c =
    opened-none g.V.Volumes.disk c.args.systems c.args.text.now c.args.moment c.args.vols g.met.V.Volumes.only_now c.new-opening.result
    (ap (λ (w : World ModelRules). w.rules.systems) c.new-opening.ensures.world ∙ c.new.ensures)
    (ap (λ (w : World ModelRules). length w.systems) c.new-opening.ensures.world) c.new-opening.ensures.count c.new-opening.ensures.moment
    c.new-opening.ensures.vols

pub returns-in_err-opening : goal.returns-in_err-opening
returns-in_err-opening g c =
    let p = err_from_is_err_and c.from_residual.result c.from_residual.ensures.1 in
    rw (p.1, p.2) (subst (OpensAs g.V.Volumes.disk c.args.systems c.args.text.now c.args.moment c.args.vols (suc c.loop-number.number)) c.in_err-opening.was
    (opens-at g.V.Volumes.disk c.args.text.now c.loop-number.opening c.read_next.result
    c.read_next.ensures c.args.systems c.loop-number.number c.args.moment c.args.vols c.loop-number.invariant))

pub loop-number-preserved : goal.loop-number-preserved
loop-number-preserved g c =
    let more : suc c.loop-number.number ≡ c.loop-number.number + 1 = omega arith in
    subst (λ k. AreOpened g.V.Volumes.disk c.args.systems c.args.text.now c.args.moment c.args.vols k c.in_ok-opening.opening) more
    (subst (OpensAs g.V.Volumes.disk c.args.systems c.args.text.now c.args.moment c.args.vols (suc c.loop-number.number)) c.in_ok-opening.was
    (opens-at g.V.Volumes.disk c.args.text.now c.loop-number.opening c.read_next.result
    c.read_next.ensures c.args.systems c.loop-number.number c.args.moment c.args.vols c.loop-number.invariant))

pub returns : goal.returns
returns g c =
    let done : c.loop-number.number ≡ c.args.systems = (let test = c.loop-number-test.false in let end = c.loop-number.auto.number-end in omega arith) in
    subst (λ k. AreOpened g.V.Volumes.disk c.args.systems c.args.text.now c.args.moment c.args.vols k c.loop-number.opening) done c.loop-number.invariant
