use Rattle.std.proofs.Common.{sym, ap, subst, ◌∙◌, arith}
use Rattle.std.proofs.lemmas.List.{take_all}
use Rattle.std.proofs.lemmas.Result.{IfOk-weaker}
use Rattle.change_pointers.specs.Laws.{AreWaiting}
use Rattle.change_pointers.specs.Pointers.{pending_of}
use Rattle.change_pointers.proofs.LawLemmas.{pending-AreWaiting}
use Rattle.change_pointers.proofs.pointers.Pointers.pending.Goals as goal

pub returns-clause-waiting : goal.returns-clause-waiting
returns-clause-waiting c =
    let message = c.args.message in
    let pointers = c.args.self.now in
    let all = c.loop-pointer.invariant
    ∙ ap (pending_of message) (take_all c.loop-pointer.pointer-index c.as_slice-pointers.result.now (omega arith)
    ∙ c.as_slice-pointers.ensures ∙ c.self.view_is) in
    IfOk-weaker c.list.result _ _
    (λ objects is. subst (AreWaiting message pointers) (sym (is ∙ all)) (pending-AreWaiting message pointers)) c.list.ensures
