use Rattle.std.proofs.Common.{◌≡◌, ◌∙◌, Some, sym, ap, subst}
use Rattle.said_models.specs.OfLog.{model_of}
use Rattle.landscape.specs.Asked.{Asked, with_room, asked_send}
use Rattle.landscape.specs.steps.Judged.{JudgedCommits}
use Rattle.landscape.proofs.JudgedLemmas.{send-good}
use Rattle.landscape.proofs.sending.send.Goals as goal

pub returns : goal.returns
returns c log are same =
    let is : model_of log ≡ Some c.deref.result.now = sym (c.in-Some.ensures log are) ∙ ap Some (sym c.deref.ensures) in
    let asks : asked_send log c.args.master.now ≡ with_room log c.in_ok-next.next =
    send-good log c.deref.result.now is c.args.master.now c.in_ok-judge.ensures ∙ ap (with_room log) (sym c.in_ok-next.ensures) in
    subst (λ (asked : Asked). JudgedCommits log asked c.with_room.result) (sym asks) (c.with_room.ensures log are same c.deref.result.now is)
