use Rattle.std.proofs.Common.{◌≡◌, ◌∙◌, Some, Ok, sym, ap, subst}
use Rattle.std.proofs.lemmas.Result.{err_from_is_err_and}
use Rattle.std.specs.Arc.{arc_value}
use Rattle.said_models.specs.OfLog.{model_of}
use Rattle.outbound_build.specs.declared.outbox.Outbox.{Outbox}
use Rattle.document_state.specs.OfLog.{sent_by}
use Rattle.unit_core.specs.declared.records.Record.TheVariants.{Dispatch}
use Rattle.landscape.specs.Asked.{Asked, asked_dispatch, with_room}
use Rattle.landscape.specs.steps.Judged.{JudgedCommitsOrNone}
use Rattle.landscape.proofs.JudgedLemmas.{dispatch-some, refused-or_none}
use Rattle.landscape.proofs.sending.dispatch.Goals as goal

pub returns-in_err-wanted : goal.returns-in_err-wanted
returns-in_err-wanted c log are same =
    let model = arc_value c.in-Some.field-0.now in
    let is : model_of log ≡ Some model = sym (c.in-Some.ensures log are) in
    let asks : asked_dispatch log ≡ with_room log Dispatch = dispatch-some log model is (λ none.
    let outbox = c.outbox.ensures (sent_by log) (c.outbound.ensures log are) in
    let is_none = c.is_empty.ensures.1 (ap (λ (o : Outbox). o.waiting) outbox ∙ none) in
    let isnt = c.if-is_empty.false in
    cc) in
    let p = err_from_is_err_and c.from_residual.result c.from_residual.ensures.1 in
    rw (p.1, p.2) (refused-or_none log (asked_dispatch log) (with_room log Dispatch) c.in_err-wanted.field-0.0 asks (c.in_err-wanted.ensures log are same model is))

pub returns : goal.returns
returns c log are same =
    let model = arc_value c.in-Some.field-0.now in
    let is : model_of log ≡ Some model = sym (c.in-Some.ensures log are) in
    let asks : asked_dispatch log ≡ with_room log Dispatch = dispatch-some log model is (λ none.
    let outbox = c.outbox.ensures (sent_by log) (c.outbound.ensures log are) in
    let is_none = c.is_empty.ensures.1 (ap (λ (o : Outbox). o.waiting) outbox ∙ none) in
    let isnt = c.if-is_empty.false in
    cc) in
    subst (λ (asked : Asked). JudgedCommitsOrNone log asked (Ok (Some c.in_ok-wanted.wanted))) (sym asks) (c.in_ok-wanted.ensures log are same model is)
