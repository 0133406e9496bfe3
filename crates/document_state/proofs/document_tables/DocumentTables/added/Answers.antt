use Rattle.std.specs.Prelude.{IfOk, OnOk}
use Rattle.std.specs.Arc.{arc_value}
use Rattle.std.specs.Option.{option_map}
use Rattle.std.proofs.Common.{◌≡◌, ◌∙◌, ◌≤◌, ℕ, None, Some, sym, ap, subst}
use Rattle.std.proofs.lemmas.Option.{same_Some}
use Rattle.dist_model.specs.declared.lists.Lists.{Lists}
use Rattle.outbound_build.specs.Addressed.{AreMadeFor, AreUnitsAddressed}
use Rattle.outbound_build.specs.Carried.{AreCarried}
use Rattle.outbound_build.specs.declared.added.Added.{Added}
use Rattle.said_models.specs.OfLog.{model_of}
use Rattle.document_state.specs.OfLog.{sent_by}
use Rattle.document_state.proofs.AddressedLemmas.{legal-waits}
use Rattle.document_state.proofs.AddedLemmas.{adds-none, adds-under, units-under}
use Rattle.document_state.proofs.document_tables.DocumentTables.added.Goals as goal

pub returns-in-None-clause-added : goal.returns-in-None-clause-added
returns-in-None-clause-added c log are same =
    c.none_added.ensures ∙ sym (adds-none log c.args.next.now (sym are.model ∙ ap (option_map arc_value) c.in-None.is))

pub returns-in-Some-clause-added : goal.returns-in-Some-clause-added
returns-in-Some-clause-added c log are same =
    let is : model_of log ≡ Some c.deref.result.now = sym are.model ∙ ap (option_map arc_value) c.in-Some.is ∙ ap Some (sym c.deref.ensures) in
    subst (λ (more : Added). IfOk c.added.result (λ added. added ≡ more))
    (adds-under log c.deref.result.now c.args.system c.args.next.now is same) (c.added.ensures.added (sent_by log) are.sent)

pub returns-in-Some-clause-few : goal.returns-in-Some-clause-few
returns-in-Some-clause-few c log are same model found =
    let is : model_of log ≡ Some c.deref.result.now = sym are.model ∙ ap (option_map arc_value) c.in-Some.is ∙ ap Some (sym c.deref.ensures) in
    subst (λ (n : ℕ). OnOk c.added.result (n ≤ 65536))
    (units-under log c.deref.result.now c.args.system c.args.next.now is same) (c.added.ensures.few (sent_by log) are.sent)

pub returns-in-Some-clause-too_many : goal.returns-in-Some-clause-too_many
returns-in-Some-clause-too_many c log are same count failed =
    let is : model_of log ≡ Some c.deref.result.now = sym are.model ∙ ap (option_map arc_value) c.in-Some.is ∙ ap Some (sym c.deref.ensures) in
    let over = c.added.ensures.too_many (sent_by log) are.sent count failed in
    (over.0 ∙ units-under log c.deref.result.now c.args.system c.args.next.now is same, over.1, (c.deref.result.now, is))

pub returns-in-None-clause-made_for : goal.returns-in-None-clause-made_for
returns-in-None-clause-made_for c log are model found =
    let lies : None ≡ Some model = sym (sym are.model ∙ ap (option_map arc_value) c.in-None.is) ∙ found in
    absurd (cc)

pub returns-in-None-clause-addressed : goal.returns-in-None-clause-addressed
returns-in-None-clause-addressed c systems log are legal model found =
    let lies : None ≡ Some model = sym (sym are.model ∙ ap (option_map arc_value) c.in-None.is) ∙ found in
    absurd (cc)

pub returns-in-None-clause-carried : goal.returns-in-None-clause-carried
returns-in-None-clause-carried c log are model found =
    let lies : None ≡ Some model = sym (sym are.model ∙ ap (option_map arc_value) c.in-None.is) ∙ found in
    absurd (cc)

pub returns-in-Some-clause-made_for : goal.returns-in-Some-clause-made_for
returns-in-Some-clause-made_for c log are model found =
    let is : model_of log ≡ Some c.deref.result.now = sym are.model ∙ ap (option_map arc_value) c.in-Some.is ∙ ap Some (sym c.deref.ensures) in
    subst (λ (m : Lists). IfOk c.added.result (λ added. AreMadeFor m c.args.system added.documents))
    (same_Some c.deref.result.now model (sym is ∙ found)) c.added.ensures.made_for

pub returns-in-Some-clause-addressed : goal.returns-in-Some-clause-addressed
returns-in-Some-clause-addressed c systems log are legal model found =
    let is : model_of log ≡ Some c.deref.result.now = sym are.model ∙ ap (option_map arc_value) c.in-Some.is ∙ ap Some (sym c.deref.ensures) in
    subst (λ (m : Lists). IfOk c.added.result (λ added. AreUnitsAddressed m c.args.system added.units))
    (same_Some c.deref.result.now model (sym is ∙ found))
    (c.added.ensures.addressed (sent_by log) are.sent (λ same. legal-waits systems c.args.system log legal c.deref.result.now is))

pub returns-in-Some-clause-carried : goal.returns-in-Some-clause-carried
returns-in-Some-clause-carried c log are model found =
    let is : model_of log ≡ Some c.deref.result.now = sym are.model ∙ ap (option_map arc_value) c.in-Some.is ∙ ap Some (sym c.deref.ensures) in
    subst (λ (m : Lists). IfOk c.added.result (AreCarried m c.args.system (sent_by log).past.outbox.waiting c.args.next.now))
    (same_Some c.deref.result.now model (sym is ∙ found)) (c.added.ensures.carried (sent_by log) are.sent)
