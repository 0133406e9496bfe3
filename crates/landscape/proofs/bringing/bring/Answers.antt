use Rattle.std.specs.Arc.{arc_value}
use Rattle.std.proofs.Common.{◌≡◌, true, None, Some, Err, sym, ap, subst, refl, ◌∙◌, arith}
use Rattle.std.proofs.lemmas.Result.{err_from_is_err_and}
use Rattle.dist_model.specs.declared.lists.Lists.{Lists}
use Rattle.model_growth.specs.Growth.{first_unkept}
use Rattle.unit_core.specs.declared.records.Record.{Record}
use Rattle.said_models.specs.OfLog.{differs, model_of}
use Rattle.trfc_protocol.specs.Legal.{is_model}
use Rattle.document_state.specs.declared.made.Made.TheVariants.{Brought}
use Rattle.landscape.specs.Asked.{asked_model}
use Rattle.landscape.specs.Remodelled.{MayAs}
use Rattle.landscape.specs.steps.Judged.{IsOrNone, IsWanted, WantsModel}
use Rattle.landscape.proofs.JudgedLemmas.{all-kept, by_part, judged-unkept, judged-waiting, model-asked}
use Rattle.landscape.proofs.bringing.bring.Goals as goal

pub returns-in_err-keeps : goal.returns-in_err-keeps
returns-in_err-keeps c = λ stand.
    let log = c.args.log.now in
    let old = c.deref.result.now in
    let new = arc_value c.args.model.now in
    let asked = asked_model log new c.args.text.now in
    let in_force : model_of log ≡ Some old = sym (c.in-Some.ensures log stand) ∙ ap (λ (m : Lists). Some m) (sym c.deref.ensures) in
    let test : differs c.args.text.now log ≡ true = sym c.differs.ensures ∙ c.if-not-differs.false in
    let p = err_from_is_err_and c.from_residual.result c.from_residual.ensures.1 in
    rw (p.1, p.2) (judged-unkept log old new c.args.text.now in_force (Unit {0}) (IsOrNone (WantsModel log asked) asked) test c.in_err-keeps.field-0.0
    (subst (λ (m : Lists). MayAs {T = Unit {0}} (by_part (first_unkept old m)) (Err c.in_err-keeps.field-0.0)) c.deref-2.ensures c.in_err-keeps.ensures))

pub returns-in_err-waiting : goal.returns-in_err-waiting
returns-in_err-waiting c = λ stand.
    let log = c.args.log.now in
    let old = c.deref.result.now in
    let new = arc_value c.args.model.now in
    let asked = asked_model log new c.args.text.now in
    let in_force : model_of log ≡ Some old = sym (c.in-Some.ensures log stand) ∙ ap (λ (m : Lists). Some m) (sym c.deref.ensures) in
    let test : differs c.args.text.now log ≡ true = sym c.differs.ensures ∙ c.if-not-differs.false in
    let kept : first_unkept old new ≡ None =
    all-kept (first_unkept old new) (subst (λ (m : Lists). by_part (first_unkept old m) ≡ None) c.deref-2.ensures c.in_ok-keeps.ensures) in
    let p = err_from_is_err_and c.from_residual-in_err-waiting.result c.from_residual-in_err-waiting.ensures.1 in
    rw (p.1, p.2) (judged-waiting log old new c.args.text.now in_force (Unit {0}) (IsOrNone (WantsModel log asked) asked) test kept
    c.in_err-waiting.field-0.0 (c.in_err-waiting.ensures log stand))

pub returns : goal.returns
returns c = λ stand.
    let log = c.args.log.now in
    let old = c.deref.result.now in
    let new = arc_value c.args.model.now in
    let asked = asked_model log new c.args.text.now in
    let in_force : model_of log ≡ Some old = sym (c.in-Some.ensures log stand) ∙ ap (λ (m : Lists). Some m) (sym c.deref.ensures) in
    let test : differs c.args.text.now log ≡ true = sym c.differs.ensures ∙ c.if-not-differs.false in
    let kept : first_unkept old new ≡ None =
    all-kept (first_unkept old new) (subst (λ (m : Lists). by_part (first_unkept old m) ≡ None) c.deref-2.ensures c.in_ok-keeps.ensures) in
    subst (λ (next : Record). IsWanted log asked is_model next (Brought (Some c.in_ok-shared.field-0))) (sym c.in_ok-record_of.ensures) (record {
      record_asked = model-asked log old new c.args.text.now in_force test kept (c.in_ok-waiting.ensures log stand);
      its_kind = refl;
      goes = ap (λ (m : Lists). Some m) c.in_ok-shared.ensures ∙ sym c.requires.says;
      writable = let short = c.requires.short in omega (arith, short);
    })
