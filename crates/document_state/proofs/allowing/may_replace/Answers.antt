use native.Mathlib.Omega.{arith}
use Rattle.std.proofs.Common.{◌≡◌, ◌∙◌, Some, sym, ap, is_none}
use Rattle.std.specs.Arc.{arc_value}
use Rattle.std.specs.Option.{option_map}
use Rattle.model_growth.specs.Growth.{first_unkept}
use Rattle.said_models.specs.Said.{said}
use Rattle.document_state.specs.Allowed.{may_replace}
use Rattle.document_state.proofs.RoomLemmas.{replaces-said}
use Rattle.document_state.proofs.allowing.may_replace.Goals as goal

pub returns-in-Some : goal.returns-in-Some
returns-in-Some c =
    let says : said c.args.text.now ≡ Some (arc_value c.in-Some.new) = sym c.in_ok-model.ensures.said ∙ ap (option_map arc_value) c.in-Some.is in
    let kept : is_none c.first_unkept.result ≡ may_replace c.args.model.now c.args.text.now =
    ap is_none c.first_unkept.ensures.first
    ∙ ap (λ old. is_none (first_unkept old c.as_lists-in-Some.result.now)) c.as_lists.ensures.same
    ∙ ap (λ new. is_none (first_unkept c.args.model.now new)) (c.as_lists-in-Some.ensures.same ∙ c.deref.ensures)
    ∙ replaces-said c.args.model.now c.args.text.now (arc_value c.in-Some.new) says in
    let by = c.is_none.ensures in
    grind (arith, by, kept)
