use Rattle.std.specs.Prelude.{position}
use Rattle.std.proofs.Common.{◌≡◌, ◌+◌, ℕ, suc, true, false, List, ◌∷◌, drop, drop-cons, add-one, ap, sym, subst, ◌∙◌}
use Rattle.ale_base.specs.Text.{is_text}
use Rattle.dist_model.specs.declared.message.Message.{Message}
use Rattle.dist_model.specs.Named.{message_name}
use Rattle.dist_model.specs.Message.{message_names}
use Rattle.change_pointers.proofs.RenumberLemmas.{found-here, found-behind}
use Rattle.change_pointers.proofs.renumbering.number_in.Goals as goal

pub returns-then-eq : goal.returns-then-eq
returns-then-eq c =
    let messages = c.as_slice-messages.result.now in
    let place = c.loop-place.place in
    let other = c.index-messages-place.result in
    let name = c.message_name-name.result.now in
    let at = drop-cons messages place other c.loop-place-test.true ∙ ap (λ (m : Message). m ∷ drop (suc place) messages) (sym c.index-messages-place.is) in
    let here : drop place messages ≡ other ∷ drop (place + 1) messages = subst (λ (n : ℕ). drop place messages ≡ other ∷ drop n messages)
    (sym (add-one place)) at in
    let same : is_text name other.name ≡ true = ap (is_text name) (sym c.as_slice.ensures) ∙ sym c.eq.ensures ∙ c.if-eq.true in
    sym (found-here (λ (m : Message). m.name) (is_text name) place messages other here same)
    ∙ c.loop-place.invariant
    ∙ ap (λ (n : List ℕ). position (is_text n) (message_names messages)) c.message_name-name.ensures
    ∙ ap (λ (all : List Message). position (is_text (message_name c.args.before.now c.args.message)) (message_names all)) c.as_slice-messages.ensures

pub loop-place-preserved : goal.loop-place-preserved
loop-place-preserved c =
    let messages = c.as_slice-messages.result.now in
    let place = c.loop-place.place in
    let other = c.index-messages-place.result in
    let name = c.message_name-name.result.now in
    let at = drop-cons messages place other c.loop-place-test.true ∙ ap (λ (m : Message). m ∷ drop (suc place) messages) (sym c.index-messages-place.is) in
    let here : drop place messages ≡ other ∷ drop (place + 1) messages = subst (λ (n : ℕ). drop place messages ≡ other ∷ drop n messages)
    (sym (add-one place)) at in
    let differs : is_text name other.name ≡ false = ap (is_text name) (sym c.as_slice.ensures) ∙ sym c.eq.ensures ∙ c.if-eq.false in
    found-behind (λ (m : Message). m.name) (is_text name) place messages other here differs ∙ c.loop-place.invariant
