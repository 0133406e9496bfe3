use Rattle.std.specs.Prelude.{option_and_then, position}
use Rattle.std.proofs.Common.{◌≡◌, ℕ, Option, None, ap, sym, ◌∙◌}
use Rattle.ale_base.specs.Text.{is_text}
use Rattle.dist_model.specs.Model.{basic_at, message_named}
use Rattle.dist_model.proofs.LookupLemmas.{message-named, message-none}
use Rattle.dist_model.proofs.model.Model.message.Goals as goal

pub returns-in-Some-clause-named : goal.returns-in-Some-clause-named
returns-in-Some-clause-named c =
    let model = c.self.inside.lists in
    let found : c.basic_at.result ≡ message_named c.args.name.now model =
    c.basic_at.ensures ∙ ap (option_and_then (basic_at model))
    (sym (ap (position (is_text c.args.name.now)) (sym c.self.invariant.1.names) ∙ sym c.place.ensures.place ∙ c.in-Some.is)) in
    rw (← c.self.view_is) (message-named model c.self.invariant.0 c.args.name.now c.basic_at.result found)

pub returns-in-Some-clause-none : goal.returns-in-Some-clause-none
returns-in-Some-clause-none c =
    let model = c.self.inside.lists in
    let found : c.basic_at.result ≡ message_named c.args.name.now model =
    c.basic_at.ensures ∙ ap (option_and_then (basic_at model))
    (sym (ap (position (is_text c.args.name.now)) (sym c.self.invariant.1.names) ∙ sym c.place.ensures.place ∙ c.in-Some.is)) in
    rw (← c.self.view_is) (message-none model c.self.invariant.0 c.args.name.now c.basic_at.result found)

pub returns-in-None-clause-named : goal.returns-in-None-clause-named
returns-in-None-clause-named c =
    let model = c.self.inside.lists in
    let found : ◌≡◌ {A = Option ℕ} None (message_named c.args.name.now model) =
    ap (option_and_then (basic_at model)) (sym (ap (position (is_text c.args.name.now)) (sym c.self.invariant.1.names) ∙ sym c.place.ensures.place
    ∙ c.in-None.is)) in
    rw (← c.self.view_is) (message-named model c.self.invariant.0 c.args.name.now None found)

pub returns-in-None-clause-none : goal.returns-in-None-clause-none
returns-in-None-clause-none c =
    let model = c.self.inside.lists in
    let found : ◌≡◌ {A = Option ℕ} None (message_named c.args.name.now model) =
    ap (option_and_then (basic_at model)) (sym (ap (position (is_text c.args.name.now)) (sym c.self.invariant.1.names) ∙ sym c.place.ensures.place
    ∙ c.in-None.is)) in
    rw (← c.self.view_is) (message-none model c.self.invariant.0 c.args.name.now None found)
