use Rattle.std.specs.Prelude.{Contains, option_and_then, position, slice_get}
use Rattle.std.specs.List.{AllByRecursion}
use Rattle.std.proofs.Common.{◌≡◌, Some, None, length, ap, sym, ◌∙◌}
use Rattle.ale_base.specs.Text.{is_text}
use Rattle.dist_model.specs.declared.inbound.Inbound.{Inbound}
use Rattle.dist_model.specs.declared.lists.Lists.{Lists}
use Rattle.dist_model.specs.Model.{all_names, IsModel}
use Rattle.dist_model.proofs.IndexLemmas.{AreNamed-of, inbound-none}
use Rattle.dist_model.proofs.LookupLemmas.{inbound-found}
use Rattle.dist_model.proofs.model.Model.inbound.Goals as goal

named : (model : Lists) → IsModel model → AllByRecursion (λ (profile : Inbound). Contains (all_names model) profile.message) model.inbound
named model is = AreNamed-of (length model.systems) (all_names model) model.inbound is.inbound.each

pub returns-in-None : goal.returns-in-None
returns-in-None c =
    let model = c.self.inside.lists in
    let none : position (is_text c.args.message.now) (all_names model) ≡ None = ap (position (is_text c.args.message.now)) (sym c.self.invariant.1.names)
    ∙ sym c.place.ensures.place ∙ c.in-None.is in
    rw (← c.self.view_is) (sym (inbound-none (all_names model) c.args.receiver c.args.sender c.args.message.now none model.inbound
    (named model c.self.invariant.0)))

pub returns-in-None-place : goal.returns-in-None-place
returns-in-None-place c =
    let model = c.self.inside.lists in
    let here : position (is_text c.args.message.now) (all_names model) ≡ Some c.in-Some.name = ap (position (is_text c.args.message.now))
    (sym c.self.invariant.1.names) ∙ sym c.place.ensures.place ∙ c.in-Some.is in
    rw (← c.self.view_is) (ap (option_and_then (slice_get model.inbound)) (sym c.in-None-place.is)
    ∙ inbound-found (all_names model) c.args.receiver c.args.sender c.in-Some.name c.args.message.now model.inbound c.self.inside.index.inbound
    c.from-receiver.result c.from-sender.result c.place-in-Some.result
    here (named model c.self.invariant.0) c.self.invariant.1.inbound (c.from-receiver.ensures ∙ c.get.ensures.number)
    (c.from-sender.ensures ∙ c.get-in-Some.ensures.number) c.place-in-Some.ensures.place)

pub returns-in-Some-place : goal.returns-in-Some-place
returns-in-Some-place c =
    let model = c.self.inside.lists in
    let here : position (is_text c.args.message.now) (all_names model) ≡ Some c.in-Some.name = ap (position (is_text c.args.message.now))
    (sym c.self.invariant.1.names) ∙ sym c.place.ensures.place ∙ c.in-Some.is in
    rw (← c.self.view_is) (c.get-in-Some-place.ensures ∙ ap (option_and_then (slice_get model.inbound)) (sym c.in-Some-place.is)
    ∙ inbound-found (all_names model) c.args.receiver c.args.sender c.in-Some.name c.args.message.now model.inbound c.self.inside.index.inbound
    c.from-receiver.result c.from-sender.result c.place-in-Some.result
    here (named model c.self.invariant.0) c.self.invariant.1.inbound (c.from-receiver.ensures ∙ c.get.ensures.number)
    (c.from-sender.ensures ∙ c.get-in-Some.ensures.number) c.place-in-Some.ensures.place)
