use Rattle.std.specs.Prelude.{IfSome}
use Rattle.std.specs.Arc.{arc_value}
use Rattle.std.specs.Option.{option_copied}
use Rattle.std.proofs.Common.{◌≡◌, Option, Some, None, refl, subst, sym, ◌∙◌}
use Rattle.said_models.specs.Readings.{IsAmong}
use Rattle.said_models.specs.Said.{said}
use Rattle.said_models.proofs.ReadingsLemmas.{found-among, found-said}
use Rattle.said_models.proofs.readings.Readings.entered.Goals as goal

pub returns-clause-said : goal.returns-clause-said
returns-clause-said c = of (option_copied c.get.result) refl
  where
    of : (found : Option _) → option_copied c.get.result ≡ found → IfSome found (λ model. said c.args.text.now ≡ Some (arc_value model))
    of None is = tt
    of (Some model) is =
        found-said (λ key. key.items) arc_value c.args.text.now c.self.inside.models.entries model c.self.invariant (sym c.get.ensures.value ∙ is)

pub returns-clause-among : goal.returns-clause-among
returns-clause-among c = of (option_copied c.get.result) refl
  where
    of : (found : Option _) → option_copied c.get.result ≡ found → IfSome found (λ model. IsAmong c.args.self.now c.args.text.now (arc_value model))
    of None is = tt
    of (Some model) is =
        subst (λ readings. IsAmong readings c.args.text.now (arc_value model)) c.self.view_is
        (found-among (λ key. key.items) arc_value c.args.text.now c.self.inside.models.entries model (sym c.get.ensures.value ∙ is))
