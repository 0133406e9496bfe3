use Rattle.std.proofs.Common.{◌+◌, take, ap, ◌∙◌, List, ℕ}
use Rattle.std.proofs.lemmas.List.{take_rest}
use Rattle.model_messages.specs.Reduced.{place_named}
use Rattle.model_messages.proofs.keep.place_split.Goals as goal

pub returns : goal.returns
returns c =
    c.place_named.ensures ∙ ap (λ (field : List ℕ). place_named c.args.definitions.now c.args.types.now (take c.args.dot c.args.text.now) field)
    (take_rest c.args.text.now (c.args.dot + 1))
