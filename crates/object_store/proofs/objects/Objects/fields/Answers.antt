use Rattle.std.specs.Option.{option_and_then}
use Rattle.std.proofs.Common.{ap, ◌∙◌}
use Rattle.object_store.specs.Texts.{entry_at}
use Rattle.object_store.proofs.objects.Objects.fields.Goals as goal

pub returns-in-None : goal.returns-in-None
returns-in-None c = ap (option_and_then (entry_at c.args.key.now)) (c.in-None.ensures ∙ ap (entry_at c.args.kind.now) c.self.view_is)

pub returns-in-Some : goal.returns-in-Some
returns-in-Some c =
    c.get-in-Some.ensures
    ∙ ap (option_and_then (entry_at c.args.key.now)) (c.in-Some.ensures ∙ ap (entry_at c.args.kind.now) c.self.view_is)
