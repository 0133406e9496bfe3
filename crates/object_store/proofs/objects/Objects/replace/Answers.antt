use Rattle.std.proofs.Common.{ap, ◌∙◌}
use Rattle.ale_base.proofs.OnOkLemmas.{on_ok}
use Rattle.object_store.specs.Objects.{with_object}
use Rattle.object_store.proofs.objects.Objects.replace.Goals as goal

pub returns-clause-ok : goal.returns-clause-ok
returns-clause-ok c =
    on_ok c.insert_below.result c.insert_below.ensures.ok (λ new. new ∙ ap (with_object c.args.kind.now c.args.key.now c.args.fields) c.self.view_is)
