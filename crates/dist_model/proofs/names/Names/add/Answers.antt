use Rattle.std.proofs.Common.{not, ◌∙◌, ap}
use Rattle.std.specs.List.{list_any}
use Rattle.ale_base.specs.Text.{is_text}
use Rattle.dist_model.proofs.SeenLemmas.{list_any-map}
use Rattle.dist_model.proofs.names.Names.add.Goals as goal

pub returns-clause-new : goal.returns-clause-new
returns-clause-new c =
    let name = c.in_ok-from_slice.field-0 in
    rw (← c.in_ok-from_slice.ensures.items) (c.in_ok-new.ensures.added
    ∙ ap not (list_any-map (λ key. key.items) (is_text name.items) c.self.inside.set.keys ∙ ap (list_any (is_text name.items)) c.self.view_is))
