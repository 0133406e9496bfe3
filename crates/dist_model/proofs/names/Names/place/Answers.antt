use Rattle.std.proofs.Common.{◌∙◌, ap}
use Rattle.std.specs.Prelude.{position}
use Rattle.ale_base.specs.Text.{is_text}
use Rattle.segment_defs.proofs.NameLemmas.{position-map}
use Rattle.dist_model.proofs.names.Names.place.Goals as goal

pub returns-clause-place : goal.returns-clause-place
returns-clause-place c =
    c.get_index_of.ensures.index
    ∙ position-map (λ key. key.items) (is_text c.args.name.now) c.self.inside.set.keys
    ∙ ap (position (is_text c.args.name.now)) c.self.view_is
