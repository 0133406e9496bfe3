use Rattle.std.proofs.Common.{List, ℕ, ◌∙◌}
use Rattle.ale_base.specs.Text.{is_text}
use Rattle.ale_base.specs.declared.change.FieldValue.{FieldValue}
use Rattle.dist_model.proofs.SeenLemmas.{list_any-map}
use Rattle.application_rules.proofs.puts.has_name.Goals as goal

pub returns : goal.returns
returns c =
    c.any_named.ensures ∙ list_any-map (λ (one : FieldValue). one.field) (λ (other : List ℕ). is_text other c.args.name.now) c.args.fields.now
