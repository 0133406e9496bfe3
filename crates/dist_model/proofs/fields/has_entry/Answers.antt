use Rattle.std.proofs.Common.{◌∙◌}
use Rattle.dist_model.proofs.FieldLemmas.{entry_of_any}
use Rattle.dist_model.proofs.fields.has_entry.Goals as goal

pub returns : goal.returns
returns c = c.any_of.ensures ∙ entry_of_any c.args.entries.now c.args.segment
