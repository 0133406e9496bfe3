use Rattle.std.specs.Prelude.{is_some}
use Rattle.std.proofs.Common.{nat_eq, ap, ◌∙◌}
use Rattle.model_messages.proofs.ReducedLemmas.{position-is_some}
use Rattle.model_messages.proofs.keep.is_one_of.Goals as goal

pub returns : goal.returns
returns c = c.is_some.ensures ∙ ap is_some c.place.ensures.place ∙ position-is_some (nat_eq c.args.segment) c.args.types.now
