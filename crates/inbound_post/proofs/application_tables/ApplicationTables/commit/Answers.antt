use Rattle.std.proofs.Common.{rules, arith}
use Rattle.std.proofs.lemmas.Grind.{common_steps}
use Rattle.inbound_post.specs.Application.{left_by}
use Rattle.inbound_post.proofs.LawLemmas.{takes-up}
use Rattle.inbound_post.proofs.application_tables.ApplicationTables.commit.Goals as goal

pub returns-in-Some-message-clause-takes_up : goal.returns-in-Some-message-clause-takes_up
returns-in-Some-message-clause-takes_up c = λ application are. (
  left_by c.args.model.now c.args.origin.now application.pointers,
  first_of (search rules, grind (arith, common_steps)),
  takes-up c.args.model.now c.as_lists-rules.ensures.kept c.args.origin.now application.pointers,
)

pub returns-in_default-message-clause-takes_up : goal.returns-in_default-message-clause-takes_up
returns-in_default-message-clause-takes_up c = λ application are. (
  left_by c.args.model.now c.args.origin.now application.pointers,
  first_of (search rules, grind (arith, common_steps)),
  takes-up c.args.model.now c.as_lists-rules.ensures.kept c.args.origin.now application.pointers,
)
