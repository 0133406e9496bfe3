use Rattle.std.proofs.Common.{List, ap, sym, subst, ◌∙◌}
use Rattle.status_log.specs.declared.status_at.StatusAt.{StatusAt}
use Rattle.status_log.specs.Given.{AreGivenIn, up_to}
use Rattle.outbound_build.specs.Statuses.{codes_of}
use Rattle.outbound_build.proofs.GivenLemmas.{tracked-given, tracked-stood}
use Rattle.outbound_build.proofs.outbound_tables.OutboundTables.statuses.Goals as goal

pub returns-clause-given : goal.returns-clause-given
returns-clause-given c models log are =
    subst (λ (statuses : List StatusAt). AreGivenIn codes_of log statuses) (sym (c.list.ensures ∙ are.statuses c.args.doc.0))
    (tracked-given models log c.args.doc.0)

pub returns-clause-stood : goal.returns-clause-stood
returns-clause-stood c models log count are =
    ap (up_to count) (c.list.ensures ∙ are.statuses c.args.doc.0) ∙ tracked-stood models log c.args.doc.0 count
