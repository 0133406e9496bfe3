use Rattle.std.proofs.Common.{List, ap, sym, subst, ◌∙◌}
use Rattle.status_log.specs.declared.status_at.StatusAt.{StatusAt}
use Rattle.status_log.specs.Given.{AreGivenIn, up_to}
use Rattle.inbound_post.specs.Application.{codes_of}
use Rattle.inbound_post.proofs.GivenLemmas.{applied-given, applied-stood}
use Rattle.inbound_post.proofs.application_tables.ApplicationTables.statuses.Goals as goal

pub returns-clause-given : goal.returns-clause-given
returns-clause-given c models log are =
    subst (λ (statuses : List StatusAt). AreGivenIn (codes_of c.args.doc.0) log statuses) (sym (c.list.ensures ∙ are.statuses c.args.doc.0))
    (applied-given models log c.args.doc.0)

pub returns-clause-stood : goal.returns-clause-stood
returns-clause-stood c models log count are =
    ap (up_to count) (c.list.ensures ∙ are.statuses c.args.doc.0) ∙ applied-stood models log c.args.doc.0 count
