use Rattle.std.proofs.Common.{sym}
use Rattle.inbound_post.proofs.LawLemmas.{posting-IsSaidBy}
use Rattle.inbound_post.proofs.reading.posting.Goals as goal

pub returns-clause-said : goal.returns-clause-said
returns-clause-said c =
    posting-IsSaidBy c.args.model.now c.as_lists-rules.ensures.kept c.args.doc.now c.in_ok-made.made (sym c.in_ok-made.ensures)
