use Rattle.std.proofs.Common.{List, map, sym, subst, ap, ◌∙◌}
use Rattle.std.specs.List.{AllZip}
use Rattle.inbound_post.specs.declared.prepared.DocPosting.{DocPosting}
use Rattle.inbound_post.specs.Prepared.{IsByProfile, posting_from}
use Rattle.inbound_post.proofs.PreparedLemmas.{all-by_profile}
use Rattle.inbound_post.proofs.preparing.prepare.Goals as goal

pub returns-clause-profiles : goal.returns-clause-profiles
returns-clause-profiles c =
    let unit = c.args.unit.now in
    subst (λ (postings : List DocPosting). AllZip (IsByProfile c.args.model.now c.args.receiver unit.sender) unit.docs postings)
    (sym (c.in_ok-postings.ensures ∙ ap (map (posting_from c.args.model.now c.args.receiver unit.sender)) c.as_slice.ensures))
    (all-by_profile c.args.model.now c.args.receiver unit.sender unit.docs)
