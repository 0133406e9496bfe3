use Rattle.std.proofs.Common.{◌≡◌, ◌++◌, map, drop}
use Rattle.inbound_post.specs.Prepared.{posting_from}
use Rattle.inbound_post.proofs.preparing.postings_from.Given as goal

abbrev pub invariant-loop-doc : goal.invariant-loop-doc
invariant-loop-doc l = l.postings ++ map (posting_from l.model l.receiver l.sender) (drop l.doc-index l.docs)
    ≡ map (posting_from l.model l.receiver l.sender) l.docs
