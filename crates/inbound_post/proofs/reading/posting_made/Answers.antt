use Rattle.std.specs.Prelude.{slice_get}
use Rattle.std.specs.Option.{option_copied}
use Rattle.std.proofs.Common.{sym, ap, ◌∙◌}
use Rattle.inbound_post.proofs.ReadingLemmas.{kind-known}
use Rattle.inbound_post.proofs.reading.posting_made.Goals as goal

pub posting_with-requires-clause-exists : goal.posting_with-requires-clause-exists
posting_with-requires-clause-exists c = kind-known c.args.model.now c.args.message.now.kind c.in-Some.kind.now c.requires.model
    (sym (ap (slice_get c.args.model.now.kinds) c.from.ensures) ∙ sym c.get.ensures ∙ ap option_copied c.in-Some.is)
