use Rattle.model_messages.proofs.ReducedLemmas.{entries-apart}
use Rattle.model_messages.proofs.reduced.reduced_of.Goals as goal

pub keep_at-requires-clause-entries : goal.keep_at-requires-clause-entries
keep_at-requires-clause-entries c =
    rw c.entries_at-entries.ensures (entries-apart c.args.definitions.now c.args.types.now c.in_ok-message.basic.now.idoctype c.requires.types)
