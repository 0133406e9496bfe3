use Rattle.std.proofs.lemmas.List.{drop-replicate}
use Rattle.ale_base.specs.TrimmedLemmas.{trimmed-blanks}
use Rattle.ale_base.proofs.fixed.Fixed.of.Goals as goal

pub returns-clause-text : goal.returns-clause-text
returns-clause-text g c =
    rw (c.copy_from_slice.ensures.after, c.split_at_mut-front.ensures.back, drop-replicate) (trimmed-blanks _ c.args.bytes.now)
