use Rattle.std.proofs.Common.{◌∙◌}
use Rattle.std.proofs.lemmas.Slice.Eq.{slice_eq-Decides}
use Rattle.std.proofs.lemmas.Bool.Decides.{Decides-eqb}
use Rattle.unit_codec.specs.Entries.{entry_with}
use Rattle.unit_journal.proofs.LookLemmas.{spelled-same}
use Rattle.unit_journal.proofs.comparing.is_entry.Goals as goal

pub returns : goal.returns
returns c =
    spelled-same c.args.entry.now (entry_with c.args.moment c.args.what.now) c.as_slice.result.now c.as_slice-2.result.now c.eq.result
    c.in_ok-one.ensures.has_spelling c.in_ok-other.ensures.has_spelling (c.as_slice.ensures.value ∙ c.in_ok-one.ensures.spelled)
    (c.as_slice-2.ensures.value ∙ c.in_ok-other.ensures.spelled)
    (slice_eq-Decides Decides-eqb c.as_slice.result.now c.as_slice-2.result.now c.eq.result c.eq.ensures)
