use Rattle.std.specs.Prelude.{slice_index_or}
use Rattle.std.specs.Option.{option_copied}
use Rattle.std.proofs.Common.{◌≡◌, ◌-◌, ℕ, Option, None, List, refl, sym, ap, ◌∙◌}
use Rattle.unit_journal.specs.OnDisk.{moments_of, entries_of, entries_at, rest_at}
use Rattle.unit_journal.specs.Looking.{entries_found}
use Rattle.unit_journal.proofs.OrderLemmas.{moments-entries}
use Rattle.unit_journal.proofs.journals.SystemJournals.compared.Goals as goal

pub returns : goal.returns
returns c = record {
  is_of = refl;
  opened = refl;
  moments =
      let parts = c.in_ok-moments.ensures in
      sym (ap moments_of (sym parts.1) ∙ moments-entries c.in_ok-moments.moments c.in_ok-moments._log parts.0);
  written = c.in_ok-found.ensures.0;
  same =
      let place = c.args.system - 1 in
      let at : c.get.result - 1 ≡ place = ap (λ (n : ℕ). n - 1) c.get.ensures.number in
      let rest = option_copied c.args.rest in
      let is = c.in_ok-found.found in
      sym c.as_slice.ensures ∙ c.in_ok-found.ensures.1
      ∙ ap (λ (l : List (Option ℕ)). entries_found is (entries_of l c.args.log.now) (slice_index_or c.args.self.now.rests (c.get.result - 1) None) rest)
      c.moments.ensures
      ∙ ap (λ (n : ℕ). entries_found is (entries_at c.args.self.now place c.args.log.now) (rest_at c.args.self.now n) rest) at;
}
