use Rattle.std.proofs.Common.{ℕ, sym, ap, ◌∙◌}
use Rattle.std.proofs.lemmas.Option.{slice_get_within}
use Rattle.std.specs.BTreeMap.{get}
use Rattle.multi_queue.specs.Seen.{number_of, numbers_cmp}
use Rattle.multi_queue.proofs.places.place_of.Goals as goal

-- what the table names is there
pub index-unit-requires : goal.index-unit-requires
index-unit-requires c =
    let names = sym (c.in-Some.ensures.value ∙ ap (λ (n : ℕ × ℕ). get numbers_cmp c.args.places.now n) c.number_of-number.ensures) in
    let it = c.requires.placed.there (number_of c.args.tid) c.in-Some.place.now names in
    slice_get_within c.args.units.now c.in-Some.place.now it.0 it.1
