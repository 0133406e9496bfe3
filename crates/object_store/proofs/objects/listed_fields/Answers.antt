use Rattle.std.specs.Map.Iter.{deref_pair}
use Rattle.std.proofs.Common.{rules, ◌≡◌, map, ap, ◌∙◌}
use Rattle.std.proofs.lemmas.Map.Iter.{iter_end}
use Rattle.object_store.specs.Objects.{listed_field}
use Rattle.object_store.proofs.EntryLemmas.{map-by_text}
use Rattle.object_store.proofs.objects.listed_fields.Goals as goal

pub returns : goal.returns
returns c =
    let whole : map deref_pair c.loop-field.yielded ≡ c.iter-field-items.result = search (rules, iter_end) in
    record {
      listed = c.loop-field.invariant
          ∙ ap (map (λ entry. listed_field (entry.0.items, entry.1))) whole
          ∙ map-by_text (λ key. key.items) listed_field c.iter-field-items.result
          ∙ ap (map listed_field) c.iter-field-items.ensures.all;
      ascending = c.iter-field-items.ensures.ascending;
    }
