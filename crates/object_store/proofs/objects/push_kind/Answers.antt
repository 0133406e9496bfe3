use Rattle.std.specs.List.{AllByRecursion}
use Rattle.std.specs.Map.Iter.{deref_pair}
use Rattle.std.proofs.Common.{rules, ◌≡◌, ◌++◌, map, ap, subst, ◌∙◌}
use Rattle.std.proofs.lemmas.Map.Iter.{iter_end}
use Rattle.ale_base.proofs.ListLemmas.{AllByRecursion-map}
use Rattle.object_store.specs.Objects.{listed_object}
use Rattle.object_store.specs.Texts.{IsAscending}
use Rattle.object_store.proofs.EntryLemmas.{map-by_text}
use Rattle.object_store.proofs.objects.push_kind.Goals as goal

pub returns : goal.returns
returns c =
    let whole : map deref_pair c.loop-key.yielded ≡ c.iter-key-items.result = search (rules, iter_end) in
    let kind = c.args.kind.now in
    record {
      listed = c.loop-key.invariant.listed
          ∙ ap (λ objects. c.args.list.now ++ objects)
          (ap (map (λ entry. listed_object kind (entry.0.items, entry.1))) whole
          ∙ map-by_text (λ key. key.items) (listed_object kind) c.iter-key-items.result
          ∙ ap (map (listed_object kind)) c.iter-key-items.ensures.all);
      ascending = record {
        keys = c.iter-key-items.ensures.ascending;
        names = subst (AllByRecursion (λ entry. IsAscending entry.1)) c.iter-key-items.ensures.all
            (AllByRecursion-map (λ entry. IsAscending entry.1) (λ entry. (entry.0.items, entry.1)) c.iter-key-items.result
            (subst (AllByRecursion (λ entry. IsAscending entry.1)) whole c.loop-key.invariant.ascending));
      };
    }
