use Rattle.std.specs.List.{AllByRecursion, flat_map}
use Rattle.std.specs.Map.Iter.{deref_pair}
use Rattle.std.proofs.Common.{rules, ◌≡◌, map, sym, ap, subst, ◌∙◌}
use Rattle.std.proofs.lemmas.Map.Iter.{iter_end}
use Rattle.ale_base.proofs.ListLemmas.{AllByRecursion-map}
use Rattle.object_store.specs.Listing.{IsInOrder}
use Rattle.object_store.specs.Objects.{IsAscendingKind, listed, listed_object}
use Rattle.object_store.proofs.EntryLemmas.{flat_map-by_text}
use Rattle.object_store.proofs.OrderLemmas.{listed-IsInOrder}
use Rattle.object_store.proofs.objects.Objects.list.Goals as goal

pub returns : goal.returns
returns c =
    let whole : map deref_pair c.loop-kind.yielded ≡ c.iter-kind-items.result = search (rules, iter_end) in
    let all = c.loop-kind.invariant.listed
    ∙ ap (flat_map (λ entry. map (listed_object entry.0.items) entry.1)) whole
    ∙ flat_map-by_text (λ key. key.items) (λ entry. map (listed_object entry.0) entry.1) c.iter-kind-items.result
    ∙ ap listed c.iter-kind-items.ensures.all in
    record {
      all = all ∙ ap listed c.self.view_is;
      in_order = subst IsInOrder (sym all)
          (listed-IsInOrder c.self.inside.kinds c.iter-kind-items.ensures.ascending
          (subst (AllByRecursion (λ entry. IsAscendingKind entry.1)) c.iter-kind-items.ensures.all
          (AllByRecursion-map (λ entry. IsAscendingKind entry.1) (λ entry. (entry.0.items, entry.1)) c.iter-kind-items.result
          (subst (AllByRecursion (λ entry. IsAscendingKind entry.1)) whole c.loop-kind.invariant.ascending))));
    }
