-- The order of a listing, from the order of the texts under which the objects are kept.
use Rattle.std.specs.declared.cmp.Ordering.{Ordering}
use Rattle.std.specs.declared.cmp.Ordering.TheVariants.{Less}
use Rattle.std.specs.Ordering.{nat_cmp, ordering_then}
use Rattle.std.specs.Cmp.{IsTotalOrder, nat_cmp_total, tied_itself}
use Rattle.std.specs.Cmp.Lexicographic.{slice_cmp, lists_total}
use Rattle.std.specs.List.{AllByRecursion}
use Rattle.std.specs.List.Sorted.{IsStrictlySortedBy}
use Rattle.std.specs.Map.{keys_of}
use Rattle.std.proofs.Common.{◌≡◌, ℕ, List, [], ◌∷◌, ◌++◌, map, ap, ◌∙◌}
use Rattle.std.proofs.lemmas.List.Concat.{flat_map-cons}
use Rattle.ale_base.proofs.ListLemmas.{AllByRecursion-append, AllByRecursion-map, AllByRecursion-flat_map, AllByRecursion-of, AllByRecursion-weaker}
use Rattle.ale_base.proofs.ListLemmas.{AllByRecursion-from_map}
use Rattle.object_store.specs.declared.object.Object.{Object}
use Rattle.object_store.specs.Texts.{IsAscending}
use Rattle.object_store.specs.Objects.{Fields, IsAscendingKind, ObjectsOf, OfKind, listed, listed_field, listed_object}
use Rattle.object_store.specs.Listing.{IsInOrder, by_kind_and_key, by_name}
use Rattle.object_store.proofs.EntryLemmas.{by_text}

texts_total : IsTotalOrder (slice_cmp nat_cmp)
texts_total = lists_total nat_cmp_total

-- keys that ascend by their texts, as the texts alone
pub by_text-ascending : {K X : Type 0} (f : K → List ℕ) (entries : List (K × X)) → IsStrictlySortedBy (λ a b. slice_cmp nat_cmp (f a) (f b)) (keys_of entries)
    → IsAscending (by_text f entries)
unfolding IsStrictlySortedBy
by_text-ascending f [] sorted = tt
by_text-ascending {K = K} {X = X} f (entry ∷ entries) sorted = (below entries sorted.0, by_text-ascending f entries sorted.1)
  where
    below : (others : List (K × X)) → AllByRecursion (λ key. slice_cmp nat_cmp (f entry.0) (f key) ≡ Less) (keys_of others)
        → AllByRecursion (λ text. slice_cmp nat_cmp (f entry.0) text ≡ Less) (keys_of (by_text f others))
    below [] all = tt
    below (other ∷ others) all = (all.0, below others all.1)

-- what is made of entries in the order of their texts is in an order that goes by these
sorted-map : {X A : Type 0} (compare : A → A → Ordering) (f : List ℕ × X → A)
    → ((a b : List ℕ × X) → slice_cmp nat_cmp a.0 b.0 ≡ Less → compare (f a) (f b) ≡ Less)
    → (entries : List (List ℕ × X)) → IsAscending entries → IsStrictlySortedBy compare (map f entries)
unfolding IsStrictlySortedBy
sorted-map compare f less [] sorted = tt
sorted-map {X = X} compare f less (entry ∷ entries) sorted = (below entries sorted.0, sorted-map compare f less entries sorted.1)
  where
    below : (others : List (List ℕ × X)) → AllByRecursion (λ text. slice_cmp nat_cmp entry.0 text ≡ Less) (keys_of others)
        → AllByRecursion (λ other. compare (f entry) other ≡ Less) (map f others)
    below [] all = tt
    below (other ∷ others) all = (less entry other all.0, below others all.1)

-- a list in order, before another one all of which is behind it
sorted-append : {A : Type 0} (compare : A → A → Ordering) (xs ys : List A) → IsStrictlySortedBy compare xs
    → AllByRecursion (λ x. AllByRecursion (λ y. compare x y ≡ Less) ys) xs → IsStrictlySortedBy compare ys → IsStrictlySortedBy compare (xs ++ ys)
unfolding IsStrictlySortedBy
sorted-append compare [] ys one before other = other
sorted-append compare (x ∷ xs) ys one before other =
    (AllByRecursion-append (λ y. compare x y ≡ Less) xs ys one.0 before.0, sorted-append compare xs ys one.1 before.1 other)

-- the fields of an object are listed by name
listed_fields-sorted : (fields : Fields) → IsAscending fields → IsStrictlySortedBy by_name (map listed_field fields)
listed_fields-sorted fields sorted = sorted-map by_name listed_field (λ a b less. less) fields sorted

-- the objects of a kind are listed by key
listed_kind-sorted : (kind : List ℕ) (objects : OfKind) → IsAscending objects → IsStrictlySortedBy by_kind_and_key (map (listed_object kind) objects)
listed_kind-sorted kind objects sorted =
    sorted-map by_kind_and_key (listed_object kind)
    (λ a b less. ap (λ order. ordering_then order (slice_cmp nat_cmp a.0 b.0)) (tied_itself texts_total kind) ∙ less) objects sorted

-- an object is listed before all of the kinds that are behind its own
before-kinds : (kind key : List ℕ) (fields : Fields) (objects : ObjectsOf) → AllByRecursion (λ other. slice_cmp nat_cmp kind other ≡ Less) (keys_of objects)
    → AllByRecursion (λ other. by_kind_and_key (listed_object kind (key, fields)) other ≡ Less) (listed objects)
before-kinds kind key fields objects all =
    (AllByRecursion-flat_map (λ other. by_kind_and_key (listed_object kind (key, fields)) other ≡ Less) (λ entry. map (listed_object entry.0) entry.1)
    objects).0
    (AllByRecursion-weaker _ _ objects
    (λ entry less. AllByRecursion-map (λ other. by_kind_and_key (listed_object kind (key, fields)) other ≡ Less) (listed_object entry.0) entry.1
    (AllByRecursion-of (λ other. by_kind_and_key (listed_object kind (key, fields)) (listed_object entry.0 other) ≡ Less)
    (λ other. ap (λ order. ordering_then order (slice_cmp nat_cmp key other.0)) less) entry.1))
    (AllByRecursion-from_map (λ other. slice_cmp nat_cmp kind other ≡ Less) (λ entry. entry.0) objects all))

-- all objects are listed by kind and key
listed-sorted : (objects : ObjectsOf) → IsAscending objects → AllByRecursion (λ entry. IsAscendingKind entry.1) objects
    → IsStrictlySortedBy by_kind_and_key (listed objects)
unfolding IsStrictlySortedBy
listed-sorted [] sorted each = tt
listed-sorted (entry ∷ objects) sorted each =
    rw flat_map-cons (sorted-append by_kind_and_key (map (listed_object entry.0) entry.1) (listed objects)
    (listed_kind-sorted entry.0 entry.1 each.0.keys)
    (AllByRecursion-map (λ x. AllByRecursion (λ y. by_kind_and_key x y ≡ Less) (listed objects)) (listed_object entry.0) entry.1
    (AllByRecursion-of (λ object. AllByRecursion (λ y. by_kind_and_key (listed_object entry.0 object) y ≡ Less) (listed objects))
    (λ object. before-kinds entry.0 object.0 object.1 objects sorted.0) entry.1))
    (listed-sorted objects sorted.1 each.1))

-- the listing of objects that are kept in order is in order
pub listed-IsInOrder : (objects : ObjectsOf) → IsAscending objects → AllByRecursion (λ entry. IsAscendingKind entry.1) objects → IsInOrder (listed objects)
listed-IsInOrder objects sorted each = record {
  objects = listed-sorted objects sorted each;
  fields = (AllByRecursion-flat_map (λ (object : Object). IsStrictlySortedBy by_name object.fields) (λ entry. map (listed_object entry.0) entry.1) objects).0
      (AllByRecursion-weaker _ _ objects
      (λ entry kind. AllByRecursion-map (λ (object : Object). IsStrictlySortedBy by_name object.fields) (listed_object entry.0) entry.1
      (AllByRecursion-weaker _ _ entry.1 (λ object names. listed_fields-sorted object.1 names) kind.names)) each);
}
