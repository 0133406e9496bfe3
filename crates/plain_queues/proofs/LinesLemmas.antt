-- The lines of queues: there is but one list of them.
use Rattle.std.specs.Cmp.{IsTotalOrder}
use Rattle.std.specs.List.{AllByRecursion}
use Rattle.std.specs.List.Sorted.{IsStrictlySortedBy}
use Rattle.std.specs.declared.cmp.Ordering.TheVariants.{Less}
use Rattle.std.proofs.Common.{◌≡◌, true, false, ◌||◌, List, [], ◌∷◌, length, inl, inr, refl, sym, ap, ◌∙◌}
use Rattle.std.proofs.lemmas.Bool.{cases_Bool, both_ways, false_from_ne_true, or_cases, or_from, or_left}
use Rattle.std.proofs.lemmas.Cmp.{tied_itself, nat_cmp_total, nat_list_cmp_total, on_total, then_total}
use Rattle.std.proofs.lemmas.List.Elements.{All-contains, All-from_recursion, recursion_from_All}
use Rattle.std.proofs.lemmas.Map.Keys.{sorted_head, sorted_tail}
use Rattle.std.proofs.lemmas.Option.{same_Some}
use Rattle.ale_base.proofs.MemberLemmas.{list_any-found}
use Rattle.plain_queues.specs.declared.queue_count.QueueCount.{QueueCount}
use Rattle.plain_queues.specs.declared.queue_key.QueueKey.{QueueKey}
use Rattle.plain_queues.specs.Keys.{is_key, has_key}
use Rattle.plain_queues.specs.Queues.{QueuesOf, in_queue}
use Rattle.plain_queues.specs.Status.{status_of}
use Rattle.plain_queues.specs.Lines.{key_cmp, keys_of, IsLineOf, AreLinesOf}
use Rattle.plain_queues.proofs.OfferedLemmas.{is_key-same, is_key-true}

keys-total : IsTotalOrder key_cmp
keys-total = then_total (on_total (λ (key : QueueKey). key.partner) nat_cmp_total) (on_total (λ (key : QueueKey). key.name) nat_list_cmp_total)

not-below_itself : (key : QueueKey) → key_cmp key key ≡ Less → ⊥
not-below_itself key below = let tied = tied_itself keys-total key in cc

-- a key is not among those that are above it
not-above : (key : QueueKey) (keys : List QueueKey) → AllByRecursion (λ other. key_cmp key other ≡ Less) keys → has_key key keys ≡ false
not-above key [] above = refl
not-above key (k ∷ ks) above =
    or_from (is_key k key) (has_key key ks)
    (false_from_ne_true (is_key k key) (λ same. not-below_itself key (ap (key_cmp key) (sym (is_key-true k key same)) ∙ above.0)))
    (not-above key ks above.1)

-- a key among those that are above one is above it
above-one : (low key : QueueKey) (keys : List QueueKey) → AllByRecursion (λ other. key_cmp low other ≡ Less) keys → has_key key keys ≡ true →
    key_cmp low key ≡ Less
above-one low key keys above has =
    let found = list_any-found (λ (other : QueueKey). is_key other key) keys has in
    ap (key_cmp low) (sym (is_key-true found.0 key found.2))
    ∙ All-contains (λ other. key_cmp low other ≡ Less) keys found.0 (All-from_recursion (λ other. key_cmp low other ≡ Less) keys above) found.1

-- ascending keys that are the same ones are the same list
same-keys : (xs ys : List QueueKey) → IsStrictlySortedBy key_cmp xs → IsStrictlySortedBy key_cmp ys → ((key : QueueKey) → has_key key xs ≡ has_key key ys) →
    xs ≡ ys
same-keys [] [] up_x up_y same = refl
same-keys [] (y ∷ ys) up_x up_y same = absurd (both_ways (has_key y (y ∷ ys)) (sym (same y)) (or_left (is_key y y) (has_key y ys) (is_key-same y)))
same-keys (x ∷ xs) [] up_x up_y same = absurd (both_ways (has_key x (x ∷ xs)) (same x) (or_left (is_key x x) (has_key x xs) (is_key-same x)))
same-keys (x ∷ xs) (y ∷ ys) up_x up_y same =
    let above_x = sorted_head key_cmp x xs up_x in
    let above_y = sorted_head key_cmp y ys up_y in
    let there_x : has_key x (y ∷ ys) ≡ true = sym (same x) ∙ or_left (is_key x x) (has_key x xs) (is_key-same x) in
    let there_y : has_key y (x ∷ xs) ≡ true = same y ∙ or_left (is_key y y) (has_key y ys) (is_key-same y) in
    let first : x ≡ y = elim (or_cases (is_key y x) (has_key x ys) there_x) [
      | inl its ↦ sym (is_key-true y x its)
      | inr behind_y ↦ elim (or_cases (is_key x y) (has_key y xs) there_y) [
        | inl its ↦ is_key-true x y its
        | inr behind_x ↦ absurd (not-below_itself x (keys-total.trans x y x (above-one x y xs above_x behind_x) (above-one y x ys above_y behind_y)))
      ]
    ] in
    let behind : (key : QueueKey) → has_key key xs ≡ has_key key ys = λ key. elim (cases_Bool (is_key x key)) [
      | inl its ↦
          let e : key ≡ x = sym (is_key-true x key its) in
          ap (λ k. has_key k xs) e ∙ not-above x xs above_x ∙ sym (ap (λ k. has_key k ys) (e ∙ first) ∙ not-above y ys above_y)
      | inr other ↦
          sym (ap (λ b. b || has_key key xs) other) ∙ same key ∙ ap (λ b. b || has_key key ys) (ap (λ k. is_key k key) (sym first) ∙ other)
    ] in
    let rest = same-keys xs ys (sorted_tail key_cmp x xs up_x) (sorted_tail key_cmp y ys up_y) behind in
    ap (λ k. k ∷ xs) first ∙ ap (λ ks. y ∷ ks) rest

same-lines : (queues : QueuesOf) (xs ys : List QueueCount) → keys_of xs ≡ keys_of ys → AllByRecursion (IsLineOf queues) xs →
    AllByRecursion (IsLineOf queues) ys → xs ≡ ys
same-lines queues [] [] same each_x each_y = refl
same-lines queues [] (y ∷ ys) same each_x each_y = absurd (cc)
same-lines queues (x ∷ xs) [] same each_x each_y = absurd (cc)
same-lines queues (x ∷ xs) (y ∷ ys) same each_x each_y =
    let key : x.key ≡ y.key = cc in
    let keys : keys_of xs ≡ keys_of ys = cc in
    let count : x.count ≡ y.count = each_x.0.count ∙ ap (λ k. length (in_queue k queues)) key ∙ sym each_y.0.count in
    let status : x.status ≡ y.status = same_Some x.status y.status (sym each_x.0.status ∙ ap (λ k. status_of k queues) key ∙ each_y.0.status) in
    let rest = same-lines queues xs ys keys each_x.1 each_y.1 in
    λ i. record { key = key i; count = count i; status = status i } ∷ rest i

-- lines of the same queues are the same list
pub AreLinesOf-same : (queues : QueuesOf) (xs ys : List QueueCount) → AreLinesOf queues xs → AreLinesOf queues ys → xs ≡ ys
AreLinesOf-same queues xs ys are_x are_y =
    same-lines queues xs ys (same-keys (keys_of xs) (keys_of ys) are_x.ascending are_y.ascending (λ key. are_x.listed key ∙ sym (are_y.listed key)))
    (recursion_from_All (IsLineOf queues) xs are_x.each) (recursion_from_All (IsLineOf queues) ys are_y.each)
