-- What is cleared, what waits and what is carried over, in other words.
use Rattle.std.specs.declared.cmp.Ordering.{Ordering}
use Rattle.std.specs.declared.cmp.Ordering.TheVariants.{Less, Equal, Greater}
use Rattle.std.specs.Cmp.{IsTotalOrder, nat_cmp_total, on_total, then_total}
use Rattle.std.specs.Cmp.Lexicographic.{lists_total, slice_cmp}
use Rattle.std.specs.List.{AllByRecursion, cons_option, filter_map}
use Rattle.std.specs.List.Sorted.{IsStrictlySortedBy}
use Rattle.std.specs.Option.{option_map, option_map_or}
use Rattle.std.specs.Ordering.{match_ordering, nat_cmp, ordering_reverse}
use Rattle.std.specs.Prelude.{Contains, filter, fold, length, not, slice_get, ◌==◌, ◌⊎◌}
use Rattle.std.proofs.Common.{◌≡◌, ℕ, Bool, true, false, Option, Some, None, List, [], ◌∷◌, map, inl, inr, refl, sym, ap, subst, ◌∙◌, arith}
use Rattle.std.proofs.lemmas.Bool.{cond-false, cond-true, eq-eqb, eqb-true}
use Rattle.std.proofs.lemmas.Map.Lookups.{exact_bytes, exact_pairs}
use Rattle.std.proofs.lemmas.Option.{slice_get-map}
use Rattle.ale_base.proofs.ListLemmas.{AllByRecursion-at, Contains-at}
use Rattle.ale_base.proofs.MemberLemmas.{Contains-cons, Contains-filter, Contains-filter_back, Contains-here, Contains-map, Contains-map_back, Contains-nil}
use Rattle.ale_base.proofs.MemberLemmas.{Contains-there}
use Rattle.ale_base.proofs.OptionLemmas.{option_map-Some}
use Rattle.segment_defs.proofs.NameLemmas.{position-name, position-none}
use Rattle.dist_model.specs.declared.lists.Lists.{Lists}
use Rattle.dist_model.specs.declared.message.Message.{Message}
use Rattle.dist_model.specs.Message.{IsMessage, message_names}
use Rattle.dist_model.specs.Model.{IsModel}
use Rattle.change_pointers.specs.declared.pointer.ObjectKey.{ObjectKey}
use Rattle.change_pointers.specs.declared.pointer.Pointer.{Pointer}
use Rattle.dist_model.specs.Named.{message_name}
use Rattle.change_pointers.specs.Laws.{AreNamesakes, AreWaiting, ClearsAlone, FollowNames, IsAwaited}
use Rattle.change_pointers.specs.Pointers.{cleared, is_of, object_cmp, object_of, pending_of, with_object}
use Rattle.change_pointers.specs.Renumbered.{number_in, renumbered}

-- what is cleared is of the message type, and what stays is not
pub clears-alone : (message : ℕ) (pointers : List Pointer) → ClearsAlone message pointers (cleared message pointers)
clears-alone message [] = record { gone = []; parts = (refl, refl); own = tt; others = tt }
clears-alone message (pointer ∷ pointers) = step (is_of message pointer) refl (clears-alone message pointers)
  where
    step : (b : Bool) → is_of message pointer ≡ b → ClearsAlone message pointers (cleared message pointers)
        → ClearsAlone message (pointer ∷ pointers) (filter (λ p. not (is_of message p)) (pointer ∷ pointers))
    step true is rest =
        subst (ClearsAlone message (pointer ∷ pointers))
        (sym (cond-false (not (is_of message pointer)) (pointer ∷ cleared message pointers) (cleared message pointers) (ap not is)))
        (record {
          gone = pointer ∷ rest.gone;
          parts = inl (rest.gone, refl, rest.parts);
          own = (eqb-true pointer.message message is, rest.own);
          others = rest.others;
        })
    step false is rest =
        subst (ClearsAlone message (pointer ∷ pointers))
        (sym (cond-true (not (is_of message pointer)) (pointer ∷ cleared message pointers) (cleared message pointers) (ap not is)))
        (record {
          gone = rest.gone;
          parts = inr (cleared message pointers, refl, rest.parts);
          own = rest.own;
          others = (λ same. other_of (eq-eqb pointer.message message same) is, rest.others);
        })
      where
        other_of : pointer.message == message ≡ true → pointer.message == message ≡ false → ⊥
        other_of one two = cc

-- the order of objects is total
objects_total : IsTotalOrder object_cmp
objects_total =
    then_total (on_total (λ (o : ObjectKey). o.kind) (lists_total nat_cmp_total)) (on_total (λ (o : ObjectKey). o.key) (lists_total nat_cmp_total))

-- one that is not before another is behind it
turned : (order other : Ordering) → order ≡ ordering_reverse other → order ≡ Greater → other ≡ Less
turned order Less is more = refl
turned order Equal is more = absurd (cc)
turned order Greater is more = absurd (cc)

-- objects behind one that is behind another are behind that
below-all : (new other : ObjectKey) (objects : List ObjectKey) → object_cmp new other ≡ Less → AllByRecursion (λ o. object_cmp other o ≡ Less) objects
    → AllByRecursion (λ o. object_cmp new o ≡ Less) objects
below-all new other [] less all = tt
below-all new other (object ∷ objects) less all = (objects_total.trans new other object less all.0, below-all new other objects less all.1)

-- what is added to objects that are behind one is behind it too
below-with : (first new : ObjectKey) (objects : List ObjectKey) → object_cmp first new ≡ Less → AllByRecursion (λ o. object_cmp first o ≡ Less) objects
    → AllByRecursion (λ o. object_cmp first o ≡ Less) (with_object objects new)
below-with first new [] less all = (less, tt)
below-with first new (object ∷ objects) less all = step (object_cmp new object) (below-with first new objects less all.1)
  where
    step : (order : Ordering) → AllByRecursion (λ o. object_cmp first o ≡ Less) (with_object objects new)
        → AllByRecursion (λ o. object_cmp first o ≡ Less)
        (match_ordering order (new ∷ object ∷ objects) (object ∷ objects) (object ∷ with_object objects new))
    step Less rest = (less, all)
    step Equal rest = all
    step Greater rest = (all.0, rest)

-- objects in order with one more are in order
sorted-with : (objects : List ObjectKey) (new : ObjectKey) → IsStrictlySortedBy object_cmp objects → IsStrictlySortedBy object_cmp (with_object objects new)
unfolding IsStrictlySortedBy
sorted-with [] new sorted = (tt, tt)
sorted-with (object ∷ objects) new sorted = step (object_cmp new object) refl (sorted-with objects new sorted.1)
  where
    step : (order : Ordering) → object_cmp new object ≡ order → IsStrictlySortedBy object_cmp (with_object objects new)
        → IsStrictlySortedBy object_cmp (match_ordering order (new ∷ object ∷ objects) (object ∷ objects) (object ∷ with_object objects new))
    step Less is rest = ((is, below-all new object objects is sorted.0), sorted)
    step Equal is rest = sorted
    step Greater is rest =
        (below-with object new objects (turned (object_cmp new object) (object_cmp object new) (objects_total.antisymm new object) is) sorted.0, rest)

-- objects that compare alike are one
same_object : (a b : ObjectKey) → object_cmp a b ≡ Equal → a ≡ b
same_object a b same =
    ap (λ (p : List ℕ × List ℕ). record { kind = p.0; key = p.1 })
    (exact_pairs (slice_cmp nat_cmp) (slice_cmp nat_cmp) exact_bytes exact_bytes (a.kind, a.key) (b.kind, b.key) same)

-- one more object is among them, with the others
with-Contains : (objects : List ObjectKey) (new object : ObjectKey) → Contains (with_object objects new) object → (new ≡ object) ⊎ Contains objects object
with-Contains [] new object among = elim (Contains-cons new [] object among) [
  | inl here ↦ inl here
  | inr there ↦ inr there
]
with-Contains (first ∷ objects) new object among = step (object_cmp new first) (with-Contains objects new object) among
  where
    step : (order : Ordering) → (Contains (with_object objects new) object → (new ≡ object) ⊎ Contains objects object)
        → Contains (match_ordering order (new ∷ first ∷ objects) (first ∷ objects) (first ∷ with_object objects new)) object
        → (new ≡ object) ⊎ Contains (first ∷ objects) object
    step Less rest among = Contains-cons new (first ∷ objects) object among
    step Equal rest among = inr among
    step Greater rest among = elim (Contains-cons first (with_object objects new) object among) [
      | inl here ↦ inr (subst (Contains (first ∷ objects)) here (Contains-here first objects))
      | inr there ↦ elim (rest there) [
        | inl same ↦ inl same
        | inr behind ↦ inr (Contains-there first objects object behind)
      ]
    ]

Contains-with : (objects : List ObjectKey) (new object : ObjectKey) → (new ≡ object) ⊎ Contains objects object → Contains (with_object objects new) object
Contains-with [] new object (inl same) = subst (Contains (new ∷ [])) same (Contains-here new [])
Contains-with [] new object (inr among) = Contains-there new [] object among
Contains-with (first ∷ objects) new object one = step (object_cmp new first) refl (Contains-with objects new object) one
  where
    step : (order : Ordering) → object_cmp new first ≡ order → ((new ≡ object) ⊎ Contains objects object → Contains (with_object objects new) object)
        → (new ≡ object) ⊎ Contains (first ∷ objects) object
        → Contains (match_ordering order (new ∷ first ∷ objects) (first ∷ objects) (first ∷ with_object objects new)) object
    step Less is rest (inl same) = subst (Contains (new ∷ first ∷ objects)) same (Contains-here new (first ∷ objects))
    step Less is rest (inr among) = Contains-there new (first ∷ objects) object among
    step Equal is rest (inl same) = subst (Contains (first ∷ objects)) (sym (same_object new first is) ∙ same) (Contains-here first objects)
    step Equal is rest (inr among) = among
    step Greater is rest (inl same) = Contains-there first (with_object objects new) object (rest (inl same))
    step Greater is rest (inr among) = elim (Contains-cons first objects object among) [
      | inl here ↦ subst (Contains (first ∷ with_object objects new)) here (Contains-here first (with_object objects new))
      | inr there ↦ Contains-there first (with_object objects new) object (rest (inr there))
    ]

-- some objects that are added
all-sorted : (more objects : List ObjectKey) → IsStrictlySortedBy object_cmp objects → IsStrictlySortedBy object_cmp (fold with_object objects more)
all-sorted [] objects sorted = sorted
all-sorted (new ∷ more) objects sorted = all-sorted more (with_object objects new) (sorted-with objects new sorted)

all-Contains : (more objects : List ObjectKey) (object : ObjectKey) → Contains (fold with_object objects more) object
    → Contains more object ⊎ Contains objects object
all-Contains [] objects object among = inr among
all-Contains (new ∷ more) objects object among = elim (all-Contains more (with_object objects new) object among) [
  | inl there ↦ inl (Contains-there new more object there)
  | inr with ↦ elim (with-Contains objects new object with) [
    | inl same ↦ inl (subst (Contains (new ∷ more)) same (Contains-here new more))
    | inr before ↦ inr before
  ]
]

Contains-all : (more objects : List ObjectKey) (object : ObjectKey) → Contains more object ⊎ Contains objects object
    → Contains (fold with_object objects more) object
Contains-all [] objects object (inl among) = absurd (Contains-nil object among)
Contains-all [] objects object (inr among) = among
Contains-all (new ∷ more) objects object (inl among) = elim (Contains-cons new more object among) [
  | inl same ↦ Contains-all more (with_object objects new) object (inr (Contains-with objects new object (inl same)))
  | inr there ↦ Contains-all more (with_object objects new) object (inl there)
]
Contains-all (new ∷ more) objects object (inr among) =
    Contains-all more (with_object objects new) object (inr (Contains-with objects new object (inr among)))

none-sorted : IsStrictlySortedBy object_cmp []
unfolding IsStrictlySortedBy
none-sorted = tt

-- the objects that wait
pub pending-AreWaiting : (message : ℕ) (pointers : List Pointer) → AreWaiting message pointers (pending_of message pointers)
pending-AreWaiting message pointers = record {
  ascending = all-sorted (map object_of (filter (is_of message) pointers)) [] none-sorted;
  each = λ object. (awaited object, waits object);
}
  where
    awaited : (object : ObjectKey) → Contains (pending_of message pointers) object → IsAwaited message pointers object
    awaited object among = elim (all-Contains (map object_of (filter (is_of message) pointers)) [] object among) [
      | inr none ↦ absurd (Contains-nil object none)
      | inl named ↦
          let found = Contains-map_back object_of (filter (is_of message) pointers) object named in
          let own = Contains-filter_back (is_of message) pointers found.0 found.1 in
          record {
            pointer = found.0;
            among = own.0;
            of_message = eqb-true found.0.message message own.1;
            kind = ap (λ (o : ObjectKey). o.kind) found.2;
            key = ap (λ (o : ObjectKey). o.key) found.2;
          }
    ]

    waits : (object : ObjectKey) → IsAwaited message pointers object → Contains (pending_of message pointers) object
    waits object is =
        let own = Contains-filter (is_of message) pointers is.pointer is.among (eq-eqb is.pointer.message message is.of_message) in
        let same : object_of is.pointer ≡ object
        = ap (λ kind. record { kind = kind; key = is.pointer.key }) is.kind ∙ ap (λ key. record { kind = object.kind; key = key }) is.key in
        Contains-all (map object_of (filter (is_of message) pointers)) [] object
        (inl (subst (Contains (map object_of (filter (is_of message) pointers))) same
        (Contains-map object_of (filter (is_of message) pointers) is.pointer own)))

module _ (before after : Lists) (kept : IsModel after) where
  -- a message type that has a number there has a namesake there
  number-namesake : (message other : ℕ) → number_in before after message ≡ Some other → AreNamesakes before message after other
  number-namesake message other found =
      let named = position-name (message_name before message) (message_names after.messages) other found in
      let there = option_map-Some (λ (m : Message). m.name) (slice_get after.messages other) (message_name before message)
      (sym (slice_get-map (λ (m : Message). m.name) after.messages other) ∙ named) in
      by_type (slice_get before.messages message) refl there.0 there.1 there.2
    where
      by_type : (o : Option Message) → slice_get before.messages message ≡ o → (namesake : Message) → slice_get after.messages other ≡ Some namesake
          → namesake.name ≡ message_name before message → AreNamesakes before message after other
      by_type None here namesake there named =
          let is : IsMessage after.definitions after.types after.kinds namesake
          = AllByRecursion-at (IsMessage after.definitions after.types after.kinds) after.messages other namesake kept.messages.each there in
          let bare : namesake.name ≡ [] = named ∙ ap (λ o. option_map_or (λ (m : Message). m.name) o []) here in
          absurd (omega (arith, is.named.least, ap length bare))
      by_type (Some type) here namesake there named =
          record {
            type = type;
            here = here;
            namesake = namesake;
            there = there;
            named = named ∙ ap (λ o. option_map_or (λ (m : Message). m.name) o []) here;
          }

  -- one that has none there has no namesake
  no-namesake : (message : ℕ) → number_in before after message ≡ None → (other : ℕ) → AreNamesakes before message after other → ⊥
  no-namesake message none other are =
      let name_is : message_name before message ≡ are.type.name = ap (λ o. option_map_or (λ (m : Message). m.name) o []) are.here in
      let named : slice_get (message_names after.messages) other ≡ Some (message_name before message)
      = slice_get-map (λ (m : Message). m.name) after.messages other ∙ ap (option_map (λ (m : Message). m.name)) are.there
      ∙ ap Some (are.named ∙ sym name_is) in
      (position-none (message_name before message) (message_names after.messages)).0 none
      (Contains-at (message_names after.messages) other (message_name before message) named)

  -- pointers go by the names of their message types
  pub renumbered-follow : (pointers : List Pointer) → FollowNames before after pointers (filter_map (renumbered before after) pointers)
  renumbered-follow [] = record { kept = []; gone = []; parts = (refl, refl); carried = tt; lost = tt }
  renumbered-follow (pointer ∷ pointers) = step (number_in before after pointer.message) refl (renumbered-follow pointers)
    where
      step : (o : Option ℕ) → number_in before after pointer.message ≡ o
          → FollowNames before after pointers (filter_map (renumbered before after) pointers)
          → FollowNames before after (pointer ∷ pointers) (filter_map (renumbered before after) (pointer ∷ pointers))
      step None is rest =
          subst (λ o. FollowNames before after (pointer ∷ pointers) (cons_option o (filter_map (renumbered before after) pointers)))
          (sym (ap (option_map (λ (message : ℕ). record pointer { message = message })) is))
          (record {
            kept = rest.kept;
            gone = pointer ∷ rest.gone;
            parts = inr (rest.gone, refl, rest.parts);
            carried = rest.carried;
            lost = (no-namesake pointer.message is, rest.lost);
          })
      step (Some other) is rest =
          subst (λ o. FollowNames before after (pointer ∷ pointers) (cons_option o (filter_map (renumbered before after) pointers)))
          (sym (ap (option_map (λ (message : ℕ). record pointer { message = message })) is))
          (record {
            kept = pointer ∷ rest.kept;
            gone = rest.gone;
            parts = inl (rest.kept, refl, rest.parts);
            carried = (record { kind = refl; key = refl; field = refl; message = number-namesake pointer.message other is }, rest.carried);
            lost = rest.lost;
          })
