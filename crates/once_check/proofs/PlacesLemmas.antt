-- The places that units take in their queues, by counts, and what they say of prefixes.
use Rattle.std.specs.Prelude.{filter, slice_get, Contains, All}
use Rattle.std.specs.Option.{unwrap_or}
use Rattle.std.proofs.Common.{◌≡◌, ℕ, zero, suc, ◌+◌, ◌-◌, ◌<◌, ◌≤◌, Bool, true, cond, Option, Some, None, List, [], ◌∷◌, ◌++◌}
use Rattle.std.proofs.Common.{length, map, take, drop, inl, inr, refl, sym, ap, subst, ◌∙◌, arith, append_assoc}
use Rattle.std.proofs.lemmas.Bool.{cases_Bool, cond-true, both_ways}
use Rattle.std.proofs.lemmas.List.{length-append, take_at, drop_at}
use Rattle.std.proofs.lemmas.List.Elements.{filter-append, All-head, All-tail}
use Rattle.std.proofs.lemmas.Option.{get_or_from_slice_get}
use Rattle.ale_base.specs.Prefix.{IsPrefix}
use Rattle.ale_base.specs.QueueName.{IsQueueName}
use Rattle.ale_base.proofs.MemberLemmas.{Contains-here, Contains-there, filter-kept, filter-left_out}
use Rattle.unit_core.specs.declared.ale_unit.AleUnit.{AleUnit}
use Rattle.unit_core.specs.declared.queue.Queue.{Queue}
use Rattle.unit_core.specs.declared.queue.Queue.TheVariants.{Outbound}
use Rattle.unit_core.specs.Queues.{in_queue, stands_in, tids_of, is_listed}
use Rattle.unit_core.specs.Once.{NoneTwice}
use Rattle.unit_core.proofs.TidLemmas.{is_among-Contains, is_among-listed, NoneTwice-filter}
use Rattle.unit_core.specs.Systems.{of_system}
use Rattle.once_check.specs.steps.Places.{KeyOf, key_of, count_at, places_by, places_behind, IsCounted, AreCountsOf, ArePlacesOf, AreAllPlacesOf, places_of}
use Rattle.ale_base.proofs.ListLemmas.{place_of, split_at, slice_get_push}
use Rattle.once_check.proofs.SystemsLemmas.{AreMadeOf, at_each_place}

-- ---- counts

-- no units are counted at first
pub AreCountsOf-none : (counts : KeyOf → Option ℕ) → ((key : KeyOf) → counts key ≡ None) → AreCountsOf [] counts
AreCountsOf-none counts none = record {
  counts_are = λ sender receiver name proper. ap (λ (o : Option ℕ). unwrap_or o 0) (none (key_of sender receiver name));
}

length_kept : (p : AleUnit → Bool) (units : List AleUnit) (unit : AleUnit) → length (filter p (units ++ unit ∷ [])) ≡ length (filter p units) + cond (p unit) 1 0
length_kept p units unit =
    elim (cases_Bool (p unit)) [
      | inl kept ↦ ap (λ us. length us) (filter-kept p units unit kept) ∙ length-append (filter p units) (unit ∷ [])
          ∙ sym (ap (λ b. length (filter p units) + cond b 1 0) kept)
      | inr out ↦ ap (λ us. length us) (filter-left_out p units unit out) ∙ plus_none (length (filter p units))
          ∙ sym (ap (λ b. length (filter p units) + cond b 1 0) out)
    ]
  where
    plus_none : (n : ℕ) → n ≡ n + 0
    plus_none n = omega arith

-- the counts with one unit more
pub AreCountsOf-more : (units : List AleUnit) (unit : AleUnit) (before after : KeyOf → Option ℕ) → AreCountsOf units before → IsCounted unit before after
    → AreCountsOf (units ++ unit ∷ []) after
AreCountsOf-more units unit before after are counted = record {
  counts_are = λ sender receiver name proper.
      counted.counts sender receiver name proper
      ∙ ap (λ n. n + cond (stands_in (Outbound sender receiver name) unit) 1 0) (are.counts_are sender receiver name proper)
      ∙ sym (length_kept (stands_in (Outbound sender receiver name)) units unit);
}

map_agree : (f g : List ℕ → ℕ) (names : List (List ℕ)) → All IsQueueName names → ((name : List ℕ) → IsQueueName name → f name ≡ g name) → map f names ≡ map g names
map_agree f g [] proper agree = refl
map_agree f g (n ∷ ns) proper agree =
    let here : f n ≡ g n = agree n (All-head IsQueueName n ns proper) in
    let rest : map f ns ≡ map g ns = map_agree f g ns (All-tail IsQueueName n ns proper) agree in
    ap (λ m. m ∷ map f ns) here ∙ ap (λ ms. g n ∷ ms) rest

-- by the counts of units, a unit takes the places behind them
pub places_by-counts : (units : List AleUnit) (counts : KeyOf → Option ℕ) (unit : AleUnit) → AreCountsOf units counts → All IsQueueName unit.outq
    → places_by counts unit ≡ places_behind units unit
places_by-counts units counts unit are proper =
    map_agree (λ name. count_at counts (key_of unit.sender unit.receiver name))
    (λ name. length (in_queue (Outbound unit.sender unit.receiver name) units)) unit.outq proper
    (λ name its. are.counts_are unit.sender unit.receiver name its)

length_filter : (p : AleUnit → Bool) (units : List AleUnit) → length (filter p units) ≤ length units
length_filter p [] = omega arith
length_filter p (u ∷ us) =
    elim (cases_Bool (p u)) [
      | inl kept ↦ rw kept (omega (arith, length_filter p us))
      | inr out ↦ rw out (omega (arith, length_filter p us))
    ]

-- a count is at most the number of units
pub counts-few : (units : List AleUnit) (counts : KeyOf → Option ℕ) (most : ℕ) → AreCountsOf units counts → length units < most
    → (sender receiver : ℕ) (name : List ℕ) → IsQueueName name → count_at counts (key_of sender receiver name) < most
counts-few units counts most are few sender receiver name proper =
    omega (arith, are.counts_are sender receiver name proper, length_filter (stands_in (Outbound sender receiver name)) units, few)

all_map : (P : ℕ → Type 0) (f : List ℕ → ℕ) (names : List (List ℕ)) → All IsQueueName names → ((name : List ℕ) → IsQueueName name → P (f name)) → All P (map f names)
all_map P f [] proper each = λ k d within. absurd (omega arith)
all_map P f (n ∷ ns) proper each = each_at (f n) (map f ns) (each n (All-head IsQueueName n ns proper)) (all_map P f ns (All-tail IsQueueName n ns proper) each)
  where
    each_at : (x : ℕ) (xs : List ℕ) → P x → All P xs → All P (x ∷ xs)
    each_at x xs here rest zero d within = here
    each_at x xs here rest (suc k) d within = rest k d (omega arith)

-- so the places that a unit takes are few
pub places_by-few : (counts : KeyOf → Option ℕ) (unit : AleUnit) (most : ℕ) → All IsQueueName unit.outq
    → ((sender receiver : ℕ) (name : List ℕ) → IsQueueName name → count_at counts (key_of sender receiver name) + 1 < most)
    → All (λ place. place + 1 < most) (places_by counts unit)
places_by-few counts unit most proper few =
    all_map (λ place. place + 1 < most) (λ name. count_at counts (key_of unit.sender unit.receiver name)) unit.outq proper
    (λ name its. few unit.sender unit.receiver name its)

-- ---- places

slice_get_front : {A : Type 0} (xs ys : List A) (k : ℕ) (y : A) → slice_get xs k ≡ Some y → slice_get (xs ++ ys) k ≡ Some y
slice_get_front [] ys k y at = cc
slice_get_front (x ∷ xs) ys zero y at = at
slice_get_front (x ∷ xs) ys (suc k) y at = slice_get_front xs ys k y at

slice_get_last : {A : Type 0} (xs : List A) (y : A) → slice_get (xs ++ y ∷ []) (length xs) ≡ Some y
slice_get_last [] y = refl
slice_get_last (x ∷ xs) y = slice_get_last xs y

take_front : {A : Type 0} (xs ys : List A) (k : ℕ) (y : A) → slice_get xs k ≡ Some y → take k (xs ++ ys) ≡ take k xs
take_front [] ys k y at = cc
take_front (x ∷ xs) ys zero y at = refl
take_front (x ∷ xs) ys (suc k) y at = ap (λ zs. x ∷ zs) (take_front xs ys k y at)

-- no places of no units
pub ArePlacesOf-none : ArePlacesOf [] []
ArePlacesOf-none = record { all = refl; places_are = λ k unit at. cc }

-- the places with one unit more
pub ArePlacesOf-more : (units : List AleUnit) (unit : AleUnit) (places : List (List ℕ)) (more : List ℕ) → ArePlacesOf units places
    → more ≡ places_behind units unit → ArePlacesOf (units ++ unit ∷ []) (places ++ more ∷ [])
ArePlacesOf-more units unit places more are its = record {
  all = length-append places (more ∷ []) ∙ ap (λ n. n + 1) are.all ∙ sym (length-append units (unit ∷ []));
  places_are = λ k u at. elim (slice_get_push units unit k u at) [
    | inl before ↦ slice_get_front places (more ∷ []) k (places_behind (take k units) u) (are.places_are k u before)
        ∙ ap (λ us. Some (places_behind us u)) (sym (take_front units (unit ∷ []) k u before))
    | inr last ↦
        let place : k ≡ length places = last.0 ∙ sym are.all in
        let front : take k (units ++ unit ∷ []) ≡ units = take_at units (unit ∷ []) k (sym last.0) in
        ap (slice_get (places ++ more ∷ [])) place ∙ slice_get_last places more ∙ ap Some its
        ∙ ap (λ us. Some (places_behind us unit)) (sym front) ∙ ap (λ v. Some (places_behind (take k (units ++ unit ∷ [])) v)) last.1
  ];
}

-- the places of a unit that was committed are those behind the units that were committed before it
pub places_of-committed : (committed : ℕ → List AleUnit) (places : List (List (List ℕ))) (unit : AleUnit)
    → ArePlacesOf (committed unit.sender) (of_system places unit.sender) → slice_get (committed unit.sender) (unit.tid.unit - 1) ≡ Some unit
    → places_of places unit ≡ places_behind (take (unit.tid.unit - 1) (committed unit.sender)) unit
places_of-committed committed places unit are at =
    get_or_from_slice_get (of_system places unit.sender) (unit.tid.unit - 1) (places_behind (take (unit.tid.unit - 1) (committed unit.sender)) unit) []
    (are.places_are (unit.tid.unit - 1) unit at)

-- ---- prefixes

-- fronts of the same length are the same
same_front : (front rest other behind : List AleUnit) → front ++ rest ≡ other ++ behind → length front ≡ length other → (front ≡ other) × (rest ≡ behind)
same_front front rest other behind same long = (
  sym (take_at front rest (length other) long) ∙ ap (take (length other)) same ∙ take_at other behind (length other) refl,
  sym (drop_at front rest (length other) long) ∙ ap (drop (length other)) same ∙ drop_at other behind (length other) refl,
)

-- a unit that stands in a list in which no id stands twice has one place there
same_place : (front rest before behind : List AleUnit) (unit : AleUnit) → NoneTwice (tids_of (before ++ unit ∷ behind))
    → front ++ unit ∷ rest ≡ before ++ unit ∷ behind → length front ≡ length before
same_place [] rest [] behind unit none same = refl
same_place [] rest (b ∷ bs) behind unit none same =
    let first : unit ≡ b = cc in
    absurd (both_ways (is_listed b.tid (tids_of (bs ++ unit ∷ behind))) none.0
    (subst (λ (u : AleUnit). is_listed u.tid (tids_of (bs ++ unit ∷ behind)) ≡ true) first
    (sym (is_among-listed unit.tid (bs ++ unit ∷ behind)) ∙ is_among-Contains unit (bs ++ unit ∷ behind) (there bs behind unit))))
  where
    there : (xs ys : List AleUnit) (u : AleUnit) → Contains (xs ++ u ∷ ys) u
    there [] ys u = Contains-here u ys
    there (x ∷ xs) ys u = Contains-there x (xs ++ u ∷ ys) u (there xs ys u)
same_place (f ∷ fs) rest [] behind unit none same =
    let tail : fs ++ unit ∷ rest ≡ behind = cc in
    absurd (both_ways (is_listed unit.tid (tids_of behind)) none.0
    (subst (λ us. is_listed unit.tid (tids_of us) ≡ true) tail
    (sym (is_among-listed unit.tid (fs ++ unit ∷ rest)) ∙ is_among-Contains unit (fs ++ unit ∷ rest) (there fs rest unit))))
  where
    there : (xs ys : List AleUnit) (u : AleUnit) → Contains (xs ++ u ∷ ys) u
    there [] ys u = Contains-here u ys
    there (x ∷ xs) ys u = Contains-there x (xs ++ u ∷ ys) u (there xs ys u)
same_place (f ∷ fs) rest (b ∷ bs) behind unit none same =
    let tail : fs ++ unit ∷ rest ≡ bs ++ unit ∷ behind = cc in
    ap suc (same_place fs rest bs behind unit none.1 tail)

-- of the units of a queue, those before a unit, the unit, and those behind it
queue_parts : (queue : Queue) (units : List AleUnit) (k : ℕ) (unit : AleUnit) → slice_get units k ≡ Some unit → stands_in queue unit ≡ true
    → in_queue queue units ≡ in_queue queue (take k units) ++ unit ∷ in_queue queue (drop (k + 1) units)
queue_parts queue units k unit at stands =
    ap (in_queue queue) (split_at units k unit at)
    ∙ filter-append (stands_in queue) (take k units) (unit ∷ drop (k + 1) units)
    ∙ ap (λ us. in_queue queue (take k units) ++ us)
    (cond-true (stands_in queue unit) (unit ∷ in_queue queue (drop (k + 1) units)) (in_queue queue (drop (k + 1) units)) stands)

-- a unit that takes the place in a queue which it has there goes on with the prefix
pub prefix-by_place : (queue : Queue) (units front : List AleUnit) (k : ℕ) (unit : AleUnit) → slice_get units k ≡ Some unit → stands_in queue unit ≡ true
    → IsPrefix front (in_queue queue units) → length front ≡ length (in_queue queue (take k units)) → IsPrefix (front ++ unit ∷ []) (in_queue queue units)
prefix-by_place queue units front k unit at stands prefix long =
    let parts = queue_parts queue units k unit at stands in
    let split = same_front front prefix.0 (in_queue queue (take k units)) (unit ∷ in_queue queue (drop (k + 1) units)) (prefix.1 ∙ parts) long in (
      in_queue queue (drop (k + 1) units),
      append_assoc front (unit ∷ []) (in_queue queue (drop (k + 1) units))
          ∙ ap (λ us. us ++ unit ∷ in_queue queue (drop (k + 1) units)) split.0 ∙ sym parts,
    )

-- and only such a unit does
pub place-by_prefix : (queue : Queue) (units front : List AleUnit) (k : ℕ) (unit : AleUnit) → NoneTwice (tids_of units) → slice_get units k ≡ Some unit
    → stands_in queue unit ≡ true → IsPrefix (front ++ unit ∷ []) (in_queue queue units) → length front ≡ length (in_queue queue (take k units))
place-by_prefix queue units front k unit none at stands prefix =
    let parts = queue_parts queue units k unit at stands in
    same_place front prefix.0 (in_queue queue (take k units)) (in_queue queue (drop (k + 1) units)) unit
    (subst (λ us. NoneTwice (tids_of us)) parts (NoneTwice-filter (stands_in queue) units none))
    (sym (append_assoc front (unit ∷ []) prefix.0) ∙ prefix.1 ∙ parts)

-- functions whose images of a list are the same agree at each element
pub map-same : (f g : List ℕ → ℕ) (names : List (List ℕ)) (name : List ℕ) → map f names ≡ map g names → Contains names name → f name ≡ g name
map-same f g names name same has =
    let found = place_of names name has in at_place f g names name found.0 same found.1
  where
    at_place : (f g : List ℕ → ℕ) (names : List (List ℕ)) (name : List ℕ) (k : ℕ) → map f names ≡ map g names → slice_get names k ≡ Some name → f name ≡ g name
    at_place f g [] name k same at = cc
    at_place f g (n ∷ ns) name zero same at =
        let is : n ≡ name = cc in let here : f n ≡ g n = cc in sym (ap f is) ∙ here ∙ ap g is
    at_place f g (n ∷ ns) name (suc k) same at = let rest : map f ns ≡ map g ns = cc in at_place f g ns name k rest at

-- functions that agree at each element have the same images of a list
pub map-agree : (f g : List ℕ → ℕ) (names : List (List ℕ)) → ((name : List ℕ) → Contains names name → f name ≡ g name) → map f names ≡ map g names
map-agree f g [] agree = refl
map-agree f g (n ∷ ns) agree =
    ap (λ m. m ∷ map f ns) (agree n (Contains-here n ns)) ∙ ap (λ ms. g n ∷ ms) (map-agree f g ns (λ name has. agree name (Contains-there n ns name has)))

-- the places of all systems' units, one by one
pub AreAllPlacesOf-each : (committed : List (List AleUnit)) (all : List (List (List ℕ))) → AreMadeOf ArePlacesOf committed all → AreAllPlacesOf (of_system committed) all
AreAllPlacesOf-each committed all each zero = ArePlacesOf-none
AreAllPlacesOf-each committed all each (suc k) = at_each_place ArePlacesOf committed all [] each ArePlacesOf-none k
